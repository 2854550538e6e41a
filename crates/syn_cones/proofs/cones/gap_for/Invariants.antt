use Rattle.std.proofs.Common.{◌≡◌, ◌++◌, take, drop}
use Rattle.syn_cones.specs.Walk.{put_node}
use Rattle.syn_cones.proofs.cones.gap_for.Given as goal

abbrev pub invariant-loop-i : goal.invariant-loop-i
invariant-loop-i l = put_node l.node l.nodes ≡ take l.i l.nodes ++ put_node l.node (drop l.i l.nodes)
