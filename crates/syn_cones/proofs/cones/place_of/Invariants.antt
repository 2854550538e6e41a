use Rattle.std.proofs.Common.{◌≡◌, drop}
use Rattle.syn_rows.specs.Nodes.{has_node}
use Rattle.syn_cones.proofs.cones.place_of.Given as goal

abbrev pub invariant-loop-i : goal.invariant-loop-i
invariant-loop-i l = has_node (drop l.i l.nodes) l.node ≡ has_node l.nodes l.node
