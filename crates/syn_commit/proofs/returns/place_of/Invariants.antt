use Rattle.std.proofs.Common.{◌≡◌, drop}
use Rattle.syn_rows.specs.Nodes.{has_node}
use Rattle.syn_decide.specs.Walk.{nodes_of}
use Rattle.syn_commit.proofs.returns.place_of.Given as goal

abbrev pub invariant-loop-i : goal.invariant-loop-i
invariant-loop-i l = has_node (nodes_of (drop l.i l.rows)) l.node ≡ has_node (nodes_of l.rows) l.node
