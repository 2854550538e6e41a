use Rattle.std.proofs.Common.{◌≡◌, drop}
use Rattle.syn_rows.specs.Nodes.{has_node}
use Rattle.syn_decide.specs.Walk.{nodes_of}
use Rattle.syn_decide.proofs.lists.has_row.Given as goal

abbrev pub invariant-loop-r : goal.invariant-loop-r
invariant-loop-r l = has_node (nodes_of (drop l.r-index l.rows)) l.node ≡ has_node (nodes_of l.rows) l.node
