use Rattle.std.proofs.Common.{◌≡◌, drop}
use Rattle.syn_rows.specs.Nodes.{has_node}
use Rattle.syn_decide.specs.Dying.{counted_nodes}
use Rattle.syn_decide.proofs.lists.has_counted.Given as goal

abbrev pub invariant-loop-r : goal.invariant-loop-r
invariant-loop-r l = has_node (counted_nodes (drop l.r-index l.rows)) l.node ≡ has_node (counted_nodes l.rows) l.node
