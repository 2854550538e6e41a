use Rattle.std.proofs.Common.{◌≡◌, drop}
use Rattle.syn_rows.specs.Nodes.{has_node}
use Rattle.syn_rows.proofs.lists.has_node.Given as goal

abbrev pub invariant-loop-other : goal.invariant-loop-other
invariant-loop-other l = has_node (drop l.other-index l.nodes) l.node ≡ has_node l.nodes l.node
