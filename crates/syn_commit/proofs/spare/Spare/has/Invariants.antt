use Rattle.std.proofs.Common.{◌≡◌, drop}
use Rattle.syn_rows.specs.Nodes.{has_node}
use Rattle.syn_commit.proofs.spare.Spare.has.Given as goal

abbrev pub invariant-loop-spare : goal.invariant-loop-spare
invariant-loop-spare l = has_node (drop l.spare-index l.spare-items) l.node ≡ has_node l.self l.node
