use Rattle.syn_proposals.specs.Leftovers.{AreFirst}
use Rattle.syn_proposals.proofs.remaining.first_nodes.Given as goal

abbrev pub invariant-loop-node : goal.invariant-loop-node
invariant-loop-node l = AreFirst l.node l.nodes.items
