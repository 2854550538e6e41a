use Rattle.std.specs.List.{AllWithin}
use Rattle.syn_gain.specs.Proposals.{replacement}
use Rattle.syn_proposals.specs.Closing.{SavesNothing}
use Rattle.syn_proposals.proofs.proposer.place_of_first.Given as goal

abbrev pub invariant-loop-i : goal.invariant-loop-i
invariant-loop-i l = AllWithin (λ p. SavesNothing l.graph.rows l.graph.observed (replacement p)) l.proposals 0 l.i
