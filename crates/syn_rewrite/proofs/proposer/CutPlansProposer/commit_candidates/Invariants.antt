use Rattle.std.proofs.Common.{◌≡◌, All}
use Rattle.syn_rewrite.proofs.proposer.CutPlansProposer.commit_candidates.Given as goal

abbrev pub invariant-loop-i : goal.invariant-loop-i
invariant-loop-i l = All (λ p. p.root ≡ l.node) l.proposals.items
