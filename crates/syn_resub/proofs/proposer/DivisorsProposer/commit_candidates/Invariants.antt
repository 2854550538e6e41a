use Rattle.std.proofs.Common.{◌≡◌, All}
use Rattle.syn_resub.proofs.proposer.DivisorsProposer.commit_candidates.Given as goal

abbrev pub invariant-loop-place : goal.invariant-loop-place
invariant-loop-place l = All (λ p. p.root ≡ l.node) l.proposals.items
