use Rattle.std.proofs.Common.{◌≡◌, All}
use Rattle.syn_proposals.proofs.kept_levels.low.Given as goal

abbrev pub invariant-loop-proposal : goal.invariant-loop-proposal
invariant-loop-proposal l = All (λ p. p.root ≡ l.node) l.low.items
