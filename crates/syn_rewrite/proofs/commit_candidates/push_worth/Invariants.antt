use Rattle.std.proofs.Common.{◌≡◌, All}
use Rattle.syn_weighing.specs.Weighing.{BeginsWith}
use Rattle.syn_rewrite.proofs.commit_candidates.push_worth.Given as goal

abbrev pub invariant-loop-plan : goal.invariant-loop-plan
invariant-loop-plan l = record {
  roots : All (λ p. p.root ≡ l.cut.root) l.initial.proposals.items → All (λ p. p.root ≡ l.cut.root) l.proposals.items;
  begins : BeginsWith 4 l.cut.leaves.now l.weighed;
}
