use Rattle.std.specs.List.{AllWithin}
use Rattle.syn_plan.specs.Naming.{built_of}
use Rattle.syn_proposals.specs.Closing.{SavesNothing}
use Rattle.syn_rewrite.specs.Rewriting.{over}
use Rattle.syn_rewrite.proofs.proposer.first_over.Given as goal

abbrev pub invariant-loop-plan : goal.invariant-loop-plan
invariant-loop-plan l = AllWithin (λ p. SavesNothing l.graph.rows l.graph.observed (over l.cut.root l.cut.leaves.now (built_of p))) l.plans 0 l.plan-index
