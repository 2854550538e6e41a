use Rattle.std.specs.List.{AllWithin}
use Rattle.syn_plan.specs.Naming.{built_of}
use Rattle.syn_proposals.specs.Closing.{SavesNothing}
use Rattle.syn_weighing.specs.Weighing.{BeginsWith}
use Rattle.syn_rewrite.specs.Rewriting.{over}
use Rattle.syn_rewrite.proofs.proposer.some_saves.Given as goal

abbrev pub invariant-loop-i : goal.invariant-loop-i
invariant-loop-i l = record {
  none : AllWithin (λ p. SavesNothing l.graph.rows l.graph.observed (over l.cut.root l.cut.leaves.now (built_of p))) l.all 0 l.i;
  begins : BeginsWith 4 l.cut.leaves.now l.weighed;
}
