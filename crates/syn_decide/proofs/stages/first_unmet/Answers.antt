use Rattle.std.proofs.Common.{sym, ◌∙◌}
use Rattle.syn_decide.specs.Tasks.{task_of}
use Rattle.syn_decide.proofs.Using.{unmet_past, unmet_unused}
use Rattle.syn_decide.proofs.stages.first_unmet.Goals as goal
use Rattle.syn_decide.proofs.stages.first_unmet.Goals.{else-not-is_met-via-then-not-is_met+else-uses, else-not-is_met-via-else-not-is_met}

pub loop-i-preserved : goal.loop-i-preserved
loop-i-preserved c =
    elim c.else-not-is_met.branch [
      | else-not-is_met-via-then-not-is_met+else-uses w ↦ unmet_unused (task_of c.args.attempt.now) c.args.inner.now c.args.attempt.now.candidate.leaves.now c.loop-i.i c.loop-i-test.true (sym w.uses.ensures ∙ w.if-uses.false) ∙ c.loop-i.invariant
      | else-not-is_met-via-else-not-is_met w ↦ unmet_past (task_of c.args.attempt.now) c.args.inner.now c.args.attempt.now.candidate.leaves.now c.loop-i.i _ c.loop-i-test.true (sym c.is_met.ensures ∙ w.if-not-is_met.false) ∙ c.loop-i.invariant
    ]
