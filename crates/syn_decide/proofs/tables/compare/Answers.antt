use Rattle.std.proofs.Common.{refl, sym, ◌∙◌}
use Rattle.syn_plan.specs.Plans.{plan_truth}
use Rattle.syn_decide.specs.Tasks.{task_of}
use Rattle.syn_decide.proofs.Tabling.{IsTold, tables_tell}
use Rattle.syn_decide.proofs.tables.compare.Goals as goal

pub returns-then-eq : goal.returns-then-eq
unfolding plan_truth
returns-then-eq c =
    let told : IsTold (task_of c.args.attempt.now) c.args.inner.now c.was_table-was.result c.in-Some.now =
    tables_tell (task_of c.args.attempt.now) c.args.inner.now c.greater-vars.result c.args.attempt.now.candidate.leaves.now c.was_table-was.result c.in-Some.now
    c.greater-vars.ensures refl c.was_table-was.ensures.vars c.in-Some.ensures.vars c.was_table-was.ensures.values c.in-Some.ensures.values in
    (told.no_circle, sym told.same ∙ sym c.eq.ensures ∙ c.if-eq.true)

pub returns-else-eq : goal.returns-else-eq
unfolding plan_truth
returns-else-eq c =
    let told : IsTold (task_of c.args.attempt.now) c.args.inner.now c.was_table-was.result c.in-Some.now =
    tables_tell (task_of c.args.attempt.now) c.args.inner.now c.greater-vars.result c.args.attempt.now.candidate.leaves.now c.was_table-was.result c.in-Some.now
    c.greater-vars.ensures refl c.was_table-was.ensures.vars c.in-Some.ensures.vars c.was_table-was.ensures.values c.in-Some.ensures.values in
    (told.no_circle, sym told.same ∙ sym c.eq.ensures ∙ c.if-eq.false, told.was_is, told.now_is)
