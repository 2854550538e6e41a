use Rattle.std.proofs.Common.{◌≡◌, ℕ, ◌+◌, ◌<◌, true, get_or, ap, ◌∙◌, subst, arith, inl, inr}
use Rattle.std.proofs.lemmas.Bool.{cases_lt}
use Rattle.std.proofs.lemmas.List.{get_or_default}
use Rattle.syn_plan.specs.declared.plan.Plan.{Plan}
use Rattle.syn_weighing.specs.Irredundant.{is_named}
use Rattle.syn_weighing.proofs.irredundant.leaves_named_by_all.Goals as goal

pub loop-plan-preserved : goal.loop-plan-preserved
loop-plan-preserved c = λ k d le lt i few. elim (cases_lt k c.loop-plan.plan-index) [
  | inl less ↦ c.loop-plan.invariant k d le less i (omega (arith, few, c.min-least.ensures))
  | inr ge ↦
      let plans = c.args.plans.now in
      let place = c.loop-plan.plan-index in
      let same : place ≡ k = omega (arith, ge, lt) in
      let item : c.plan-item.result ≡ get_or plans k d = c.plan-item.is ∙ get_or_default plans place c.plan-item.result d (omega (arith, c.loop-plan-test.true)) ∙ ap (λ (j : ℕ). get_or plans j d) same in
      subst (λ (p : Plan). (i < p.leaves) × (is_named p.gates.items p.out (1 + i) ≡ true)) item (c.leaves_named.ensures i (omega (arith, few, c.min-least.ensures)))
]

pub returns : goal.returns
returns c = λ k d lt. c.loop-plan.invariant k d (omega arith) (omega (arith, lt, c.loop-plan-test.false))
