use Rattle.std.proofs.Common.{◌≡◌, ℕ, List, [], ◌∷◌, Option, None, length, get_or, sym, ap, ◌∙◌, subst, arith, inl, inr}
use Rattle.std.proofs.lemmas.Bool.{cases_lt}
use Rattle.std.proofs.lemmas.List.{get_or_append_left, get_or_default, get_or_push, length_push}
use Rattle.syn_plan.specs.declared.plan.Plan.{Plan}
use Rattle.syn_weighing.specs.declared.all_new.AllNew.{AllNew}
use Rattle.syn_weighing.specs.AllNew.{IsApartPlan}
use Rattle.syn_weighing.proofs.all_new.all_new_of_each.Goals as goal

pub loop-plan-preserved : goal.loop-plan-preserved
loop-plan-preserved c =
    let told = c.loop-plan.told.items in
    let place = c.loop-plan.plan-index in
    let long = c.loop-plan.invariant.long in
    let all = c.deref-plan-items.result.now in
    record {
      long = omega (arith, ap (λ (os : List (Option AllNew)). length os) c.push.ensures.items, length_push told c.told_of.result, long);
      each = λ i p a lt is. elim (cases_lt i place) [
        | inl less ↦
            c.loop-plan.invariant.each i p a less
            (sym (ap (λ (os : List (Option AllNew)). get_or os i None) c.push.ensures.items ∙ get_or_append_left told (c.told_of.result ∷ []) None i (omega (arith, less, long))) ∙ is)
        | inr ge ↦
            let same : place ≡ i = omega (arith, ge, lt) in
            let one = c.told_of.ensures a (sym (ap (λ (os : List (Option AllNew)). get_or os i None) c.push.ensures.items ∙ get_or_push told c.told_of.result None i (long ∙ same)) ∙ is) in
            let item : c.plan-item.result ≡ get_or c.args.plans.now.items i p =
            c.plan-item.is ∙ get_or_default all place c.plan-item.result p (omega (arith, c.loop-plan-test.true)) ∙ ap (λ (k : ℕ). get_or all k p) same ∙ ap (λ (ps : List Plan). get_or ps i p) c.deref-plan-items.ensures.0 in
            subst (IsApartPlan a) item one
      ];
    }

pub returns : goal.returns
returns c = λ i p a lt is.
    c.loop-plan.invariant.each i p a (omega (arith, lt, c.loop-plan-test.false, ap (λ (ps : List Plan). length ps) c.deref-plan-items.ensures.0)) is
