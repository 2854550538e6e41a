use Rattle.std.proofs.Common.{All, subst}
use Rattle.syn_weighing.specs.Irredundant.{IsIrredundantPlan, NamesFirst}
use Rattle.syn_function_plans.proofs.plan_cache.FunctionPlans.fitted.Goals as goal

pub invariant_of-result : goal.invariant_of-result
invariant_of-result c = record {
  built = c.plans_of-plans.ensures.built;
  leaves = c.plans_of-plans.ensures.leaves;
  values = c.plans_of-plans.ensures.values;
  names = c.plans_of-plans.ensures.names;
  told = λ h. subst (All IsIrredundantPlan) c.as_slice.ensures.value (c.are_irredundant-irredundant.ensures h);
  first = subst (All (NamesFirst c.leaves_named_by_all-leaves_named.result)) c.as_slice-2.ensures.value c.leaves_named_by_all-leaves_named.ensures;
  stand = c.all_new_of_each-apart.ensures;
}
