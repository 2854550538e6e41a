use Rattle.std.proofs.Common.{◌≡◌, ℕ, ◌<◌, Some, None, length, get_or}
use Rattle.syn_plan.specs.declared.plan.Plan.{Plan}
use Rattle.syn_weighing.specs.declared.all_new.AllNew.{AllNew}
use Rattle.syn_weighing.specs.AllNew.{IsApartPlan}
use Rattle.syn_weighing.proofs.all_new.all_new_of_each.Given as goal

abbrev pub invariant-loop-plan : goal.invariant-loop-plan
invariant-loop-plan l = record {
  long : length l.told.items ≡ l.plan-index;
  each : (i : ℕ) (p : Plan) (a : AllNew) → i < l.plan-index → get_or l.told.items i None ≡ Some a → IsApartPlan a (get_or l.plans.items i p);
}
