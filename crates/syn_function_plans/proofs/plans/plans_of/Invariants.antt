use Rattle.std.proofs.Common.{◌≡◌, All, length, map, take}
use Rattle.syn_plan.specs.Naming.{built_of}
use Rattle.syn_library.specs.Fitting.{Computes, fitted_built}
use Rattle.syn_library.specs.Library.{NamesOwn}
use Rattle.syn_function_plans.proofs.plans.plans_of.Given as goal

abbrev pub invariant-loop-plan : goal.invariant-loop-plan
invariant-loop-plan l = record {
  count : length l.fitted.items ≡ l.plan-index;
  built : map built_of l.fitted.items ≡ map (fitted_built l.transform) (map built_of (take l.plan-index l.plan-items));
  leaves : All (λ p. p.leaves ≡ 4) l.fitted.items;
  values : All (λ p. Computes p l.function) l.fitted.items;
  names : All (λ p. NamesOwn p l.function) l.fitted.items;
}
