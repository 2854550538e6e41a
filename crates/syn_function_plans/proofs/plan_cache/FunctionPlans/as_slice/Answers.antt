use Rattle.std.proofs.Common.{All, List, sym, subst}
use Rattle.syn_plan.specs.declared.plan.Plan.{Plan}
use Rattle.syn_weighing.specs.AllNew.{AreApart}
use Rattle.syn_weighing.specs.Irredundant.{IsIrredundantPlan, NamesFirst}
use Rattle.syn_function_plans.specs.PlansOf.{ArePlansOf}
use Rattle.syn_function_plans.proofs.plan_cache.FunctionPlans.as_slice.Goals as goal

pub returns-clause-plans : goal.returns-clause-plans
returns-clause-plans c =
    let own = c.args.self.now in
    subst (λ (ps : List Plan). ArePlansOf own.function ps) (sym c.as_slice.ensures.value) (record { built = own.built; leaves = own.leaves; values = own.values; names = own.names })

pub returns-clause-irredundant : goal.returns-clause-irredundant
returns-clause-irredundant c = λ h. subst (λ (ps : List Plan). All IsIrredundantPlan ps) (sym c.as_slice.ensures.value) (c.args.self.now.told h)

pub returns-clause-first : goal.returns-clause-first
returns-clause-first c = subst (λ (ps : List Plan). All (NamesFirst c.args.self.now.leaves_named) ps) (sym c.as_slice.ensures.value) c.args.self.now.first

pub returns-clause-apart : goal.returns-clause-apart
returns-clause-apart c = subst (λ (ps : List Plan). AreApart ps c.args.self.now.apart.items) (sym c.as_slice.ensures.value) c.args.self.now.stand
