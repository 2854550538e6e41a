use Rattle.std.specs.List.{AllWithin}
use Rattle.syn_weighing.specs.Irredundant.{IsIrredundantPlan}
use Rattle.syn_weighing.proofs.irredundant.are_irredundant.Given as goal

abbrev pub invariant-loop-plan : goal.invariant-loop-plan
invariant-loop-plan l = AllWithin IsIrredundantPlan l.plans 0 l.plan-index
