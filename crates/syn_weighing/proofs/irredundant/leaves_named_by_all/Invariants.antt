use Rattle.std.specs.List.{AllWithin}
use Rattle.syn_weighing.specs.Irredundant.{NamesFirst}
use Rattle.syn_weighing.proofs.irredundant.leaves_named_by_all.Given as goal

abbrev pub invariant-loop-plan : goal.invariant-loop-plan
invariant-loop-plan l = AllWithin (NamesFirst l.least) l.plans 0 l.plan-index
