use Rattle.std.proofs.Common.{◌≡◌, drop}
use Rattle.std.specs.List.{list_any}
use Rattle.syn_plan.specs.Naming.{built_of}
use Rattle.syn_library.specs.Library.{same_built}
use Rattle.syn_library.proofs.library.is_among.Given as goal

abbrev pub invariant-loop-other : goal.invariant-loop-other
invariant-loop-other l = list_any (λ p. same_built (built_of p) (built_of l.plan)) (drop l.other-index l.plans) ≡ list_any (λ p. same_built (built_of p) (built_of l.plan)) l.plans
