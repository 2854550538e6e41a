use Rattle.std.proofs.Common.{◌≡◌, drop}
use Rattle.syn_hashed.specs.Walking.{enters}
use Rattle.syn_hashed.proofs.visit.first_steps.Given as goal

abbrev pub invariant-loop-i : goal.invariant-loop-i
invariant-loop-i l = l.steps.items ≡ enters (drop l.i l.observed)
