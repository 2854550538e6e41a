use Rattle.std.proofs.Common.{◌≡◌, drop, not}
use Rattle.std.specs.Prelude.{find}
use Rattle.syn_decide.specs.Tasks.{task_of}
use Rattle.syn_decide.specs.Functions.{used_from}
use Rattle.syn_decide.specs.Walk.{is_met}
use Rattle.syn_decide.specs.Fold.{first_unmet}
use Rattle.syn_decide.proofs.stages.first_unmet.Given as goal

abbrev pub invariant-loop-i : goal.invariant-loop-i
invariant-loop-i l = find (λ leaf. not (is_met l.inner leaf)) (used_from (task_of l.attempt) l.i (drop l.i l.leaves)) ≡ first_unmet (task_of l.attempt) l.inner
