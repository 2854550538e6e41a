use Rattle.std.proofs.Common.{◌≡◌, ◌+◌, ◌≤◌, ◌++◌, ◌∷◌, [], drop, length}
use Rattle.syn_decide.specs.Tasks.{task_of}
use Rattle.syn_decide.specs.Functions.{used_from}
use Rattle.syn_decide.proofs.stages.add_keys.Given as goal

abbrev pub invariant-loop-i : goal.invariant-loop-i
invariant-loop-i l = record {
  keys : l.waiting ≡ used_from (task_of l.attempt) l.i (drop l.i l.leaves) ++ l.attempt.candidate.root ∷ [];
  within : l.i ≤ length l.leaves;
  few : length l.waiting + l.i ≤ 9;
}

abbrev pub decreases-loop-i : goal.decreases-loop-i
decreases-loop-i l = l.i
