use Rattle.std.proofs.Common.{◌≡◌, ℕ, ◌<◌, length}
use Rattle.syn_models.specs.Called.{called_number}
use Rattle.syn_models.proofs.instance_calls.numbers_below.Given as goal

abbrev pub invariant-loop-i : goal.invariant-loop-i
invariant-loop-i l = record {
  size : length l.numbers.items ≡ l.i;
  each : (k : ℕ) → k < l.i → called_number l.numbers.items k ≡ k;
}
