use Rattle.std.proofs.Common.{◌≡◌, ℕ, ◌<◌, ◌≤◌, get_or}
use Rattle.syn_truth.specs.Truth.{Depends}
use Rattle.syn_absorb.proofs.narrow.first_idle.Given as goal

abbrev pub invariant-loop-signal : goal.invariant-loop-signal
invariant-loop-signal l = record {
  place : l.i ≡ l.signal-index;
  needed : (i : ℕ) → i < l.signal-index → (1 ≤ get_or l.inputs i 0) × Depends l.truth i;
}
