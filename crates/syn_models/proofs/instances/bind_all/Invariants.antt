use Rattle.std.proofs.Common.{◌≡◌, ℕ, true, length, drop}
use Rattle.syn_models.specs.Called.{actuals_below, BelowEach, BindsEach}
use Rattle.syn_models.proofs.instances.bind_all.Given as goal

abbrev pub invariant-loop-j : goal.invariant-loop-j
invariant-loop-j l = record {
  size : length l.actuals ≡ length l.own;
  each : BindsEach l.own (drop l.j l.binds) l.actuals;
  below : (count : ℕ) → actuals_below count l.binds ≡ true → BelowEach count l.actuals;
}
