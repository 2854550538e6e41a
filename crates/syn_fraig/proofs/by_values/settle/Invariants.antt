use Rattle.std.proofs.Common.{ℕ, ◌<◌}
use Rattle.syn_fraig.specs.Tables.{AreAlike}
use Rattle.syn_fraig.proofs.by_values.settle.Given as goal

abbrev pub invariant-loop-round : goal.invariant-loop-round
invariant-loop-round l = (round : ℕ) → round < l.round → AreAlike l.rows round l.alike
