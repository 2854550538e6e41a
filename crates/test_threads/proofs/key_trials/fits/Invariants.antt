use Rattle.std.proofs.Common.{ℕ, ◌<◌}
use Rattle.test_threads.proofs.Keyed.{RowFits}
use Rattle.test_threads.proofs.key_trials.fits.Given as goal

abbrev pub invariant-loop-node : goal.invariant-loop-node
invariant-loop-node l = (n : ℕ) → n < l.node → RowFits l.rows l.keys n
