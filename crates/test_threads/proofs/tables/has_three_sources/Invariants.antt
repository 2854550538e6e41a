use Rattle.std.proofs.Common.{ℕ, ◌<◌}
use Rattle.test_threads.proofs.Sources.{SourceFits}
use Rattle.test_threads.proofs.tables.has_three_sources.Given as goal

abbrev pub invariant-loop-node : goal.invariant-loop-node
invariant-loop-node l = (n : ℕ) → n < l.node → SourceFits l.rows n
