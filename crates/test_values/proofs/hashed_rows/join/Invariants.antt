use Rattle.std.proofs.Common.{ℕ, ◌≤◌, length}
use Rattle.test_values.proofs.hashed_rows.join.Given as goal

abbrev pub invariant-loop-place : goal.invariant-loop-place
invariant-loop-place l = length l.hashed.rows.items ≤ 101
