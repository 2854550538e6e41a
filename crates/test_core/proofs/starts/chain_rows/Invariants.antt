use Rattle.std.proofs.Common.{◌≡◌, length, ◌+◌}
use Rattle.test_core.proofs.starts.chain_rows.Given as goal

-- each node up to this one has a row
abbrev pub invariant-loop-before : goal.invariant-loop-before
invariant-loop-before l = length l.rows.items ≡ 1 + l.before
