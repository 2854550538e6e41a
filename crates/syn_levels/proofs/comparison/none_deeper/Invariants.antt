use Rattle.std.proofs.Common.{ℕ, ◌<◌, ◌≤◌}
use Rattle.syn_rows.specs.Rows.{node_of}
use Rattle.syn_rows.specs.Levels.{level_in}
use Rattle.syn_hashed.specs.Hashed.{lit_at}
use Rattle.syn_levels.proofs.comparison.none_deeper.Given as goal

abbrev pub invariant-loop-i : goal.invariant-loop-i
invariant-loop-i l = (j : ℕ) → j < l.i → level_in l.after (node_of (lit_at l.new j)) ≤ level_in l.before (node_of (lit_at l.old j))
