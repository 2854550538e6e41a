use Rattle.std.proofs.Common.{◌≡◌, ◌++◌, drop}
use Rattle.syn_rows.specs.Values.{value_in}
use Rattle.syn_hashed.specs.Compacting.{is_kept, kept_from, kept_rows}
use Rattle.syn_hashed.proofs.compaction.kept_rows.Given as goal

abbrev pub invariant-loop-n : goal.invariant-loop-n
invariant-loop-n l = l.kept.items ++ kept_from (is_kept l.count (value_in l.marks)) l.n (drop l.n l.rows) ≡ kept_rows (is_kept l.count (value_in l.marks)) l.rows
