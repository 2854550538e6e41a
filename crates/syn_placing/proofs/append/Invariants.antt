use Rattle.std.proofs.Common.{◌≡◌, ◌+◌, ◌++◌, drop, length}
use Rattle.syn_hashed.specs.Growing.{Extends}
use Rattle.syn_placing.specs.Placing.{AreLacking}
use Rattle.syn_placing.proofs.append.Given as goal

abbrev pub invariant-loop-row : goal.invariant-loop-row
invariant-loop-row l = record {
  sources : l.hashed.source_count ≡ l.initial.hashed.source_count;
  grows : Extends l.initial.hashed.rows.items l.hashed.rows.items;
  count : length l.hashed.rows.items ≡ length l.initial.hashed.rows.items + l.row-index;
  rows : l.hashed.rows.items ++ drop l.row-index l.extra ≡ l.initial.hashed.rows.items ++ l.extra;
  lacking : AreLacking l.hashed.rows.items (drop l.row-index l.extra);
}
