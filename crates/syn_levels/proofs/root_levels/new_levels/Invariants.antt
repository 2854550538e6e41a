use Rattle.std.proofs.Common.{◌≡◌, ◌+◌, ◌^◌, ◌≤◌, ◌++◌, All, drop, length}
use Rattle.syn_rows.specs.Rows.{fold_rows}
use Rattle.syn_rows.specs.Levels.{row_level}
use Rattle.syn_levels.proofs.root_levels.new_levels.Given as goal

abbrev pub invariant-loop-row : goal.invariant-loop-row
invariant-loop-row l = record {
  left : fold_rows row_level 0 (l.levels ++ l.new.items) (drop l.row-index l.extra) ≡ fold_rows row_level 0 l.levels l.extra;
  count : length l.new.items ≡ l.row-index;
  low : All (λ level. level ≤ 2 ^ 32 + length l.new.items) l.new.items;
}
