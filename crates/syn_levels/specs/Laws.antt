-- What a replacement does to levels.
use Rattle.std.specs.Prelude.{◌≡◌, ℕ, ◌<◌, ◌≤◌, true, List, length}
use Rattle.syn_rows.specs.declared.Row.{Row}
use Rattle.syn_rows.specs.Rows.{InOrder}
use Rattle.syn_rows.specs.Levels.{HasLevels, level_in, levels_of}
use Rattle.syn_gain.specs.Leaves.{are_below}
use Rattle.syn_gain.specs.Replacements.{Replacement, rows_after_by}
use Rattle.syn_levels.specs.Levels.{keeps_level}

-- A replacement that keeps its root's level raises the level of no node that was there.
abbrev pub LevelsStay : Type 0
LevelsStay = (rows : List Row) (r : Replacement) → InOrder rows → 0 < r.root → r.root < length rows → are_below r.root r.leaves ≡ true → keeps_level rows r ≡ true
    → (level : ℕ → ℕ) → HasLevels (rows_after_by rows r) level → (n : ℕ) → n < length rows → level n ≤ level_in (levels_of rows) n
