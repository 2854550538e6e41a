-- What follows of closed rows and of first proposals.
use Rattle.std.specs.Prelude.{◌≡◌, ℕ, ◌<◌, ℤ, pos, ◌≤ℤ◌, true, All, List, ◌++◌, length, slice_index_or}
use Rattle.syn_rows.specs.declared.Lit.{Lit}
use Rattle.syn_rows.specs.declared.Row.{Row}
use Rattle.syn_rows.specs.Rows.{row_at}
use Rattle.syn_rows.specs.Reach.{is_and}
use Rattle.syn_gain.specs.Replacements.{Replacement, SavedBy}
use Rattle.syn_proposals.specs.Closing.{Closed, IsFirst, SavesNothing}

-- On closed rows, whatever number a proposal for an AND saves, it is at most 0.
abbrev pub ClosedSavesNothing : Type 0
ClosedSavesNothing = (rows : List Row) (observed : List Lit) (proposals : ℕ → List Replacement) → Closed rows observed proposals
    → (node i : ℕ) (d : Replacement) (s : ℤ) → is_and (row_at rows node) ≡ true → i < length (proposals node)
    → SavedBy rows observed (slice_index_or (proposals node) i d) s → s ≤ℤ pos 0

-- The first of a part, behind others that save nothing, is the first of all.
abbrev pub FirstOfParts : Type 0
FirstOfParts = (rows : List Row) (observed : List Lit) (before part after : List Replacement) (r : Replacement)
    → All (SavesNothing rows observed) before → IsFirst rows observed part r → IsFirst rows observed (before ++ part ++ after) r
