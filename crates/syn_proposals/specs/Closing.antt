-- Rows on which no proposal saves anything.
use Rattle.std.specs.Prelude.{◌≡◌, ℕ, ◌<◌, true, All, List, length, slice_index_or}
use Rattle.std.specs.List.{AllWithin}
use Rattle.syn_rows.specs.declared.Lit.{Lit}
use Rattle.syn_rows.specs.declared.Row.{Row}
use Rattle.syn_rows.specs.Rows.{row_at}
use Rattle.syn_rows.specs.Reach.{is_and}
use Rattle.syn_gain.specs.Replacements.{Replacement}
unfoldable pub use Rattle.syn_gain.specs.Replacements.{SavesNothing, SavesSome}

-- Closed rows: each proposal of each AND saves nothing.
abbrev pub Closed : List Row → List Lit → (ℕ → List Replacement) → Type 0
Closed rows observed proposals = (node : ℕ) → is_and (row_at rows node) ≡ true → All (SavesNothing rows observed) (proposals node)

-- The first of a list that saves: it stands at some place, and those before it save nothing.
pub record IsFirst (rows : List Row) (observed : List Lit) (all : List Replacement) (r : Replacement) : Type 0 where
  pub place : ℕ
  pub there : place < length all
  pub at : (d : Replacement) → slice_index_or all place d ≡ r
  pub saves : SavesSome rows observed r
  pub before : AllWithin (SavesNothing rows observed) all 0 place

-- The first proposal of an AND that saves.
pub record IsFirstOf (rows : List Row) (observed : List Lit) (proposals : ℕ → List Replacement) (r : Replacement) : Type 0 where
  pub gate : is_and (row_at rows r.root) ≡ true
  pub first : IsFirst rows observed (proposals r.root) r
