-- What a table is closed with.
use Rattle.std.specs.Prelude.{◌≡◌, ◌≢◌, ◌↔◌, ℕ, ◌+◌, ◌*◌, ◌<◌, Bool, false, All, List, length, slice_index, ℤ, pos, ◌+ℤ◌}
use mathlib.Core.Option.{some}
use lib.ListN.{get_elem?}
use Rattle.syn_rows.specs.declared.Row.{Row}
use Rattle.syn_rows.specs.declared.Row.TheVariants.{Free, Source}
use Rattle.syn_rows.specs.declared.Lit.{Lit}
use Rattle.syn_rows.specs.Packing.{word_of, Packs}
use Rattle.syn_rows.specs.Rows.{row_at, node_of, AllRefs, Rises}
use Rattle.syn_rows.specs.Values.{Fits, SameSources}
use Rattle.syn_rows.specs.References.{all_ands}
use Rattle.syn_core_laws.specs.Cores.{Core}
use Rattle.syn_core_laws.specs.Sound.{Agree}
use Rattle.syn_table.specs.declared.Known.{Known}
use Rattle.syn_table.specs.declared.Seat.{Seat}
use Rattle.syn_table.specs.declared.Shared.{Shared}
use Rattle.syn_table.specs.Seating.{known_of}
use Rattle.syn_table.specs.Rule.{IsTable}

-- the last words of the table are those of a sound core with these rows and observed literals, in which the seat has its view
abbrev pub IsLast : Shared → Seat → List Row → List Lit → Type 0
IsLast shared seat rows observed = (words : List ℕ) × (seats : List Known) × (c : Core) × IsTable shared.table.shared.key words seats c
    × (get_elem? seats seat.token.id ≡ some (known_of seat)) × (rows ≡ c.rows) × (observed ≡ c.observed)

-- for each choice of source values some valuation fits the rows
abbrev pub HasValuations : List Row → Type 0
HasValuations rows = (given : ℕ → Bool) → given 0 ≡ false → (v : ℕ → Bool) × Fits rows v × ((n : ℕ) → row_at rows n ≡ Source → v n ≡ given n)

-- rows and literals that a table may be closed with, by the rows and literals that it was opened with and the difference in ANDs
pub record IsClosing (opening : List Row) (literals : List Lit) (difference : ℤ) (rows : List Row) (observed : List Lit) : Type 0 where
  -- a row for each node
  pub count : length rows ≡ length opening
  -- the literals are those of the opening
  pub literals_stay : observed ≡ literals
  -- where the sources have the same values, the literals have the values that they had in the opening
  pub values : (v w : ℕ → Bool) → Fits rows v → Fits opening w → SameSources opening v w → Agree observed v w
  pub valuations : HasValuations rows
  -- there is no circle: some rank rises along references
  pub no_circle : (rank : ℕ → ℕ) × Rises rows rank
  -- the sources are those of the opening
  pub sources : (n : ℕ) → (row_at rows n ≡ Source) ↔ (row_at opening n ≡ Source)
  -- each literal of a row, and each observed one, goes to a row that is there and isn't free
  pub rests : (n : ℕ) → AllRefs (λ m. row_at rows m ≢ Free) (row_at rows n)
  pub observes : All (λ l. row_at rows (node_of l) ≢ Free) observed
  -- the ANDs, reached or not, number those of the opening and the difference
  pub ands : pos (all_ands rows) ≡ pos (all_ands opening) +ℤ difference

-- the first rows are those of the words: whichever row packs to the word of a node is its row
abbrev pub ReadsBack : List ℕ → List Row → Type 0
ReadsBack words rows = (n : ℕ) → n < length rows → (r : Row) → Packs r → word_of r ≡ slice_index words (2 + 4 * n) → row_at rows n ≡ r
