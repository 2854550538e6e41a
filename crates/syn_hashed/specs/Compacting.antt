-- Compaction: what it takes and what it gives. Its last step drops rows, and the others move down in their order.
use Rattle.std.specs.Prelude.{◌≡◌, ◌≢◌, ℕ, zero, suc, ◌+◌, ◌*◌, ◌%◌, ◌<◌, ◌≤◌, ◌||◌, nat_lt, if◌then◌else◌, Bool, false, All, List, [], ◌∷◌, ◌++◌, length, map, slice_index}
use Rattle.syn_rows.specs.declared.Lit.{Lit}
use Rattle.syn_rows.specs.declared.Row.{Row}
use Rattle.syn_rows.specs.declared.Row.TheVariants.{Free, Source, And, Alias}
use Rattle.syn_rows.specs.Rows.{node_of, row_at, AllRefs, Rises}
use Rattle.syn_rows.specs.Values.{Fits, given_by, lit_value, rows_function}
use Rattle.syn_rows.specs.Levels.{HasLevels}
use Rattle.syn_rows.specs.Reach.{Ands, Reached}
use Rattle.syn_hashed.specs.Hashed.{IsHashed, lit_at}
use Rattle.syn_hashed.specs.Growing.{level_by}

-- the node's row is there, and it isn't free
abbrev pub IsThere : List Row → ℕ → Type 0
IsThere rows n = row_at rows n ≢ Free

-- Rows and literals over so many sources that can be compacted: node 0 and the sources have source rows, and no other node has; each literal of a row and each given one names a row that is there and isn't free; some rank rises along references, so that these make no circle. Rows may stand in any order, and aliases, free rows and rows that nothing reaches may be among them.
pub record CanCompact (count : ℕ) (rows : List Row) (lits : List Lit) : Type 0 where
  pub front : (n : ℕ) → n < count + 1 → row_at rows n ≡ Source
  pub others : (n : ℕ) → count < n → row_at rows n ≢ Source
  pub refs : (n : ℕ) → AllRefs (IsThere rows) (row_at rows n)
  pub named : All (λ l. IsThere rows (node_of l)) lits
  pub acyclic : (rank : ℕ → ℕ) × Rises rows rank

-- the valuation has the given values at node 0 and the sources
abbrev pub HasSources : ℕ → (ℕ → Bool) → (ℕ → Bool) → Type 0
HasSources count given v = (n : ℕ) → n < count + 1 → v n ≡ given n

-- for all given values, node 0's false, some valuation that has them at the sources fits the rows
abbrev pub HasValuation : ℕ → List Row → Type 0
HasValuation count rows = (given : ℕ → Bool) → given 0 ≡ false → (v : ℕ → Bool) × Fits rows v × HasSources count given v

-- whatever the sources' values and whichever valuation with them fits the old rows, the old literals have by it the values that the new ones have by the new rows
abbrev pub SameValues : ℕ → List Row → List Lit → List Row → List Lit → Type 0
SameValues count rows lits new_rows new_lits = (bits : List Bool) (v : ℕ → Bool) → Fits rows v → HasSources count (given_by bits) v → map (lit_value v) lits ≡ rows_function new_rows new_lits bits

-- What compaction gives: hashed rows of which every AND is reached, no more of them than before, and none but for sources and ANDs that were reached before; literals of the same values, none of them higher. A literal of a source stays.
pub record IsCompacted (count : ℕ) (rows : List Row) (lits : List Lit) (new_rows : List Row) (new_lits : List Lit) : Type 0 where
  pub hashed : IsHashed count new_rows
  pub same_count : length new_lits ≡ length lits
  pub within : All (λ l. node_of l < length new_rows) new_lits
  pub reached : (n : ℕ) → count < n → n < length new_rows → Reached new_rows new_lits n
  pub fewer : length new_rows ≤ length rows
  pub ands : (k : ℕ) → Ands rows lits k → length new_rows ≤ count + 1 + k
  pub same_values : SameValues count rows lits new_rows new_lits
  pub levels : (level : ℕ → ℕ) → HasLevels rows level → (i : ℕ) → i < length lits → level_by new_rows (lit_at new_lits i) ≤ level (node_of (lit_at lits i))
  pub sources_stay : (i : ℕ) (l : Lit) → i < length lits → node_of l < count + 1 → lit_at lits i ≡ l → lit_at new_lits i ≡ l

-- node 0 and the sources are kept, and so is each node of the set
abbrev pub is_kept : ℕ → (ℕ → Bool) → ℕ → Bool
is_kept count set n = nat_lt n (count + 1) || set n

-- how many nodes below n are kept: where a kept node n moves to
abbrev pub kept_below : (ℕ → Bool) → ℕ → ℕ
kept_below keep zero = 0
kept_below keep (suc n) = kept_below keep n + (if keep n then 1 else 0)

-- a literal whose node moves keeps its sign
abbrev pub moved_lit : (ℕ → ℕ) → Lit → Lit
moved_lit place l = record { 0 = 2 * place (node_of l) + l.0 % 2 }

abbrev pub moved_row : (ℕ → ℕ) → Row → Row
moved_row place Free = Free
moved_row place Source = Source
moved_row place (And a b) = And (moved_lit place a) (moved_lit place b)
moved_row place (Alias a) = Alias (moved_lit place a)

-- the kept rows of a list that begins with node n's, moved
abbrev pub kept_from : (ℕ → Bool) → ℕ → List Row → List Row
kept_from keep n [] = []
kept_from keep n (row ∷ rows) = (if keep n then moved_row (kept_below keep) row ∷ [] else []) ++ kept_from keep (n + 1) rows

abbrev pub kept_rows : (ℕ → Bool) → List Row → List Row
kept_rows keep rows = kept_from keep 0 rows

abbrev pub kept_lits : (ℕ → Bool) → List Lit → List Lit
kept_lits keep lits = map (moved_lit (kept_below keep)) lits

-- The same of hashed rows, by their computed values and levels, but for the bound by reached ANDs.
pub record IsCompaction (count : ℕ) (rows : List Row) (lits : List Lit) (new_rows : List Row) (new_lits : List Lit) : Type 0 where
  pub hashed : IsHashed count new_rows
  pub same_count : length new_lits ≡ length lits
  pub within : All (λ l. node_of l < length new_rows) new_lits
  pub reached : (n : ℕ) → count < n → n < length new_rows → Reached new_rows new_lits n
  pub fewer : length new_rows ≤ length rows
  pub same_function : (bits : List Bool) → rows_function new_rows new_lits bits ≡ rows_function rows lits bits
  pub levels : (i : ℕ) → i < length lits → level_by new_rows (lit_at new_lits i) ≤ level_by rows (lit_at lits i)
  pub sources_stay : (i : ℕ) (l : Lit) → i < length lits → node_of l < count + 1 → lit_at lits i ≡ l → lit_at new_lits i ≡ l

-- the list has the places of its first nodes
abbrev pub IsPlaces : List ℕ → (ℕ → ℕ) → Type 0
IsPlaces places place = (n : ℕ) → n < length places → slice_index places n ≡ place n
