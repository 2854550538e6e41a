-- What a change of rows saves: reached ANDs before less those afterwards.
use Rattle.std.specs.Prelude.{◌≡◌, ℕ, ◌+◌, ◌<◌, true, false, All, List, ◌++◌, length, slice_set, slice_index_or, ℤ, pos, ◌+ℤ◌}
use Rattle.syn_rows.specs.declared.Lit.{Lit}
use Rattle.syn_rows.specs.declared.Row.{Row}
use Rattle.syn_rows.specs.Rows.{node_of, row_at, AllRefs, InOrder, is_derived}
use Rattle.syn_rows.specs.Reach.{Ands, Reached}
use Rattle.syn_rows.specs.References.{refs_by_rows, refs_by_literals}
use Rattle.syn_fanout_free.specs.declared.gain.Change.{Change}
use Rattle.syn_fanout_free.specs.Freed.{is_free}

-- the row of n replaced, and new rows at the end
abbrev pub replaced : List Row → ℕ → Row → List Row → List Row
replaced was n row extra = slice_set was n row ++ extra

-- the same, of a change
abbrev pub changed : List Row → Change → List Row
changed was c = replaced was c.node c.row c.extra.now

-- s is the number of ANDs reached before, less the number of those reached afterwards
abbrev pub IsSaved : List Row → List Row → List Lit → ℤ → Type 0
IsSaved was now observed s = (j : ℕ) × (k : ℕ) × Ands was observed j × Ands now observed k × (pos j ≡ (pos k +ℤ s))

-- New rows, the first of which is node first's, and a new row for the root: each refers only to rows before it, the root's to any of them.
pub record IsExtra (first : ℕ) (row : Row) (extra : List Row) : Type 0 where
  pub root : AllRefs (λ m. m < first + length extra) row
  pub each : (i : ℕ) → AllRefs (λ m. m < first + i) (row_at extra i)

-- a list of counts as a function of the node
abbrev pub count_in : List ℕ → ℕ → ℕ
count_in counts n = slice_index_or counts n 0

-- The rows of a graph with a reached node n: none is free, each refers only to smaller nodes, observed literals name nodes that are there,
-- each AND or alias is reached, and the counts are the references by rows and by observed literals.
pub record IsOwned (was : List Row) (observed : List Lit) (counts : ℕ → ℕ) (n : ℕ) : Type 0 where
  pub full : (m : ℕ) → m < length was → is_free (row_at was m) ≡ false
  pub order : InOrder was
  pub within : All (λ l. node_of l < length was) observed
  pub gates : (m : ℕ) → is_derived (row_at was m) ≡ true → Reached was observed m
  pub counted : (m : ℕ) → counts m ≡ refs_by_rows m was + refs_by_literals m observed
  pub reached : Reached was observed n
