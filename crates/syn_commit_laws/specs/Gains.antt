-- What the answer `Done` tells of a commit, and what its new gates become.
use Rattle.std.specs.Prelude.{◌≡◌, ℕ, ◌+◌, ◌<◌, ◌≤◌, Bool, true, false, List, length, slice_index_or}
use Rattle.syn_rows.specs.Rows.{row_at}
use Rattle.syn_rows.specs.Nodes.{has_node}
use Rattle.syn_rows.specs.References.{and_count}
use Rattle.syn_decide.specs.declared.decisions.NodeRow.{NodeRow}
use Rattle.syn_decide.specs.Tasks.{Task}
use Rattle.syn_decide.specs.Walk.{nodes_of}
use Rattle.syn_decide.specs.Decided.{Done}
use Rattle.syn_decide.specs.Functions.{used_leaves}
use Rattle.syn_decide.specs.Fold.{State, concluded, freed_by, placed_now}
use Rattle.syn_decide.specs.Hints.{first_new, new_root_row, placed_by_hits, rows_needed}
use Rattle.syn_commit_laws.specs.Redefining.{row_made}
use Rattle.syn_commit_laws.specs.Turning.{Spares}

-- As many ANDs die as new gates come, and the gain; the pool has the nodes, and the keys have room.
pub record IsGain (t : Task) (s : State) (gain : ℕ) : Type 0 where
  pub ands : length (placed_now t s).extra + gain ≡ freed_by s.inner s.hits s.counts
  pub room : rows_needed t (placed_now t s) ≤ t.pool
  pub gap : s.low + rows_needed t (placed_now t s) < s.high

abbrev pub DoneTellsGain : Type 0
DoneTellsGain = (t : Task) (s : State) (gain : ℕ) → concluded t s ≡ Done gain → IsGain t s gain

-- Each new gate becomes a row of its own, or the root's.
abbrev pub NewGatesAreStored : Type 0
NewGatesAreStored = (t : Task) (hits : List NodeRow) (made : List ℕ)
    → rows_needed t (placed_by_hits t hits) + and_count (row_made made (new_root_row t (placed_by_hits t hits))) ≡ length (placed_by_hits t hits).extra

-- a set without node 0, the used leaves, the hits and the nodes of the rows that are made; the leaves and hits are a table's nodes
pub record IsApart (t : Task) (hits : List NodeRow) (made : List ℕ) (set : ℕ → Bool) : Type 0 where
  pub constant : set 0 ≡ false
  pub leaves : (m : ℕ) → has_node (used_leaves t) m ≡ true → (set m ≡ false) × (m < first_new)
  pub found : (m : ℕ) → has_node (nodes_of hits) m ≡ true → (set m ≡ false) × (m < first_new)
  pub new : (i : ℕ) → i < rows_needed t (placed_by_hits t hits) → set (slice_index_or made i 0) ≡ false

-- The rows that are stored refer to nothing of such a set.
pub record StoreNothingOf (t : Task) (hits : List NodeRow) (made : List ℕ) (set : ℕ → Bool) : Type 0 where
  pub rows : (i : ℕ) → i < rows_needed t (placed_by_hits t hits) → Spares set (row_made made (row_at (placed_by_hits t hits).extra i))
  pub root : Spares set (row_made made (new_root_row t (placed_by_hits t hits)))

abbrev pub StoredRowsSpare : Type 0
StoredRowsSpare = (t : Task) (hits : List NodeRow) (made : List ℕ) (set : ℕ → Bool) → IsApart t hits made set → StoreNothingOf t hits made set
