-- The walk of a commit: rows are loaded under claims, and each is a read of the decision.
use Rattle.std.specs.Prelude.{◌≡◌, ◌≢◌, ◌⊎◌, ℕ, ◌||◌, if◌then◌else◌, List, [], ◌∷◌, ◌++◌, Some}
use Rattle.std.specs.List.{AllByRecursion}
use Rattle.syn_rows.specs.declared.Row.{Row}
use Rattle.syn_rows.specs.Rows.{is_derived}
use Rattle.syn_rows.specs.Nodes.{has_node}
use Rattle.syn_core_laws.specs.declared.View.{View}
use Rattle.syn_core_laws.specs.declared.Seen.{Seen}
use Rattle.syn_core_laws.specs.declared.Seen.TheVariants as seen
use Rattle.syn_core_laws.specs.Shown.{IsShown}
use Rattle.syn_core_laws.specs.Views.{claimed, known_row, missed, released, row_loaded}
use Rattle.syn_decide.specs.declared.decisions.NodeRow.{NodeRow}
use Rattle.syn_decide.specs.Tasks.{Task}
use Rattle.syn_decide.specs.Walk.{nodes_of}
use Rattle.syn_decide.specs.Functions.{used_leaves}
use Rattle.syn_decide.specs.Fold.{State, Stage, Walking, Keying, Hinting, Counting, Ended, Failed, after_reads, begin, read_one}
use Rattle.syn_commit.specs.Pools.{KeepsPool, LeavesRest, found_claimed}

-- The state of the decision is that of what the seat met since the start, and its misses grew by the failed claims.
pub record IsOfReads (t : Task) (start v : View) (s : State) : Type 0 where
  pub met : List Seen
  pub reads : v.reads ≡ start.reads ++ met
  pub misses : v.misses ≡ start.misses ++ found_claimed met
  pub state : s ≡ after_reads t (begin t) met

-- the seat knows each of the rows
abbrev pub AreKnown : View → List NodeRow → Type 0
AreKnown v rows = AllByRecursion (λ r. known_row v r.node ≡ Some r.row) rows

-- At the end of the walk all keys are still to be loaded: the used leaves', and then the root's.
abbrev pub KeysWait : Task → Stage → Type 0
KeysWait t (Walking waiting) = Unit {0}
KeysWait t (Keying left) = left ≡ used_leaves t ++ t.proposal.root ∷ []
KeysWait t (Hinting last) = ⊥
KeysWait t Counting = ⊥
KeysWait t (Ended answer) = Unit {0}
KeysWait t Failed = Unit {0}

-- A walk on the way: the seat holds the pool and the inner rows' nodes alone and knows their rows, and all else is as at the start.
pub record IsWalking (t : Task) (start : View) (pool : List ℕ) (v : View) (s : State) : Type 0 where
  pub reads : IsOfReads t start v s
  pub spare : KeepsPool v pool
  pub held : (n : ℕ) → has_node v.held n ≡ (has_node pool n || has_node (nodes_of s.inner) n)
  pub known : AreKnown v s.inner
  pub hits : s.hits ≡ []
  pub counts : s.counts ≡ []
  pub keys : KeysWait t s.stage
  pub rest : LeavesRest start v

-- the view once a node's row was loaded under a claim: a node that is no gate is let go again
abbrev pub looked_at : View → ℕ → Row → View
looked_at v n r = if is_derived r then row_loaded (claimed v n) n r else released (row_loaded (claimed v n) n r) n

-- The node's claim failed, which doesn't come to a seat that has all numbers, or its row was loaded; either is read. With the row that was loaded, known rows are in no circle.
abbrev pub IsEntered : Task → ℕ → ℕ → ℕ → View → State → View → State → Type 0
IsEntered t nodes numbers n v s w z =
    ((numbers ≢ 64) × (w ≡ missed v n) × (z ≡ read_one t s (seen.Miss n)))
    ⊎ ((r : Row) × (w ≡ looked_at v n r) × (z ≡ read_one t s (seen.Row n r)) × IsShown nodes (row_loaded (claimed v n) n r))
