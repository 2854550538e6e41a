-- Pools: spare nodes that a seat holds for rows to come.
use Rattle.std.specs.Prelude.{◌≡◌, ◌⊎◌, ℕ, suc, ◌+◌, ◌<◌, ◌≤◌, ◌&&◌, ◌||◌, not, if◌then◌else◌, true, false, List, [], ◌∷◌, ◌++◌, length, Some, ⊤}
use Rattle.syn_rows.specs.declared.Row.TheVariants.{Free}
use Rattle.syn_rows.specs.Nodes.{has_node}
use Rattle.syn_fanout_free.specs.Freed.{is_free}
use Rattle.syn_core_laws.specs.declared.View.{View}
use Rattle.syn_core_laws.specs.declared.Seen.{Seen}
use Rattle.syn_core_laws.specs.declared.Seen.TheVariants as seen
use Rattle.syn_core_laws.specs.Views.{known_row}
use Rattle.syn_decide.specs.Dying.{are_distinct}

-- The nodes are the seat's spare ones: different nodes that it holds and knows to be free.
pub record KeepsPool (v : View) (pool : List ℕ) : Type 0 where
  pub distinct : are_distinct pool ≡ true
  pub held : (n : ℕ) → has_node pool n ≡ true → has_node v.held n ≡ true
  pub free : (n : ℕ) → has_node pool n ≡ true → known_row v n ≡ Some Free

-- the seat holds none of the nodes from, from + 1, .., so many
abbrev pub HoldsNoneOf : View → ℕ → ℕ → Type 0
HoldsNoneOf v from count = (n : ℕ) → from ≤ n → n < from + count → has_node v.held n ≡ false

-- what a call on a pool leaves of the seat's view: its number, pins, zero list, made rows, changes and difference
pub record LeavesRest (v w : View) : Type 0 where
  pub number : w.number ≡ v.number
  pub pins : w.pins ≡ v.pins
  pub idle : w.idle ≡ v.idle
  pub makes : w.makes ≡ v.makes
  pub changes : w.changes ≡ v.changes
  pub difference : w.difference ≡ v.difference

-- each node from this one on was tried once, in order: its claim failed, or its row was loaded
abbrev pub AreTries : ℕ → List Seen → Type 0
AreTries n [] = ⊤
AreTries n (seen.Row node row ∷ met) = (node ≡ n) × AreTries (suc n) met
AreTries n (seen.Miss node ∷ met) = (node ≡ n) × AreTries (suc n) met
AreTries n (seen.Key node key ∷ met) = ⊥
AreTries n (seen.Count node count own ∷ met) = ⊥

-- the nodes that were found free
abbrev pub found_free : List Seen → List ℕ
found_free [] = []
found_free (seen.Row node row ∷ met) = if is_free row then node ∷ found_free met else found_free met
found_free (seen.Miss node ∷ met) = found_free met
found_free (seen.Key node key ∷ met) = found_free met
found_free (seen.Count node count own ∷ met) = found_free met

-- the nodes whose claims failed
abbrev pub found_claimed : List Seen → List ℕ
found_claimed [] = []
found_claimed (seen.Row node row ∷ met) = found_claimed met
found_claimed (seen.Miss node ∷ met) = node ∷ found_claimed met
found_claimed (seen.Key node key ∷ met) = found_claimed met
found_claimed (seen.Count node count own ∷ met) = found_claimed met

-- Nodes were tried, and this was met: those that were found free joined the pool and are held, no other one is held more.
pub record AreTried (from : ℕ) (v : View) (pool : List ℕ) (met : List Seen) (w : View) (grown : List ℕ) : Type 0 where
  pub order : AreTries from met
  pub joined : grown ≡ pool ++ found_free met
  pub reads : w.reads ≡ v.reads ++ met
  pub misses : w.misses ≡ v.misses ++ found_claimed met
  pub held : (n : ℕ) → has_node w.held n ≡ (has_node v.held n || has_node (found_free met) n)
  -- what was held before has the row that it had
  pub rows : (n : ℕ) → has_node v.held n ≡ true → known_row w n ≡ known_row v n
  pub rest : LeavesRest v w

-- one node was tried
abbrev pub IsTried : ℕ → View → List ℕ → View → List ℕ → Type 0
IsTried n v pool w grown = (met : List Seen) × AreTried n v pool met w grown × (length met ≡ 1)

-- So many nodes were tried, or fewer because the pool has 512.
abbrev pub IsFilled : ℕ → ℕ → View → List ℕ → View → List ℕ → Type 0
IsFilled from count v pool w grown = (met : List Seen) × AreTried from v pool met w grown × ((length met ≡ count) ⊎ ((length met < count) × (length grown ≡ 512)))

-- The pool's nodes were let go, and no other one; the others have the rows that they had, and nothing was met.
pub record IsEmptied (v : View) (pool : List ℕ) (w : View) : Type 0 where
  pub held : (n : ℕ) → has_node w.held n ≡ (has_node v.held n && not (has_node pool n))
  pub rows : (n : ℕ) → has_node w.held n ≡ true → known_row w n ≡ known_row v n
  pub reads : w.reads ≡ v.reads
  pub misses : w.misses ≡ v.misses
  pub rest : LeavesRest v w
