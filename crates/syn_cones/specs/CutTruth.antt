-- The function of a node over a cut of at most four leaves, carried along with a floor of its cone.
use Rattle.std.specs.Prelude.{◌≡◌, ◌⊎◌, ℕ, ◌+◌, ◌<◌, ◌≤◌, Bool, true, false, List, ◌++◌, length, map, take, drop}
use Rattle.syn_rows.specs.declared.Row.{Row}
use Rattle.syn_rows.specs.Nodes.{has_node}
use Rattle.syn_truth.specs.Words.{value_in}
use Rattle.syn_cones.specs.Cones.{LeadsTo}
use Rattle.syn_cones.specs.Walk.{has_all}
use Rattle.syn_cones.specs.Words.{IsWordOver}
use Rattle.syn_cones.specs.declared.carried.CutFunction.{CutFunction}
use Rattle.syn_cones.specs.declared.carried.Partial.{Partial}

-- no node that is led to from the root, but the leaves, is below the floor
abbrev pub IsFloor : List Row → List ℕ → ℕ → ℕ → Type 0
IsFloor rows leaves root min_inner = (n : ℕ) (path : List ℕ) → LeadsTo rows leaves root path n → has_node leaves n ≡ false → min_inner ≤ n

-- The word is the function of a node over the leaves, and the floor is one.
pub record IsCutFunction (rows : List Row) (leaves : List ℕ) (node : ℕ) (f : CutFunction) : Type 0 where
  pub word : IsWordOver rows leaves node f.word
  pub min_inner : IsFloor rows leaves node f.min_inner

-- each of these leaves is one of the cut, or lies below the floor or above the root
abbrev pub AreClear : CutFunction → ℕ → List ℕ → List ℕ → Type 0
AreClear f root leaves more = (m : ℕ) → has_node more m ≡ true → (has_node leaves m ≡ true) ⊎ ((m < f.min_inner) ⊎ (root < m))

-- The word over the first i of more leaves and then over the leaves of a cut that weren't found among them: the function of the cut.
pub record IsPutTogether (f : CutFunction) (root : ℕ) (leaves more : List ℕ) (i : ℕ) (part : Partial) : Type 0 where
  pub within : part.found ≤ length leaves
  pub fits : length leaves + i ≤ length more + part.found
  pub has : has_all (take i more) (take part.found leaves) ≡ true
  pub clear : AreClear f root leaves (take i more)
  pub word : (v : ℕ → Bool) → value_in part.word (map v (take i more) ++ map v (drop part.found leaves)) ≡ value_in f.word (map v leaves)

-- The word over more leaves, those of the cut among them and the others clear: the function of the cut.
pub record IsMade (f : CutFunction) (root : ℕ) (leaves more : List ℕ) (word : ℕ) : Type 0 where
  pub has : has_all more leaves ≡ true
  pub clear : AreClear f root leaves more
  pub values : (v : ℕ → Bool) → value_in word (map v more) ≡ value_in f.word (map v leaves)
