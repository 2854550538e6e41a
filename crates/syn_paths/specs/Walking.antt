-- The walk of the top of a node, which marks what its nodes refer to.
use Rattle.std.specs.Prelude.{◌≡◌, ◌⊎◌, ℕ, ◌+◌, ◌==◌, if◌then◌else◌, true, List, [], ◌∷◌, ◌++◌, length}
use Rattle.std.specs.List.{sum_by}
use Rattle.std.proofs.Math.ListN.{set}
use Rattle.syn_rows.specs.declared.Row.{Row}
use Rattle.syn_rows.specs.Nodes.{has_node}
use Rattle.syn_cones.specs.Cones.{Refers}
use Rattle.syn_paths.specs.Tops.{IsInTop}
use Rattle.syn_paths.specs.Checking.{is_marked}
use Rattle.syn_paths.specs.Tops.{label_in}

-- what waits once a node is marked: also the node, where it wasn't marked and is of the level
abbrev pub wait_with : List ℕ → ℕ → List ℕ → ℕ → List ℕ → ℕ → List ℕ
wait_with labels level marks stamp waiting n = if is_marked marks stamp n then waiting else if label_in labels n == level then waiting ++ n ∷ [] else waiting

abbrev pub wait_all : List ℕ → ℕ → List ℕ → ℕ → List ℕ → List ℕ → List ℕ
wait_all labels level marks stamp waiting [] = waiting
wait_all labels level marks stamp waiting (n ∷ nodes) = wait_all labels level (set marks n stamp) stamp (wait_with labels level marks stamp waiting n) nodes

-- what the walk meets outside the top, once a node is marked: also the node, where it wasn't marked and isn't of the level
abbrev pub start_with : List ℕ → ℕ → List ℕ → ℕ → List ℕ → ℕ → List ℕ
start_with labels level marks stamp starts n = if is_marked marks stamp n then starts else if label_in labels n == level then starts else starts ++ n ∷ []

abbrev pub start_all : List ℕ → ℕ → List ℕ → ℕ → List ℕ → List ℕ → List ℕ
start_all labels level marks stamp starts [] = starts
start_all labels level marks stamp starts (n ∷ nodes) = start_all labels level (set marks n stamp) stamp (start_with labels level marks stamp starts n) nodes

-- these are the marked nodes that aren't of the level
pub record AreOffLevel (labels : List ℕ) (level : ℕ) (marks : List ℕ) (stamp : ℕ) (starts : List ℕ) : Type 0 where
  pub marked : (v : ℕ) → has_node starts v ≡ true → is_marked marks stamp v ≡ true
  pub off : (v : ℕ) → has_node starts v ≡ true → label_in labels v ≡ level → ⊥
  pub all : (v : ℕ) → is_marked marks stamp v ≡ true → (label_in labels v ≡ level → ⊥) → has_node starts v ≡ true

-- a node is known to be in the top
abbrev pub IsEntered : List ℕ → ℕ → List ℕ → ℕ → ℕ → ℕ → Type 0
IsEntered labels level marks stamp root t = (t ≡ root) ⊎ ((is_marked marks stamp t ≡ true) × (label_in labels t ≡ level))

-- The walk: marked nodes, and those that are to be marked, are such that a node of the top refers to; what waits is in the top; what is known to be in the top waits, or all that it refers to is marked or to be marked.
pub record IsTopWalk (rows : List Row) (labels : List ℕ) (root level : ℕ) (marks : List ℕ) (stamp : ℕ) (waiting todo : List ℕ) : Type 0 where
  pub sound : (m : ℕ) → is_marked marks stamp m ≡ true → (t : ℕ) × IsInTop rows (label_in labels) root level t × Refers rows t m
  pub to_mark : (m : ℕ) → has_node todo m ≡ true → (t : ℕ) × IsInTop rows (label_in labels) root level t × Refers rows t m
  pub waits : (t : ℕ) → has_node waiting t ≡ true → IsInTop rows (label_in labels) root level t
  pub closed : (t : ℕ) → IsEntered labels level marks stamp root t → (has_node waiting t ≡ true) ⊎ ((m : ℕ) → Refers rows t m → (is_marked marks stamp m ≡ true) ⊎ (has_node todo m ≡ true))

-- what a place without the stamp weighs
abbrev pub unmarked : ℕ → ℕ → ℕ
unmarked stamp x = if x == stamp then 0 else 1

-- what is left of the walk
abbrev pub walk_left : List ℕ → ℕ → List ℕ → ℕ
walk_left marks stamp waiting = length waiting + sum_by (unmarked stamp) marks
