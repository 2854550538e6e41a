-- Paths from sources into the top of a node that share no node (Menger's theorem).
use Rattle.std.specs.Prelude.{◌≡◌, ℕ, ◌≤◌, true, All, List, [], ◌∷◌, length, flat_map}
use Rattle.std.specs.List.{list_any}
use Rattle.syn_rows.specs.declared.Row.{Row}
use Rattle.syn_rows.specs.Nodes.{has_node}
use Rattle.syn_lists.specs.Numbers.{distinct_numbers}
use Rattle.syn_cones.specs.Cones.{is_end, Refers}

-- from a node up along the rows over these nodes to one that a node of the set refers to
abbrev pub LeadsUp : List Row → (ℕ → Type 0) → ℕ → List ℕ → Type 0
LeadsUp rows InSet n [] = (top : ℕ) × InSet top × Refers rows top n
LeadsUp rows InSet n (m ∷ path) = Refers rows m n × LeadsUp rows InSet m path

-- A path from a source into a set: each node is a fan-in of the next, the last one of a node of the set, and none is in the set.
abbrev pub IsPathInto : List Row → (ℕ → Type 0) → List ℕ → Type 0
IsPathInto rows InSet [] = ⊥
IsPathInto rows InSet (n ∷ path) = (is_end rows n ≡ true) × LeadsUp rows InSet n path × All (λ m. InSet m → ⊥) (n ∷ path)

-- So many paths into a set, no node twice over all of them.
pub record ArePathsInto (rows : List Row) (InSet : ℕ → Type 0) (count : ℕ) (paths : List (List ℕ)) : Type 0 where
  pub count_is : length paths ≡ count
  pub each : All (IsPathInto rows InSet) paths
  pub once : distinct_numbers (flat_map (λ path. path) paths) ≡ true

-- Paths that share no node, each of which meets one of some nodes, are no more than these nodes: the easy half of Menger's theorem.
abbrev pub DisjointMeetAtMost : Type 0
DisjointMeetAtMost = (paths : List (List ℕ)) (nodes : List ℕ) → distinct_numbers (flat_map (λ path. path) paths) ≡ true → All (λ path. list_any (has_node nodes) path ≡ true) paths → length paths ≤ length nodes
