-- The least cut outside the top of a node (which of the cuts with fewest leaves it is, is this project's choice).
use Rattle.std.specs.Prelude.{◌≡◌, ℕ, ◌≤◌, true, false, List, length}
use Rattle.syn_rows.specs.declared.Row.{Row}
use Rattle.syn_rows.specs.Nodes.{has_node}
use Rattle.syn_cones.specs.Cones.{IsCut, LeadsTo}
use Rattle.syn_cones.specs.Walk.{rises}
use Rattle.syn_paths.specs.Tops.{IsInTop}

-- A cut of a node outside its top at a level: none of the leaves is in the top. Since rows lead from the node to each node of the top within it, its leaves are met by every path from a source into the top.
pub record IsCutOutside (rows : List Row) (label : ℕ → ℕ) (n level : ℕ) (leaves : List ℕ) : Type 0 where
  pub cut : IsCut rows leaves n
  pub outside : (m : ℕ) → has_node leaves m ≡ true → IsInTop rows label n level m → ⊥

-- a node inside a cut: rows lead to it past no leaf, and it is none
abbrev pub IsInside : List Row → List ℕ → ℕ → ℕ → Type 0
IsInside rows leaves n m = ((path : List ℕ) × LeadsTo rows leaves n path m) × (has_node leaves m ≡ false)

-- Of the cuts outside the top with fewest leaves the one whose inside is least; its leaves rise.
pub record IsLeastCut (rows : List Row) (label : ℕ → ℕ) (n level : ℕ) (leaves : List ℕ) : Type 0 where
  pub outside : IsCutOutside rows label n level leaves
  pub rise : rises leaves ≡ true
  pub fewest : (other : List ℕ) → IsCutOutside rows label n level other → length leaves ≤ length other
  pub least : (other : List ℕ) → IsCutOutside rows label n level other → length other ≡ length leaves → (m : ℕ) → IsInside rows leaves n m → IsInside rows other n m

-- There is at most one least cut.
abbrev pub OneLeastCut : Type 0
OneLeastCut = (rows : List Row) (label : ℕ → ℕ) (n level : ℕ) (leaves other : List ℕ) → IsLeastCut rows label n level leaves → IsLeastCut rows label n level other → leaves ≡ other
