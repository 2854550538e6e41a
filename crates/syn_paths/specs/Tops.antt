-- Labels of nodes, and the top of a node: the node with those of the greatest label in its cone (Cong and Ding, "FlowMap", IEEE TCAD 1994).
use Rattle.std.specs.Prelude.{◌≡◌, ◌⊎◌, ℕ, ◌<◌, ◌≤◌, List, [], slice_index_or}
use Rattle.syn_rows.specs.declared.Row.{Row}
use Rattle.syn_rows.specs.Rows.{row_at, refs_of}
use Rattle.syn_cones.specs.Cones.{LeadsTo, Refers}
use Rattle.syn_lutnet.specs.LutData.{greatest}

-- the label of a node, 0 past the end
abbrev pub label_in : List ℕ → ℕ → ℕ
label_in labels n = slice_index_or labels n 0

-- the greatest label of the nodes that the row of n refers to
abbrev pub fan_in_label : List Row → (ℕ → ℕ) → ℕ → ℕ
fan_in_label rows label n = greatest label (refs_of (row_at rows n))

-- one node lies in the cone of another: rows lead from that one to it
abbrev pub IsInCone : List Row → ℕ → ℕ → Type 0
IsInCone rows n m = (path : List ℕ) × LeadsTo rows [] n path m

-- The top of a node at a level: the node, and the nodes of that label in its cone.
abbrev pub IsInTop : List Row → (ℕ → ℕ) → ℕ → ℕ → ℕ → Type 0
IsInTop rows label n level m = (m ≡ n) ⊎ ((label m ≡ level) × IsInCone rows n m)

-- labels fall along references of nodes before this one
abbrev pub FallsBelow : List Row → (ℕ → ℕ) → ℕ → Type 0
FallsBelow rows label root = (n m : ℕ) → n < root → Refers rows n m → label m ≤ label n

-- what the node refers to has labels up to the level
abbrev pub IsLowFor : List Row → (ℕ → ℕ) → ℕ → ℕ → Type 0
IsLowFor rows label root level = (m : ℕ) → Refers rows root m → label m ≤ level
