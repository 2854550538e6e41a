-- The value of a node over leaves, computed row by row.
use Rattle.std.specs.Prelude.{◌≡◌, ℕ, ◌<◌, ◌==◌, if◌then◌else◌, Bool, true, false, List, [], ◌∷◌, length}
use Rattle.syn_rows.specs.declared.Row.{Row}
use Rattle.syn_rows.specs.Rows.{fold_rows, InOrder}
use Rattle.syn_rows.specs.Values.{row_value, value_in}
use Rattle.syn_truth.specs.declared.Truth.{Truth}
use Rattle.syn_truth.specs.Truth.{AtEach, value_of}
use Rattle.syn_rows.specs.Nodes.{has_node}
use Rattle.syn_cones.specs.Cones.{IsTruthOver}
use Rattle.syn_cones.specs.Leaves.{are_below, rise_above}

-- the value of a leaf, from the values of all leaves
abbrev pub leaf_value : List ℕ → List Bool → ℕ → Bool
leaf_value [] xs n = false
leaf_value (m ∷ ms) [] n = false
leaf_value (m ∷ ms) (x ∷ xs) n = if m == n then x else leaf_value ms xs n

-- the value of a node over leaves with these values: a leaf has its own, any other node the one that its row gives it
abbrev pub row_value_over : List ℕ → List Bool → (ℕ → Bool) → ℕ → Row → Bool
row_value_over leaves xs v n row = if has_node leaves n then leaf_value leaves xs n else row_value (λ _. false) v n row

-- the values of all nodes, row by row in order
abbrev pub values_over : List Row → List ℕ → List Bool → List Bool
values_over rows leaves xs = fold_rows (row_value_over leaves xs) false [] rows

-- the value of one node
abbrev pub value_over : List Row → List ℕ → ℕ → List Bool → Bool
value_over rows leaves n xs = value_in (values_over rows leaves xs) n

-- The truth of a node over rising leaves below it has the node's computed values.
abbrev pub TruthIsValueOver : Type 0
TruthIsValueOver = (rows : List Row) (leaves : List ℕ) (node : ℕ) (t : Truth)
    → InOrder rows → node < length rows → rise_above 0 leaves ≡ true → are_below node leaves ≡ true
    → IsTruthOver rows leaves node t → AtEach (length leaves) (λ xs. value_over rows leaves node xs ≡ value_of t xs)
