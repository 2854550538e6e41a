-- Cuts by paths, and the function of a node over a cut. Node 0 is the constant 0: it refers to no node, and no path ends in it.
use Rattle.std.specs.Prelude.{◌≡◌, ℕ, zero, suc, Bool, true, false, List, [], ◌∷◌, length, map}
use Rattle.std.specs.List.{list_any}
use Rattle.syn_rows.specs.declared.Row.{Row}
use Rattle.syn_rows.specs.Nodes.{has_node}
use Rattle.syn_rows.specs.Rows.{row_at, refs_of}
use Rattle.syn_rows.specs.Values.{RowFits, is_open}
use Rattle.syn_truth.specs.declared.Truth.{Truth}
use Rattle.syn_truth.specs.Truth.{AtEach, value_of}

-- the nodes that the row of a node refers to, none of the constant
abbrev pub refs_at : List Row → ℕ → List ℕ
refs_at rows zero = []
refs_at rows (suc n) = refs_of (row_at rows (suc n))

-- the row of the one node refers to the other
abbrev pub Refers : List Row → ℕ → ℕ → Type 0
Refers rows n m = has_node (refs_at rows n) m ≡ true

-- the node is the end of paths: its row is open, a source's, and it isn't the constant
abbrev pub is_end : List Row → ℕ → Bool
is_end rows zero = false
is_end rows (suc n) = is_open (row_at rows (suc n))

-- from a node along the rows over these nodes down to an end
abbrev pub LeadsToSource : List Row → ℕ → List ℕ → Type 0
LeadsToSource rows n [] = is_end rows n ≡ true
LeadsToSource rows n (m ∷ path) = Refers rows n m × LeadsToSource rows m path

-- A cut of the root: every path along the rows between it and a source, the ends included, meets a leaf.
abbrev pub IsCut : List Row → List ℕ → ℕ → Type 0
IsCut rows leaves root = (path : List ℕ) → LeadsToSource rows root path → list_any (has_node leaves) (root ∷ path) ≡ true

-- from a node along the rows over these nodes down to another, past no leaf
abbrev pub LeadsTo : List Row → List ℕ → ℕ → List ℕ → ℕ → Type 0
LeadsTo rows leaves n [] m = n ≡ m
LeadsTo rows leaves n (next ∷ path) m = (has_node leaves n ≡ false) × Refers rows n next × LeadsTo rows leaves next path m

-- the value of a node fits: the constant's is false, that of any other fits its row
abbrev pub FitsAt : List Row → (ℕ → Bool) → ℕ → Type 0
FitsAt rows v zero = v 0 ≡ false
FitsAt rows v (suc n) = RowFits v (suc n) (row_at rows (suc n))

-- the valuation fits the rows between the root and the leaves: all that are led to, but the leaves
abbrev pub FitsBetween : List Row → List ℕ → ℕ → (ℕ → Bool) → Type 0
FitsBetween rows leaves root v = (n : ℕ) (path : List ℕ) → LeadsTo rows leaves root path n → has_node leaves n ≡ false → FitsAt rows v n

-- The table is the function of a node over the leaves: for each choice of their values its value is that of the node in every valuation that has these at the leaves and fits the rows between the root and them.
pub record IsFunctionOf (rows : List Row) (leaves : List ℕ) (root node : ℕ) (table : Truth) : Type 0 where
  pub vars : table.vars ≡ length leaves
  pub values : AtEach (length leaves) (λ xs. (v : ℕ → Bool) → FitsBetween rows leaves root v → map v leaves ≡ xs → v node ≡ value_of table xs)

-- The truth of the root over the leaves.
abbrev pub IsTruthOver : List Row → List ℕ → ℕ → Truth → Type 0
IsTruthOver rows leaves root table = IsFunctionOf rows leaves root root table
