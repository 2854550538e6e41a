-- Laws of cuts.
use Rattle.std.specs.Prelude.{◌≡◌, ◌≢◌, ℕ, Bool, true, false, List, [], ◌∷◌}
use Rattle.syn_rows.specs.declared.Lit.{Lit}
use Rattle.syn_rows.specs.declared.Row.{Row}
use Rattle.syn_rows.specs.declared.Row.TheVariants.{And}
use Rattle.syn_rows.specs.Rows.{node_of, row_at}
use Rattle.syn_rows.specs.Values.{Fits}
use Rattle.syn_rows.specs.Nodes.{has_node}
use Rattle.syn_cones.specs.Cones.{FitsBetween, IsCut, LeadsTo}

-- The two fan-ins of an AND are a cut of it.
abbrev pub FanInsAreCut : Type 0
FanInsAreCut = (rows : List Row) (n : ℕ) (a b : Lit) → row_at rows n ≡ And a b → IsCut rows (node_of a ∷ node_of b ∷ []) n

-- A cut stays one where a leaf that is an AND is replaced by its fan-ins.
abbrev pub LeafMayBeReplaced : Type 0
LeafMayBeReplaced = (rows : List Row) (leaves after : List ℕ) (root leaf : ℕ) (a b : Lit) → IsCut rows leaves root → row_at rows leaf ≡ And a b
    → ((m : ℕ) → has_node leaves m ≡ true → m ≢ leaf → has_node after m ≡ true) → has_node after (node_of a) ≡ true → has_node after (node_of b) ≡ true
    → IsCut rows after root

-- A valuation that fits all rows fits those between a root and leaves.
abbrev pub AllFitBetween : Type 0
AllFitBetween = (rows : List Row) (leaves : List ℕ) (root : ℕ) (v : ℕ → Bool) → Fits rows v → FitsBetween rows leaves root v

-- none of more leaves is a node that is led to from the root and isn't a leaf
abbrev pub HasNoInner : List Row → List ℕ → List ℕ → ℕ → Type 0
HasNoInner rows leaves more root = (n : ℕ) (path : List ℕ) → LeadsTo rows leaves root path n → has_node leaves n ≡ false → has_node more n ≡ false

-- What fits between a root and more leaves, none of which is a node between the root and the cut, fits between the root and the cut. So the function over more leaves is that over the cut.
abbrev pub FitsPastMore : Type 0
FitsPastMore = (rows : List Row) (leaves more : List ℕ) (root : ℕ) (v : ℕ → Bool) → HasNoInner rows leaves more root → FitsBetween rows more root v → FitsBetween rows leaves root v
