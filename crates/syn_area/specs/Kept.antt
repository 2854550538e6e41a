-- The cuts that the search keeps and chooses.
use Rattle.std.specs.Prelude.{◌≡◌, ◌⊎◌, ℕ, suc, ◌≤◌, true, All, List, [], ◌∷◌, length, slice_index_or}
use Rattle.syn_rows.specs.declared.Row.{Row}
use Rattle.syn_rows.specs.declared.Row.TheVariants.{Free, Source, And, Alias}
use Rattle.syn_rows.specs.Rows.{node_of}
use Rattle.syn_cones.specs.Cones.{IsCut}
use Rattle.syn_cones.specs.Leaves.{are_below, rise_above}
use Rattle.syn_cuts.specs.Cuts.{union}
use Rattle.syn_covering.specs.Cuts.{AreLutCuts, IsLutCut}
use Rattle.syn_area.specs.declared.lists.Listed.{Listed}

-- the chosen cut of a node, no leaf past the end
abbrev pub cut_in : List (List ℕ) → ℕ → List ℕ
cut_in cuts n = slice_index_or cuts n []

-- the fan-ins of an AND, no leaf of any other row
abbrev pub fan_ins : Row → List ℕ
fan_ins Free = []
fan_ins Source = []
fan_ins (And a b) = node_of a ∷ node_of b ∷ []
fan_ins (Alias a) = []

-- A cut that is kept of a node: its leaves rise, none of them is the constant, and it is the node alone or has two or more of them below it.
pub record IsKept (rows : List Row) (node : ℕ) (c : List ℕ) : Type 0 where
  pub cut : IsCut rows c node
  pub rising : rise_above 0 c ≡ true
  pub low : are_below (suc node) c ≡ true
  pub sized : (c ≡ node ∷ []) ⊎ (2 ≤ length c)

-- each listed cut is such a cut of its node
abbrev pub AreListed : List Row → List Listed → Type 0
AreListed rows listed = All (λ l. IsKept rows l.node l.cut.items) listed

-- the candidates of a node are cuts that a LUT of at most k inputs may read
abbrev pub AreCandidates : ℕ → List Row → ℕ → List (List ℕ) → Type 0
AreCandidates k rows node kept = All (IsLutCut k rows node) kept

-- the union of a cut of each of two nodes, where it has at most k leaves, is such a cut of a third
abbrev pub Joins : ℕ → List Row → ℕ → ℕ → ℕ → Type 0
Joins k rows a b node = (c d : List ℕ) → IsKept rows a c → IsKept rows b d → length (union c d) ≤ k → IsLutCut k rows node (union c d)

-- What a round keeps: the listed cuts are those of their nodes, and each AND has its chosen cut, which a LUT of at most k inputs may read.
pub record AreVisited (k : ℕ) (rows : List Row) (listed : List Listed) (chosen : List (List ℕ)) : Type 0 where
  pub count : length chosen ≡ length rows
  pub kept : AreListed rows listed
  pub fit : AreLutCuts k rows (cut_in chosen)
