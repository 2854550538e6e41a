-- A cut for each AND of a graph, whatever cut, and how deep its nodes lie in LUTs over them.
use Rattle.std.specs.Prelude.{◌≡◌, ℕ, ◌+◌, ◌≤◌, true, false, List, length}
use Rattle.syn_rows.specs.declared.Row.{Row}
use Rattle.syn_rows.specs.Rows.{row_at}
use Rattle.syn_rows.specs.Reach.{is_and}
use Rattle.syn_cones.specs.Cones.{IsCut}
use Rattle.syn_cones.specs.Leaves.{are_below, rise_above}
use Rattle.syn_lutnet.specs.LutData.{greatest}

-- A cut of a node that a LUT may read: 2 to k leaves, which rise and lie below the node, none of them the constant.
pub record IsLutCut (k : ℕ) (rows : List Row) (node : ℕ) (leaves : List ℕ) : Type 0 where
  pub cut : IsCut rows leaves node
  pub rising : rise_above 0 leaves ≡ true
  pub below : are_below node leaves ≡ true
  pub two : 2 ≤ length leaves
  pub few : length leaves ≤ k

-- each AND has such a cut
abbrev pub AreLutCuts : ℕ → List Row → (ℕ → List ℕ) → Type 0
AreLutCuts k rows cut = (n : ℕ) → is_and (row_at rows n) ≡ true → IsLutCut k rows n (cut n)

-- The label of an AND is one more than the greatest of a leaf of its cut, that of any other node 0.
pub record AreDepths (rows : List Row) (label : ℕ → ℕ) (cut : ℕ → List ℕ) : Type 0 where
  pub others : (n : ℕ) → is_and (row_at rows n) ≡ false → label n ≡ 0
  pub ands : (n : ℕ) → is_and (row_at rows n) ≡ true → label n ≡ greatest label (cut n) + 1
