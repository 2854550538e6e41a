-- Labels that paths bear out (Menger's theorem; Cong and Ding, "FlowMap", IEEE TCAD 1994).
use Rattle.std.specs.Prelude.{◌≡◌, ◌⊎◌, ℕ, zero, suc, ◌+◌, ◌<◌, ◌≤◌, true, false, List, [], length, slice_index_or}
use Rattle.syn_rows.specs.declared.Row.{Row}
use Rattle.syn_rows.specs.Rows.{row_at}
use Rattle.syn_rows.specs.Reach.{is_and}
use Rattle.syn_hashed.specs.Hashed.{IsHashed}
use Rattle.syn_cones.specs.Cones.{IsCut}
use Rattle.syn_lutnet.specs.LutData.{greatest}
use Rattle.syn_paths.specs.Tops.{fan_in_label, IsInTop}
use Rattle.syn_paths.specs.Paths.{ArePathsInto}

-- Paths that are shown for a node.
pub record Shown : Type 0 where
  pub node : ℕ
  pub lists : List (List ℕ)

-- the place of what is shown has these lists for the node
abbrev pub IsShownAt : List Shown → ℕ → List (List ℕ) → ℕ → Type 0
IsShownAt shown n lists i = (i < length shown) × (slice_index_or shown i (record { node = 0; lists = [] }) ≡ record { node = n; lists = lists })

-- so many paths into the top of a node at a level are shown for it
abbrev pub HasPaths : List Row → (ℕ → ℕ) → List Shown → ℕ → ℕ → ℕ → Type 0
HasPaths rows label shown n level count = (lists : List (List ℕ)) × (i : ℕ) × IsShownAt shown n lists i × ArePathsInto rows (IsInTop rows label n level) count lists

-- What the label of an AND may be, by the greatest label of a fan-in: 1 where that is 0, else the same or one more. Where it is one more, k + 1 paths into the node's top are shown.
abbrev pub IsLabelOver : ℕ → List Row → (ℕ → ℕ) → List Shown → ℕ → ℕ → Type 0
IsLabelOver k rows label shown n zero = label n ≡ 1
IsLabelOver k rows label shown n (suc p) = (label n ≡ suc p) ⊎ ((label n ≡ suc (suc p)) × HasPaths rows label shown n (suc p) (suc k))

-- Labels that paths bear out: that of an AND is one by its fan-ins, that of any other node is 0.
pub record AreBorneOut (k : ℕ) (rows : List Row) (label : ℕ → ℕ) (shown : List Shown) : Type 0 where
  pub others : (n : ℕ) → is_and (row_at rows n) ≡ false → label n ≡ 0
  pub ands : (n : ℕ) → is_and (row_at rows n) ≡ true → IsLabelOver k rows label shown n (fan_in_label rows label n)

-- Labels that paths bear out undercut no cut: over at most k leaves the label of an AND is at most one more than the greatest of a leaf.
abbrev pub BorneOutBoundCuts : Type 0
BorneOutBoundCuts = (k count : ℕ) (rows : List Row) (label : ℕ → ℕ) (shown : List Shown) → IsHashed count rows → AreBorneOut k rows label shown
    → (n : ℕ) (leaves : List ℕ) → is_and (row_at rows n) ≡ true → IsCut rows leaves n → length leaves ≤ k → label n ≤ greatest label leaves + 1
