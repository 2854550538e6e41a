-- What the choice of the next leaf gives, and what growing ends with.
use Rattle.std.specs.Prelude.{◌≡◌, ◌⊎◌, ℕ, ◌<◌, ◌≤◌, true, false, List, length, Some}
use Rattle.syn_rows.specs.declared.Row.{Row}
use Rattle.syn_rows.specs.Reach.{is_and}
use Rattle.syn_rows.specs.Rows.{row_at}
use Rattle.syn_rows.specs.Nodes.{has_node}
use Rattle.syn_lists.specs.Numbers.{distinct_numbers}
use Rattle.syn_cones.specs.Walk.{rises}
use Rattle.syn_growing.specs.Cones.{HaveFanIns}
use Rattle.syn_growing.specs.Growing.{ConeNodes, cone_of, count_with, may_be_replaced, next_leaf}

-- The leaf is one that may be replaced; each other such leaf gives more leaves, or as many and is smaller.
pub record IsNextLeaf (rows : List Row) (cone : ConeNodes) (leaf : ℕ) : Type 0 where
  pub there : has_node cone.leaves leaf ≡ true
  pub may : may_be_replaced rows cone 8 leaf ≡ true
  pub best : (other : ℕ) → has_node cone.leaves other ≡ true → may_be_replaced rows cone 8 other ≡ true
      → (count_with rows cone.leaves leaf < count_with rows cone.leaves other) ⊎ ((count_with rows cone.leaves leaf ≡ count_with rows cone.leaves other) × (other ≤ leaf))

-- The chosen leaf of rising ones is that.
abbrev pub ChoosesNextLeaf : Type 0
ChoosesNextLeaf = (rows : List Row) (cone : ConeNodes) (leaf : ℕ) → rises cone.leaves ≡ true → next_leaf rows cone ≡ Some leaf → IsNextLeaf rows cone leaf

-- no leaf of the cone may be replaced
abbrev pub NoneMayBe : List Row → ConeNodes → Type 0
NoneMayBe rows cone = (leaf : ℕ) → has_node cone.leaves leaf ≡ true → may_be_replaced rows cone 8 leaf ≡ false

-- The cone of an AND is one whose leaves may not be replaced.
abbrev pub GrowsUntilNone : Type 0
GrowsUntilNone = (rows : List Row) (node : ℕ) → HaveFanIns rows → is_and (row_at rows node) ≡ true → NoneMayBe rows (cone_of rows node)

-- At most 48 inner nodes, none of them twice, and none a leaf.
pub record AreInner (cone : ConeNodes) : Type 0 where
  pub few : length cone.inner ≤ 48
  pub once : distinct_numbers cone.inner ≡ true
  pub apart : (n : ℕ) → has_node cone.inner n ≡ true → has_node cone.leaves n ≡ false

-- The inner nodes of an AND's cone are that: their number is how many different ones there are.
abbrev pub CountsInnerNodes : Type 0
CountsInnerNodes = (rows : List Row) (node : ℕ) → HaveFanIns rows → is_and (row_at rows node) ≡ true → AreInner (cone_of rows node)
