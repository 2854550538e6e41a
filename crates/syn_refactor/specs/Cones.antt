-- The function of a node over the leaves of its cone.
use Rattle.std.specs.Prelude.{◌≡◌, ℕ, true, List}
use Rattle.syn_rows.specs.declared.Row.{Row}
use Rattle.syn_truth.specs.declared.Truth.{Truth}
use Rattle.syn_cones.specs.Cones.{IsTruthOver}
use Rattle.syn_gain.specs.Leaves.{are_below, rise_above}
use Rattle.syn_growing.specs.Cones.{AreLeaves}
use Rattle.syn_growing.specs.Growing.{cone_leaves}

-- These are the leaves of a node's cone, which rise below it, and t is its function over them.
pub record IsConeOf (rows : List Row) (node : ℕ) (leaves : List ℕ) (t : Truth) : Type 0 where
  pub is : leaves ≡ cone_leaves rows node
  pub cut : AreLeaves rows node leaves
  pub rising : rise_above 0 leaves ≡ true
  pub below : are_below node leaves ≡ true
  pub function : IsTruthOver rows leaves node t
