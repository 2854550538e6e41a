-- The cuts of a node but the trivial one.
use Rattle.std.specs.Prelude.{◌≡◌, ℕ, ◌≤◌, true, List, length}
use Rattle.syn_rows.specs.declared.Row.{Row}
use Rattle.syn_cones.specs.Cones.{IsCut}
use Rattle.syn_cones.specs.Leaves.{are_below, rise_above}
use Rattle.syn_cuts.specs.Cuts.{listed_cuts}
use Rattle.syn_cuts.specs.Lists.{nontrivial}

-- the listed cuts of a node of at most four leaves but the last, which is the node alone
abbrev pub cuts_of : List Row → ℕ → List (List ℕ)
cuts_of rows node = nontrivial (listed_cuts 4 rows) node

-- At most four nodes that rise below a node, and are a cut of it.
pub record AreLeavesOf (rows : List Row) (node : ℕ) (leaves : List ℕ) : Type 0 where
  pub cut : IsCut rows leaves node
  pub rise : rise_above 0 leaves ≡ true
  pub below : are_below node leaves ≡ true
  pub few : length leaves ≤ 4
