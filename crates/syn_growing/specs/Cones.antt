-- What the rows of a graph are to growing, and what the leaves of a cone are.
use Rattle.std.specs.Prelude.{◌≡◌, ◌≢◌, ℕ, ◌<◌, ◌≤◌, true, List, length}
use Rattle.syn_rows.specs.declared.Lit.{Lit}
use Rattle.syn_rows.specs.declared.Row.{Row}
use Rattle.syn_rows.specs.declared.Row.TheVariants.{And}
use Rattle.syn_rows.specs.Rows.{node_of, row_at}
use Rattle.syn_rows.specs.Nodes.{has_node}
use Rattle.syn_cones.specs.Cones.{IsCut}
use Rattle.syn_cones.specs.Walk.{rises}

-- two different nodes below a node, neither of them the constant
pub record AreFanIns (n a b : ℕ) : Type 0 where
  pub first_low : 0 < a
  pub first : a < n
  pub second_low : 0 < b
  pub second : b < n
  pub differ : a ≢ b

-- each AND has two such fan-ins
abbrev pub HaveFanIns : List Row → Type 0
HaveFanIns rows = (n : ℕ) (a b : Lit) → row_at rows n ≡ And a b → AreFanIns n (node_of a) (node_of b)

-- At most eight nodes that rise below a node, none of them the constant, and are a cut of it.
pub record AreLeaves (rows : List Row) (node : ℕ) (leaves : List ℕ) : Type 0 where
  pub cut : IsCut rows leaves node
  pub rise : rises leaves ≡ true
  pub within : (m : ℕ) → has_node leaves m ≡ true → (0 < m) × (m < node)
  pub few : length leaves ≤ 8
