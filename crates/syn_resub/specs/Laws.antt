-- What holds of divisors and of the proposals.
use Rattle.std.specs.Prelude.{◌≡◌, ℕ, ◌<◌, ◌≤◌, true, List, length}
use Rattle.syn_rows.specs.declared.Row.{Row}
use Rattle.syn_rows.specs.Rows.{InOrder}
use Rattle.syn_rows.specs.Nodes.{has_node}
use Rattle.syn_cones.specs.Walk.{rises}
use Rattle.syn_resub.specs.Divisors.{divides, divisors}

-- At most 64 nodes that rise below a node; each is a leaf or the AND of two of them; and where they are fewer than 64, each leaf and each AND of two of them below the node is one of them.
pub record AreDivisors (rows : List Row) (leaves : List ℕ) (node : ℕ) (ds : List ℕ) : Type 0 where
  pub rise : rises ds ≡ true
  pub few : length ds ≤ 64
  pub below : (n : ℕ) → has_node ds n ≡ true → n < node
  pub divide : (n : ℕ) → has_node ds n ≡ true → divides rows leaves ds n ≡ true
  pub all : length ds < 64 → (n : ℕ) → n < node → divides rows leaves ds n ≡ true → has_node ds n ≡ true

-- The divisors are that, where rows are in order.
abbrev pub DivisorsAreDivisors : Type 0
DivisorsAreDivisors = (rows : List Row) (leaves : List ℕ) (node : ℕ) → InOrder rows → AreDivisors rows leaves node (divisors rows leaves node)
