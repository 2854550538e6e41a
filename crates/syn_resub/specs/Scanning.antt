-- How divisors are found: from the smallest one up, each with the ANDs over it.
use Rattle.std.specs.Prelude.{◌≡◌, ℕ, suc, ◌<◌, ◌≤◌, ◌&&◌, ◌||◌, nat_lt, Bool, true, List, ◌++◌, length, take}
use Rattle.syn_rows.specs.declared.Row.{Row}
use Rattle.syn_rows.specs.Nodes.{has_node}
use Rattle.syn_rows.specs.Rows.{row_at}
use Rattle.syn_cones.specs.Walk.{rises}
use Rattle.syn_resub.specs.Divisors.{divides, divisors_below, joins}
use Rattle.syn_resub.specs.FanOuts.{is_over}

-- The nodes from number low on and below the node that pass a test, rising.
pub record AreLeft (node low : ℕ) (test : ℕ → Bool) (left : List ℕ) : Type 0 where
  pub rise : rises left ≡ true
  pub within : (m : ℕ) → has_node left m ≡ true → (low ≤ m) × (m < node)
  pub each : (m : ℕ) → low ≤ m → m < node → has_node left m ≡ test m

-- The first 64 of: the divisors below a number, so many, and behind them all leaves and ANDs of two of these divisors.
pub record IsScanned (rows : List Row) (leaves : List ℕ) (node count : ℕ) (nodes : List ℕ) (low : ℕ) (left : List ℕ) : Type 0 where
  pub nodes_are : nodes ≡ take 64 (divisors_below rows leaves low ++ left)
  pub count_is : length (divisors_below rows leaves low) ≡ count
  pub within : low ≤ node
  pub are_left : AreLeft node low (divides rows leaves (divisors_below rows leaves low)) left

abbrev pub IsScannedAt : List Row → List ℕ → ℕ → ℕ → List ℕ → Type 0
IsScannedAt rows leaves node count nodes = (low : ℕ) × (left : List ℕ) × IsScanned rows leaves node count nodes low left

-- the node is a leaf, the AND of two divisors before d, or below m the AND of d and a divisor before it
abbrev pub divides_up_to : List Row → List ℕ → ℕ → ℕ → ℕ → Bool
divides_up_to rows leaves d m p =
    divides rows leaves (divisors_below rows leaves d) p || (nat_lt p m && (is_over d (row_at rows p) && joins (divisors_below rows leaves (suc d)) (row_at rows p)))

-- The same with divisor d, while the ANDs over it are put: those below m are.
pub record IsPut (rows : List Row) (leaves : List ℕ) (node d m : ℕ) (nodes left : List ℕ) : Type 0 where
  pub nodes_are : nodes ≡ take 64 (divisors_below rows leaves (suc d) ++ left)
  pub few : length (divisors_below rows leaves (suc d)) ≤ 64
  pub there : has_node (divisors_below rows leaves (suc d)) d ≡ true
  pub below : d < node
  pub are_left : AreLeft node (suc d) (divides_up_to rows leaves d m) left

abbrev pub IsPutUpTo : List Row → List ℕ → ℕ → ℕ → ℕ → List ℕ → Type 0
IsPutUpTo rows leaves node d m nodes = (left : List ℕ) × IsPut rows leaves node d m nodes left
