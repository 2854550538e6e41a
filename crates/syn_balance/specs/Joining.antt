-- Leaves are joined: the two of least level become one, until one is left.
use Rattle.std.specs.Prelude.{◌≡◌, ℕ, ◌+◌, ◌^◌, ◌<◌, ◌≤◌, Bool, false, All, List, length}
use Rattle.std.specs.List.{list_all, sum_by}
use Rattle.syn_rows.specs.declared.Lit.{Lit}
use Rattle.syn_rows.specs.declared.Row.{Row}
use Rattle.syn_rows.specs.Rows.{node_of}
use Rattle.syn_hashed.specs.Growing.{Extends, value_by}
use Rattle.syn_balance.specs.Leaves.{weight}

-- Leaves of some rows became leaves of grown ones: their AND has the same value, they fit wherever the old ones did, and each one less has cost at most one row.
pub record IsJoining (old : List Row) (before : List Lit) (new : List Row) (leaves : List Lit) : Type 0 where
  pub grows : Extends old new
  pub there : All (λ l. node_of l < length new) leaves
  pub value : (given : ℕ → Bool) → given 0 ≡ false → list_all (value_by given new) leaves ≡ list_all (value_by given old) before
  pub fits : (height : ℕ) → sum_by (weight old) before ≤ 2 ^ height → sum_by (weight new) leaves ≤ 2 ^ height
  pub few : length new + length leaves ≤ length old + length before
