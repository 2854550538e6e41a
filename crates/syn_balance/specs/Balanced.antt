-- What balancing gives.
use Rattle.std.specs.Prelude.{◌≡◌, ℕ, ◌<◌, ◌≤◌, List, length}
use Rattle.syn_rows.specs.declared.Lit.{Lit}
use Rattle.syn_rows.specs.declared.Row.{Row}
use Rattle.syn_hashed.specs.Hashed.{lit_at}
use Rattle.syn_hashed.specs.Growing.{level_by}
use Rattle.syn_hashed.specs.HashedAgain.{IsHashedAgain}
use Rattle.syn_balance.specs.Rule.{AreByRule}
use Rattle.syn_graph.specs.declared.Graph.{Graph}
use Rattle.syn_graph.specs.Relations.{SameFunction}

-- The new graph has the old one's function; it has no more ANDs, and no observed literal lies higher.
pub record IsBalanced (old new : Graph) : Type 0 where
  pub same : SameFunction old new
  pub count : length new.rows ≤ length old.rows
  pub levels : (i : ℕ) → i < length old.observed → level_by new.rows (lit_at new.observed i) ≤ level_by old.rows (lit_at old.observed i)

-- The new rows and literals are those that the rule makes of the old ones, compacted.
pub record FollowsRule (count : ℕ) (rows : List Row) (lits : List Lit) (new_rows : List Row) (new_lits : List Lit) : Type 0 where
  pub mid_rows : List Row
  pub mid_lits : List Lit
  pub made : AreByRule count rows lits mid_rows mid_lits
  pub compact : IsHashedAgain count mid_rows mid_lits new_rows new_lits
