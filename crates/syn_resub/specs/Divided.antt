-- The leaves and divisors of a node, with their tables.
use Rattle.std.specs.Prelude.{◌≡◌, ℕ, ◌<◌, ◌≤◌, ◌&&◌, not, Bool, true, List, length, slice_index_or}
use Rattle.std.specs.Bool.{beq}
use Rattle.syn_rows.specs.declared.Lit.{Lit}
use Rattle.syn_rows.specs.declared.Row.{Row}
use Rattle.syn_rows.specs.Reach.{is_and}
use Rattle.syn_rows.specs.Rows.{row_at}
use Rattle.syn_rows.specs.Values.{lit_value, value_in}
use Rattle.syn_truth.specs.declared.Truth.{Truth}
use Rattle.syn_truth.specs.Truth.{AtEach, holds_at_each, value_of}
use Rattle.syn_cones.specs.Cones.{IsTruthOver}
use Rattle.syn_cones.specs.Values.{value_over, values_over}
use Rattle.syn_growing.specs.Cones.{AreLeaves}
use Rattle.syn_growing.specs.Growing.{cone_leaves}
use Rattle.syn_resub.specs.declared.divided.Divided.{Divided}
use Rattle.syn_resub.specs.declared.sides.Side.{Side}
use Rattle.syn_resub.specs.Divisors.{divisors}

-- the table has these values
pub record HasValues (n : ℕ) (t : Truth) (values : List Bool → Bool) : Type 0 where
  pub vars : t.vars ≡ n
  pub each : AtEach n (λ xs. value_of t xs ≡ values xs)

-- the value of a literal over leaves
abbrev pub lit_over : List Row → List ℕ → Lit → List Bool → Bool
lit_over rows leaves l xs = lit_value (value_in (values_over rows leaves xs)) l

-- each table is that of the node at the same place
abbrev pub AreTablesOf : List Row → List ℕ → List ℕ → List Truth → Type 0
AreTablesOf rows leaves nodes tables =
    (i : ℕ) (t : Truth) → i < length tables → slice_index_or tables i t ≡ t → HasValues (length leaves) t (value_over rows leaves (slice_index_or nodes i 0))

-- The leaves of a node's cone, the table of its function over them, and its divisors with theirs.
pub record AreDivided (rows : List Row) (node : ℕ) (d : Divided) : Type 0 where
  pub gate : is_and (row_at rows node) ≡ true
  pub leaves : d.leaves.items ≡ cone_leaves rows node
  pub are : AreLeaves rows node d.leaves.items
  pub truth : IsTruthOver rows d.leaves.items node d.table
  pub table : HasValues (length d.leaves.items) d.table (value_over rows d.leaves.items node)
  pub nodes : d.nodes.items ≡ divisors rows d.leaves.items node
  pub few : length d.nodes.items ≤ 64
  pub count : length d.tables.items ≡ length d.nodes.items
  pub tables : AreTablesOf rows d.leaves.items d.nodes.items d.tables.items

-- one function implies another: it is the AND of both
abbrev pub implies : ℕ → (List Bool → Bool) → (List Bool → Bool) → Bool
implies n f g = holds_at_each n (λ xs. beq (f xs && g xs) (f xs))

-- A literal with its table, and whether the node, or its complement, implies it.
pub record IsSide (rows : List Row) (leaves : List ℕ) (node : ℕ) (s : Side) : Type 0 where
  pub table : HasValues (length leaves) s.table (lit_over rows leaves s.lit)
  pub above : s.above ≡ implies (length leaves) (value_over rows leaves node) (lit_over rows leaves s.lit)
  pub above_not : s.above_not ≡ implies (length leaves) (λ xs. not (value_over rows leaves node xs)) (lit_over rows leaves s.lit)
