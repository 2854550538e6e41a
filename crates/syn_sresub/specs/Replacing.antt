-- A literal of grown rows in place of a literal of the rows before.
use Rattle.std.specs.Prelude.{◌≡◌, ℕ, ◌<◌, ◌&&◌, Bool, false, List, length}
use Rattle.syn_rows.specs.declared.Lit.{Lit}
use Rattle.syn_rows.specs.declared.Row.{Row}
use Rattle.syn_rows.specs.Rows.{node_of}
use Rattle.syn_rows.specs.Values.{Fits, lit_value}
use Rattle.syn_hashed.specs.Growing.{value_by}

-- in each valuation that fits, the literal is the AND of the two others
abbrev pub IsAndOf : List Row → Lit → Lit → Lit → Type 0
IsAndOf rows m x y = (v : ℕ → Bool) → Fits rows v → lit_value v m ≡ (lit_value v x && lit_value v y)

-- A literal of the new rows has the value that the other had by the old ones.
pub record Replaces (old : List Row) (m : Lit) (new : List Row) (l : Lit) : Type 0 where
  pub there : node_of l < length new
  pub value : (given : ℕ → Bool) → given 0 ≡ false → value_by given new l ≡ value_by given old m
