-- Rows that grow: what stays of them, and the values of literals by them.
use Rattle.std.specs.Prelude.{◌≡◌, ℕ, ◌<◌, ◌&&◌, ◌||◌, ◌⊎◌, Bool, false, List, ◌++◌, length}
use Rattle.syn_rows.specs.declared.Lit.{Lit}
use Rattle.syn_rows.specs.declared.Row.{Row}
use Rattle.syn_rows.specs.declared.Row.TheVariants.{And}
use Rattle.syn_rows.specs.Rows.{node_of, row_at}
use Rattle.syn_rows.specs.Levels.{level_in, levels_of}
use Rattle.syn_rows.specs.Values.{lit_value, value_in, values_of}

-- the new rows begin with the old ones
pub record Extends (old new : List Row) : Type 0 where
  pub more : List Row
  pub is : new ≡ old ++ more

-- the value of a literal by rows, for given values of the open rows
abbrev pub value_by : (ℕ → Bool) → List Row → Lit → Bool
value_by given rows l = lit_value (value_in (values_of given rows)) l

-- literals of older nodes keep their values
abbrev pub KeepsValues : List Row → List Row → Type 0
KeepsValues old new = (given : ℕ → Bool) (l : Lit) → node_of l < length old → value_by given new l ≡ value_by given old l

-- for all given values, node 0's false, the literal's value by the new rows is the AND of the two literals' by the old ones
abbrev pub IsAnd : List Row → Lit → Lit → List Row → Lit → Type 0
IsAnd old a b new l = (given : ℕ → Bool) → given 0 ≡ false → value_by given new l ≡ (value_by given old a && value_by given old b)

-- the same of the OR
abbrev pub IsOr : List Row → Lit → Lit → List Row → Lit → Type 0
IsOr old a b new l = (given : ℕ → Bool) → given 0 ≡ false → value_by given new l ≡ (value_by given old a || value_by given old b)

-- the literal is one of the two, or the constant 0, or names a row that is the AND of the two
abbrev pub IsJoin : List Row → Lit → Lit → Lit → Type 0
IsJoin rows a b l = (l ≡ a) ⊎ ((l ≡ b) ⊎ ((l.0 ≡ 0) ⊎ ((row_at rows (node_of l) ≡ And a b) ⊎ (row_at rows (node_of l) ≡ And b a))))

-- the level of a literal's node by rows
abbrev pub level_by : List Row → Lit → ℕ
level_by rows l = level_in (levels_of rows) (node_of l)
