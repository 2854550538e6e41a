-- LUTs and the literals of their signals in rows.
use Rattle.std.specs.Prelude.{◌≡◌, ℕ, ◌+◌, Bool, false, List, length}
use Rattle.syn_rows.specs.declared.Lit.{Lit}
use Rattle.syn_rows.specs.declared.Row.{Row}
use Rattle.syn_hashed.specs.Growing.{value_by}
use Rattle.syn_hashed.specs.Hashed.{lit_at}
use Rattle.syn_lutnet.specs.LutData.{Lut, lut_value}
use Rattle.syn_absorb.specs.Rebuilding.{FitsLuts}
use Rattle.syn_lut_rows.specs.LutLiterals.{AllThere}

-- the values of signals by the rows of their literals
abbrev pub signal_by : (ℕ → Bool) → List Row → List Lit → ℕ → Bool
signal_by given rows lits n = value_by given rows (lit_at lits n)

-- Each signal has a literal of a row that is there, and for all given values, node 0's false, the signals' values fit the LUTs.
pub record ArePlaced (first : ℕ) (luts : List Lut) (rows : List Row) (lits : List Lit) : Type 0 where
  pub long : length lits ≡ first + length luts
  pub there : AllThere rows lits
  pub fits : (given : ℕ → Bool) → given 0 ≡ false → FitsLuts first luts (signal_by given rows lits)

-- for all given values, node 0's false, the LUT has the value of the signal
abbrev pub HasValue : List Row → List Lit → Lut → ℕ → Type 0
HasValue rows lits l n = (given : ℕ → Bool) → given 0 ≡ false → lut_value (signal_by given rows lits) l ≡ signal_by given rows lits n
