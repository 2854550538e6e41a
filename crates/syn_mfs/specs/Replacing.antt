-- LUTs in the place of others.
use Rattle.std.specs.Prelude.{◌≡◌, ℕ, ◌+◌, ◌<◌, ◌≤◌, true, List, length}
use Rattle.syn_rows.specs.declared.Lit.{Lit}
use Rattle.syn_rows.specs.declared.Row.{Row}
use Rattle.syn_sat.specs.declared.clauses.Clauses.{Clauses}
use Rattle.syn_hashed.specs.Growing.{Extends}
use Rattle.syn_lutnet.specs.LutData.{Lut, is_lut, lut_at}
use Rattle.syn_fraig.specs.Sweeping.{AreTrueBy}
use Rattle.syn_mfs.specs.Placing.{ArePlaced}

-- each is the LUT of its signal, the first of this one
abbrev pub AreFit : ℕ → List Lut → Type 0
AreFit first luts = (j : ℕ) → j < length luts → is_lut (first + j) (lut_at luts j) ≡ true

-- As many LUTs, each of no more inputs.
pub record AreNoWider (was now : List Lut) : Type 0 where
  pub long : length now ≡ length was
  pub each : (j : ℕ) → j < length was → length (lut_at now j).inputs ≤ length (lut_at was j).inputs

-- LUTs, the values of literals by rows, and clauses that are true by these.
pub record IsPass (first : ℕ) (luts : List Lut) (rows : List Row) (lits : List Lit) (known : Clauses) : Type 0 where
  pub fit : AreFit first luts
  pub placed : ArePlaced first luts rows lits
  pub clauses : AreTrueBy rows known

-- The same later: the rows grew, the LUTs did not.
pub record IsLater (first : ℕ) (lits : List Lit) (was : List Lut) (old : List Row) (now : List Lut) (new : List Row) (known : Clauses) : Type 0 where
  pub grows : Extends old new
  pub narrow : AreNoWider was now
  pub pass : IsPass first now new lits known
