-- What is marked while the signals that observed literals reach are looked for, from the last LUT down.
use Rattle.std.specs.Prelude.{◌≡◌, ℕ, ◌+◌, ◌<◌, ◌≤◌, Bool, true, All, List, length}
use Rattle.syn_rows.specs.declared.Lit.{Lit}
use Rattle.syn_rows.specs.Rows.{node_of}
use Rattle.syn_rows.specs.Reach.{HasObserved}
use Rattle.syn_rows.specs.Values.{value_in}
use Rattle.syn_lutnet.specs.LutData.{Lut, Reached, is_lut, lut_at}

-- LUTs and literals as in a net, of which some LUTs may not be reached.
pub record IsOpenNet (count : ℕ) (luts : List Lut) (lits : List Lit) : Type 0 where
  pub luts_fit : (j : ℕ) → j < length luts → is_lut (count + 1 + j) (lut_at luts j) ≡ true
  pub within : All (λ l. node_of l < count + 1 + length luts) lits

-- Each marked signal is reached; the observed ones are marked, and of each marked LUT from `from` up the inputs. With `from` 0 the marked signals are those that are reached.
pub record IsSwept (first : ℕ) (luts : List Lut) (lits : List Lit) (marks : List Bool) (from : ℕ) : Type 0 where
  pub count : length marks ≡ first + length luts
  pub reached : (n : ℕ) → value_in marks n ≡ true → Reached first luts lits n
  pub seen : HasObserved lits (value_in marks)
  pub done : (j : ℕ) → from ≤ j → j < length luts → value_in marks (first + j) ≡ true → All (λ m. value_in marks m ≡ true) (lut_at luts j).inputs
