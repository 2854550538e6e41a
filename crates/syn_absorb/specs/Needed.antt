-- LUTs that read only what they depend on, and what is made of others.
use Rattle.std.specs.Prelude.{◌≡◌, ◌≢◌, ℕ, ◌+◌, ◌<◌, ◌≤◌, Bool, true, false, All, Contains, List, length, map, slice_set, slice_index_or}
use Rattle.syn_lists.specs.Numbers.{distinct_numbers}
use Rattle.syn_truth.specs.declared.Truth.{Truth}
use Rattle.syn_truth.specs.Truth.{Depends, value_of}
use Rattle.syn_lutnet.specs.LutData.{Lut, lut_at, lut_value}
use Rattle.syn_lutnet.specs.declared.luts.Lut as code

-- A LUT depends on a signal: it gives different values where two valuations differ in that signal alone.
pub record DependsOn (l : Lut) (m : ℕ) : Type 0 where
  pub first : ℕ → Bool
  pub second : ℕ → Bool
  pub agree : (n : ℕ) → n ≢ m → first n ≡ second n
  pub differ : lut_value first l ≢ lut_value second l

-- each LUT depends on each of its inputs
abbrev pub AllDepend : List Lut → Type 0
AllDepend luts = (j : ℕ) → j < length luts → All (DependsOn (lut_at luts j)) (lut_at luts j).inputs

-- A LUT reads different signals, not the constant, and depends on each.
pub record ReadsNeeded (l : Lut) : Type 0 where
  pub once : distinct_numbers l.inputs ≡ true
  pub low : All (λ m. 1 ≤ m) l.inputs
  pub depends : All (DependsOn l) l.inputs

-- A LUT gives the same wherever the constant is false, and reads some of the same signals.
pub record IsNarrower (was now : Lut) : Type 0 where
  pub value : (v : ℕ → Bool) → v 0 ≡ false → lut_value v now ≡ lut_value v was
  pub inputs : All (Contains was.inputs) now.inputs
  pub fewer : length now.inputs ≤ length was.inputs

-- wherever the constant is false, it doesn't matter to the function of these signals whether signal i is
abbrev pub Ignores : Truth → List ℕ → ℕ → Type 0
Ignores t inputs i = (w : ℕ → Bool) → w 0 ≡ false → value_of t (slice_set (map w inputs) i false) ≡ value_of t (map w inputs)

-- there is such a signal in place i
abbrev pub IsIdle : Truth → List ℕ → ℕ → Type 0
IsIdle t inputs i = (i < length inputs) × Ignores t inputs i

-- no signal is the constant, and the function depends on each
abbrev pub AllNeeded : Truth → List ℕ → Type 0
AllNeeded t inputs = (i : ℕ) → i < length inputs → (1 ≤ slice_index_or inputs i 0) × Depends t i

-- The LUT of a function of these signals without signal i, where that is false.
pub record IsWithout (t : Truth) (signals : List ℕ) (i : ℕ) (now : code.Lut) : Type 0 where
  pub inputs : All (Contains signals) now.inputs.items
  pub fewer : length now.inputs.items + 1 ≡ length signals
  pub value : (w : ℕ → Bool) → value_of now.truth (map w now.inputs.items) ≡ value_of t (slice_set (map w signals) i false)
