-- What the LUTs of signals are, one by one and part by part.
use Rattle.std.proofs.Common.{◌≡◌, ℕ, suc, ◌+◌, ◌^◌, ◌<◌, ◌≤◌, ◌&&◌, nat_lt, nat_le, Bool, true, List, [], ◌∷◌, length, refl, ap, ◌∙◌, arith}
use Rattle.std.specs.Prelude.{⊤}
use Rattle.std.specs.List.{list_all}
use Rattle.std.proofs.lemmas.Bool.{and_parts, and_from, ltb-true, leb-true, le-leb}
use Rattle.syn_lists.specs.Numbers.{distinct_numbers}
use Rattle.syn_lutnet.specs.LutData.{Lut, rising, is_input, is_lut, lut_at, none_exceeds}
use Rattle.syn_lutnet.specs.Data.{luts_data}
use Rattle.syn_lutnet.specs.declared.luts.Lut as code

-- LUTs, the first of which is this signal's

abbrev pub AreLuts : ℕ → List Lut → Type 0
AreLuts n [] = ⊤
AreLuts n (l ∷ ls) = (is_lut n l ≡ true) × AreLuts (suc n) ls

pub luts_from_each : (n : ℕ) (luts : List Lut) → ((j : ℕ) → j < length luts → is_lut (n + j) (lut_at luts j) ≡ true) → AreLuts n luts
luts_from_each n [] h = tt
luts_from_each n (l ∷ ls) h = (
  ap (λ k. is_lut k l) (let s : n ≡ n + 0 = omega arith in s) ∙ h 0 (omega arith),
  luts_from_each (suc n) ls (λ j lt. ap (λ k. is_lut k (lut_at ls j)) (let s : suc n + j ≡ n + suc j = omega arith in s) ∙ h (suc j) (omega arith)),
)

pub record LutParts (n : ℕ) (l : Lut) : Type 0 where
  pub many : nat_le 2 (length l.inputs) ≡ true
  pub once : distinct_numbers l.inputs ≡ true
  pub inside : list_all (is_input n) l.inputs ≡ true
  pub rise : rising l.ones ≡ true
  pub small : list_all (λ m. nat_lt m (2 ^ length l.inputs)) l.ones ≡ true

pub lut_parts : (n : ℕ) (l : Lut) → is_lut n l ≡ true → LutParts n l
lut_parts n l h =
    let small : Bool = list_all (λ m. nat_lt m (2 ^ length l.inputs)) l.ones in
    let p = and_parts (nat_le 2 (length l.inputs)) (distinct_numbers l.inputs && (list_all (is_input n) l.inputs && (rising l.ones && small))) h in
    let q = and_parts (distinct_numbers l.inputs) (list_all (is_input n) l.inputs && (rising l.ones && small)) p.1 in
    let r = and_parts (list_all (is_input n) l.inputs) (rising l.ones && small) q.1 in
    let s = and_parts (rising l.ones) small r.1 in
    record { many = p.0; once = q.0; inside = r.0; rise = s.0; small = s.1 }

pub input_low : (n i : ℕ) → is_input n i ≡ true → 1 ≤ i
input_low n i h = leb-true 1 i (and_parts (nat_le 1 i) (nat_lt i n) h).0

pub input_high : (n i : ℕ) → is_input n i ≡ true → i < n
input_high n i h = ltb-true i n (and_parts (nat_le 1 i) (nat_lt i n) h).1

-- no LUT has more than 8 inputs
pub eight_exceeded_by_none : (luts : List code.Lut) → none_exceeds 8 (luts_data luts) ≡ true
eight_exceeded_by_none [] = refl
eight_exceeded_by_none (l ∷ ls) = and_from (nat_le (length l.inputs.items) 8) (none_exceeds 8 (luts_data ls)) (le-leb (length l.inputs.items) 8 (omega (arith, l.vars, l.truth.few))) (eight_exceeded_by_none ls)
