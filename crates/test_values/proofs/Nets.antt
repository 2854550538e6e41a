-- A LUT net of parities of six sources, and names over it that no source is observed by.
use Rattle.std.proofs.Common.{◌≡◌, ℕ, zero, suc, ◌+◌, ◌^◌, ◌<◌, ◌&&◌, nat_le, nat_lt, true, All, List, [], ◌∷◌, length, get_or, refl, sym, ap, ◌∙◌, subst, arith}
use Rattle.std.specs.List.{list_all}
use Rattle.std.proofs.lemmas.Bool.{and_from, lt-ltb, le-leb}
use Rattle.std.proofs.lemmas.List.{length-map}
use Rattle.std.proofs.lemmas.List.Elements.{All-head, All-tail}
use Rattle.syn_rows.specs.declared.Lit.{Lit}
use Rattle.syn_rows.specs.Rows.{node_of}
use Rattle.syn_lists.specs.Numbers.{distinct_numbers}
use Rattle.syn_lutnet.specs.LutData as spelled
use Rattle.syn_lutnet.specs.LutData.{IsLutNet, Reached, is_input, is_lut, lut_at, ones_of, rising}
use Rattle.syn_lutnet.proofs.Ones.{ones_give}
use Rattle.syn_lutnet.specs.declared.luts.Lut.{Lut}
use Rattle.syn_lutnet.specs.Data.{lut_data, luts_data}
use Rattle.syn_netlist.specs.Lists.{Frame}
use Rattle.syn_network.specs.Networks.{IsNamed}

abbrev six : List ℕ
six = 1 ∷ 2 ∷ 3 ∷ 4 ∷ 5 ∷ 6 ∷ []

input : (n i : ℕ) → 0 < i → i < n → is_input n i ≡ true
input n i low high = and_from (nat_le 1 i) (nat_lt i n) (le-leb 1 i (omega arith)) (lt-ltb i n high)

inputs : (n : ℕ) → 6 < n → list_all (is_input n) six ≡ true
inputs n lt =
    and_from (is_input n 1) (list_all (is_input n) (2 ∷ 3 ∷ 4 ∷ 5 ∷ 6 ∷ [])) (input n 1 (omega arith) (omega arith))
    (and_from (is_input n 2) (list_all (is_input n) (3 ∷ 4 ∷ 5 ∷ 6 ∷ [])) (input n 2 (omega arith) (omega arith))
    (and_from (is_input n 3) (list_all (is_input n) (4 ∷ 5 ∷ 6 ∷ [])) (input n 3 (omega arith) (omega arith))
    (and_from (is_input n 4) (list_all (is_input n) (5 ∷ 6 ∷ [])) (input n 4 (omega arith) (omega arith))
    (and_from (is_input n 5) (list_all (is_input n) (6 ∷ [])) (input n 5 (omega arith) (omega arith))
    (and_from (is_input n 6) (list_all (is_input n) []) (input n 6 (omega arith) (omega arith)) refl)))))

lut_fits : (n : ℕ) (l : Lut) → 6 < n → l.inputs.items ≡ six → is_lut n (lut_data l) ≡ true
lut_fits n l lt e =
    let width : ℕ = length l.inputs.items in
    let ones = ones_give l.truth in
    let small = ap (λ (w : ℕ). list_all (λ m. nat_lt m (2 ^ w)) (ones_of l.truth)) (sym l.vars) ∙ ones.small in
    let last = and_from (rising (ones_of l.truth)) (list_all (λ m. nat_lt m (2 ^ width)) (ones_of l.truth)) ones.rise small in
    let read = and_from (list_all (is_input n) l.inputs.items) (rising (ones_of l.truth) && list_all (λ m. nat_lt m (2 ^ width)) (ones_of l.truth)) (ap (list_all (is_input n)) e ∙ inputs n lt) last in
    let once = and_from (distinct_numbers l.inputs.items) (list_all (is_input n) l.inputs.items && (rising (ones_of l.truth) && list_all (λ m. nat_lt m (2 ^ width)) (ones_of l.truth))) (ap distinct_numbers e) read in
    and_from (nat_le 2 width) (distinct_numbers l.inputs.items && (list_all (is_input n) l.inputs.items && (rising (ones_of l.truth) && list_all (λ m. nat_lt m (2 ^ width)) (ones_of l.truth)))) (ap (λ (xs : List ℕ). nat_le 2 (length xs)) e) once

at_data : (P : spelled.Lut → Type 0) (luts : List Lut) → All (λ l. P (lut_data l)) luts → (j : ℕ) → j < length luts → P (lut_at (luts_data luts) j)
at_data P [] a j lt = absurd (omega arith)
at_data P (l ∷ ls) a zero lt = All-head (λ (x : Lut). P (lut_data x)) l ls a
at_data P (l ∷ ls) a (suc j) lt = at_data P ls (All-tail (λ (x : Lut). P (lut_data x)) l ls a) j (omega arith)

-- parities that are all observed are a net
pub parity_net : (luts : List Lut) (lits : List Lit) → All (λ l. l.inputs.items ≡ six) luts → length lits ≡ length luts → ((j : ℕ) → (d : Lit) → j < length lits → node_of (get_or lits j d) ≡ 7 + j)
    → IsLutNet 6 (luts_data luts) lits
parity_net luts lits parity count plain = record {
  luts_fit = fit;
  within = λ i d lt. omega (arith, plain i d lt, lt, count, length-map luts lut_data);
  reached = reached;
}
  where
    no : Lit
    no = record { 0 = 0 }

    fit : (j : ℕ) → j < length (luts_data luts) → is_lut (6 + 1 + j) (lut_at (luts_data luts) j) ≡ true
    fit j lt =
        at_data (λ l. is_lut (6 + 1 + j) l ≡ true) luts (λ i d inside. lut_fits (6 + 1 + j) (get_or luts i d) (omega arith) (parity i d inside)) j (omega (arith, lt, length-map luts lut_data))

    reached : (j : ℕ) → j < length (luts_data luts) → Reached (6 + 1) (luts_data luts) lits (6 + 1 + j)
    reached j lt set closed has =
        let inside : j < length lits = omega (arith, lt, count, length-map luts lut_data) in
        let at : node_of (get_or lits j no) ≡ 6 + 1 + j = omega (arith, plain j no inside) in
        subst (λ (n : ℕ). set n ≡ true) at (has j no inside)

-- names of constants fit as many other literals
pub names_fit : (frame : Frame) (constants lits : List Lit) → IsNamed frame 6 constants → All (λ l. node_of l ≡ 0) constants → length lits ≡ length constants → IsNamed frame 6 lits
names_fit frame constants lits named none same = record {
  sources_are = named.sources_are;
  observed_are = same ∙ named.observed_are;
  own = λ i lt h.
      let no : Lit = record { 0 = 0 } in
      let inside : i < length constants = omega (arith, lt, same) in
      absurd (omega (arith, none i no inside, ap node_of (named.own i inside h)));
}
