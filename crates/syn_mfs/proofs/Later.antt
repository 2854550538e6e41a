-- What a pass has and keeps.
use Rattle.std.proofs.Common.{◌≡◌, ℕ, suc, ◌+◌, ◌^◌, ◌<◌, ◌≤◌, ◌&&◌, Bool, nat_le, nat_lt, true, false, List, [], ◌∷◌, ◌++◌, drop, length, set, get_or, refl, sym, ap, ◌∙◌, subst, inl, inr, arith, append_assoc}
use Rattle.std.specs.List.{list_all}
use Rattle.std.proofs.lemmas.Bool.{and_from, and_parts, cases_eq, le-leb, leb-true, lt-ltb}
use Rattle.std.proofs.lemmas.List.{get_or-set_other, get_or-set_same, length-set, map-append}
use Rattle.std.proofs.lemmas.List.Sums.{sum_by-cons}
use Rattle.syn_rows.specs.declared.Lit.{Lit}
use Rattle.syn_rows.specs.declared.Row.{Row}
use Rattle.syn_sat.specs.declared.clauses.Clauses.{Clauses}
use Rattle.syn_sat.specs.Holding.{Holds}
use Rattle.syn_lists.specs.Numbers.{distinct_numbers}
use Rattle.syn_hashed.specs.Growing.{Extends}
use Rattle.syn_hashed.proofs.Rising.{extends_itself, extends_through}
use Rattle.syn_lutnet.specs.LutData.{Lut, is_input, is_lut, lut_at, no_lut, none_exceeds, ones_of, rising}
use Rattle.syn_lutnet.specs.Data.{lut_data, luts_data}
use Rattle.syn_lutnet.specs.declared.luts.Lut as code
use Rattle.syn_lutnet.proofs.LutDepths.{luts_next}
use Rattle.syn_lutnet.proofs.Ones.{ones_give}
use Rattle.syn_lutnet.proofs.LutParts.{input_high, lut_parts}
use Rattle.syn_lut_rows.specs.LutLiterals.{reads_below}
use Rattle.syn_fraig.specs.Sweeping.{AreTrueBy}
use Rattle.syn_absorb.specs.Costs.{NeverFalls, cost_by}
use Rattle.syn_mfs.specs.Placing.{ArePlaced, HasValue}
use Rattle.syn_mfs.specs.Replacing.{AreFit, AreNoWider, IsLater, IsPass}
use Rattle.syn_mfs.proofs.Placings.{placed_grown, placed_set}

-- a LUT in the place of another

fit_set : (first : ℕ) (luts : List Lut) (i : ℕ) (l : Lut) → i < length luts → AreFit first luts → is_lut (first + i) l ≡ true → AreFit first (set luts i l)
fit_set first luts i l lt fit own j less = elim (cases_eq j i) [
  | inl e ↦ subst (λ k. is_lut (first + k) (lut_at (set luts i l) k) ≡ true) (sym e) (subst (λ (x : Lut). is_lut (first + i) x ≡ true) (sym (get_or-set_same luts i l no_lut lt)) own)
  | inr ne ↦ subst (λ (x : Lut). is_lut (first + j) x ≡ true) (sym (get_or-set_other luts i j l no_lut ne)) (fit j (omega (arith, less, length-set luts i l)))
]

narrow_set : (luts : List Lut) (i : ℕ) (l : Lut) → i < length luts → length l.inputs ≤ length (lut_at luts i).inputs → AreNoWider luts (set luts i l)
narrow_set luts i l lt few = record {
  long = length-set luts i l;
  each = λ j less. elim (cases_eq j i) [
    | inl e ↦
        let at : lut_at (set luts i l) j ≡ l = ap (lut_at (set luts i l)) e ∙ get_or-set_same luts i l no_lut lt in
        omega (arith, few, ap (λ (x : Lut). length x.inputs) at, ap (λ k. length (lut_at luts k).inputs) e)
    | inr ne ↦ omega (arith, ap (λ (x : Lut). length x.inputs) (get_or-set_other luts i j l no_lut ne))
  ];
}

narrow_itself : (luts : List Lut) → AreNoWider luts luts
narrow_itself luts = record { long = refl; each = λ j lt. omega arith }

narrow_through : (a b c : List Lut) → AreNoWider a b → AreNoWider b c → AreNoWider a c
narrow_through a b c f g = record { long = g.long ∙ f.long; each = λ j lt. omega (arith, f.each j lt, g.each j (omega (arith, lt, f.long))) }

-- later

pub later_grown : (first : ℕ) (lits : List Lit) (luts : List Lut) (old new : List Row) (before after : Clauses) → 0 < length old → IsPass first luts old lits before → Extends old new → AreTrueBy new after
    → IsLater first lits luts old luts new after
later_grown first lits luts old new before after some pass grows true_by = record {
  grows = grows;
  narrow = narrow_itself luts;
  pass = record { fit = pass.fit; placed = placed_grown first luts old new lits some grows pass.placed; clauses = true_by };
}

pub later_itself : (first : ℕ) (lits : List Lit) (luts : List Lut) (rows : List Row) (clauses : Clauses) → IsPass first luts rows lits clauses → IsLater first lits luts rows luts rows clauses
later_itself first lits luts rows clauses pass = record { grows = extends_itself rows; narrow = narrow_itself luts; pass = pass }

pub later_set : (first : ℕ) (lits : List Lit) (luts : List Lut) (old new : List Row) (before after : Clauses) (i : ℕ) (l : Lut) → 0 < length old → i < length luts → IsPass first luts old lits before → Extends old new → AreTrueBy new after
    → is_lut (first + i) l ≡ true → length l.inputs ≤ length (lut_at luts i).inputs → HasValue new lits l (first + i) → IsLater first lits luts old (set luts i l) new after
later_set first lits luts old new before after i l some lt pass grows true_by fit few value = record {
  grows = grows;
  narrow = narrow_set luts i l lt few;
  pass = record {
    fit = fit_set first luts i l lt pass.fit fit;
    placed = placed_set first luts new lits i l lt value (placed_grown first luts old new lits some grows pass.placed);
    clauses = true_by;
  };
}

pub later_through : (first : ℕ) (lits : List Lit) (a b c : List Lut) (old mid new : List Row) (before after : Clauses) → IsLater first lits a old b mid before → IsLater first lits b mid c new after
    → IsLater first lits a old c new after
later_through first lits a b c old mid new before after f g = record {
  grows = extends_through old mid new f.grows g.grows;
  narrow = narrow_through a b c f.narrow g.narrow;
  pass = g.pass;
}

-- LUTs that are no wider exceed no bound that others keep, and are no dearer

pub no_wider_exceed : (k : ℕ) (was now : List Lut) → AreNoWider was now → none_exceeds k was ≡ true → none_exceeds k now ≡ true
no_wider_exceed k [] [] n h = refl
no_wider_exceed k [] (x ∷ xs) n h = absurd (omega (arith, n.long))
no_wider_exceed k (l ∷ ls) [] n h = absurd (omega (arith, n.long))
no_wider_exceed k (l ∷ ls) (x ∷ xs) n h =
    let parts = and_parts (nat_le (length l.inputs) k) (none_exceeds k ls) h in
    let few = leb-true (length l.inputs) k parts.0 in
    and_from (nat_le (length x.inputs) k) (none_exceeds k xs) (le-leb (length x.inputs) k (omega (arith, few, n.each 0 (omega arith))))
    (no_wider_exceed k ls xs (record { long = omega (arith, n.long); each = λ j lt. n.each (suc j) (omega (arith, lt)) }) parts.1)

pub no_wider_cost : (cost : ℕ → ℕ) → NeverFalls cost → (was now : List Lut) → AreNoWider was now → cost_by cost now ≤ cost_by cost was
no_wider_cost cost rises [] [] n = omega arith
no_wider_cost cost rises [] (x ∷ xs) n = absurd (omega (arith, n.long))
no_wider_cost cost rises (l ∷ ls) [] n = absurd (omega (arith, n.long))
no_wider_cost cost rises (l ∷ ls) (x ∷ xs) n =
    let f : Lut → ℕ = λ (y : Lut). cost (length y.inputs) in
    omega (
      arith,
      sum_by-cons f l ls,
      sum_by-cons f x xs,
      rises (length x.inputs) (length l.inputs) (n.each 0 (omega arith)),
      no_wider_cost cost rises ls xs (record { long = omega (arith, n.long); each = λ j lt. n.each (suc j) (omega (arith, lt)) }),
    )

-- a LUT that is fit reads signals before its own
pub fit_reads : (n m : ℕ) (l : Lut) → is_lut n l ≡ true → n ≤ m → list_all (reads_below m) l.inputs ≡ true
fit_reads n m l fit le = go l.inputs (lut_parts n l fit).inside
  where
    go : (is : List ℕ) → list_all (is_input n) is ≡ true → list_all (reads_below m) is ≡ true
    go [] h = refl
    go (i ∷ is) h =
        let parts = and_parts (is_input n i) (list_all (is_input n) is) h in
        and_from (reads_below m i) (list_all (reads_below m) is) (lt-ltb i m (omega (arith, input_high n i parts.0, le))) (go is parts.1)

-- a LUT that may be that of a signal, by what was looked at
pub fit_from : (n : ℕ) (l : code.Lut) → 2 ≤ length l.inputs.items → list_all (is_input n) l.inputs.items ≡ true → distinct_numbers l.inputs.items ≡ true → is_lut n (lut_data l) ≡ true
fit_from n l many inside once =
    and_from (nat_le 2 (length is)) (distinct_numbers is && (list_all (is_input n) is && (rising ones && small))) (le-leb 2 (length is) many)
    (and_from (distinct_numbers is) (list_all (is_input n) is && (rising ones && small)) once
    (and_from (list_all (is_input n) is) (rising ones && small) inside
    (and_from (rising ones) small (ones_give l.truth).rise (subst (λ k. list_all (λ m. nat_lt m (2 ^ k)) ones ≡ true) l.vars (ones_give l.truth).small))))
  where
    is : List ℕ
    is = l.inputs.items

    ones : List ℕ
    ones = ones_of l.truth

    small : Bool
    small = list_all (λ m. nat_lt m (2 ^ length is)) ones

-- what a pass begins with
pub pass_begun : (count : ℕ) (luts now : List Lut) (rows : List Row) (lits : List Lit) (clauses : Clauses) → now ≡ luts → AreFit (count + 1) luts → ArePlaced (count + 1) luts rows lits → ((v : ℕ → Bool) → v 0 ≡ false → Holds clauses v)
    → IsPass (count + 1) now rows lits clauses
pass_begun count luts now rows lits clauses same fit placed true_by = subst (λ (ls : List Lut). IsPass (count + 1) ls rows lits clauses) (sym same) (record { fit = fit; placed = placed; clauses = λ v f. true_by v f.constant })

-- one copy more
pub copies_next : (done after luts : List code.Lut) (i : ℕ) (l copy : code.Lut) (all : List Lut) → after ≡ done ++ copy ∷ [] → lut_data copy ≡ lut_data l → i < length luts → l ≡ get_or luts i l → luts_data done ++ luts_data (drop i luts) ≡ all
    → luts_data after ++ luts_data (drop (i + 1) luts) ≡ all
copies_next done after luts i l copy all e same lt is h =
    let rest : List Lut = luts_data (drop (i + 1) luts) in
    ap (λ (ls : List code.Lut). luts_data ls ++ rest) e ∙ ap (λ (xs : List Lut). xs ++ rest) (map-append lut_data done (copy ∷ [])) ∙ append_assoc (luts_data done) (lut_data copy ∷ []) rest
    ∙ ap (λ (x : Lut). luts_data done ++ x ∷ rest) same ∙ sym (ap (λ (ls : List Lut). luts_data done ++ ls) (luts_next luts i l lt is)) ∙ h
