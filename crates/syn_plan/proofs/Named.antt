-- What factoring names: no leaf on whose variable the function does not depend.
use Rattle.std.proofs.Common.{◌≡◌, ℕ, ◌+◌, ◌-◌, ◌<◌, ◌≤◌, Bool, true, false, ◌||◌, cond, eqb, nat_le, nat_lt, List, [], ◌∷◌, refl, sym, ap, ◌∙◌, inl, inr, arith}
use Rattle.std.proofs.lemmas.Bool.{and_from, or_parts, or_from, or_left, or_right, cond_both, cases_lt, le-leb, lt-ltb, eq-eqb, ne_eqb, false≢true, false_from_ne_true}
use Rattle.std.proofs.lemmas.List.Folds.{list_any-append}
use Rattle.syn_plan.specs.declared.PLit.{PLit}
use Rattle.syn_plan.specs.declared.factors.Split.{Split}
use Rattle.syn_plan.specs.declared.factors.Split.TheVariants.{Plain, Complemented, AndHigh, AndLow, OrLow, OrHigh, Exclusive, Choice}
use Rattle.syn_plan.specs.Gates.{index_of, literal_of, complement_of}
use Rattle.syn_plan.specs.Factoring.{Built, with_gate, complemented, with_choice, joined, split_of, cofactor_of, depends_on, factored_after, is_constant}
use Rattle.syn_plan.specs.Naming.{names, gates_name, built_names, NamesNeeded, DependsWithin, names_within, gates_within, IsWithin}
use Rattle.syn_plan.proofs.Builds.{index_of-complement_of}
use Rattle.syn_plan.proofs.Covered.{other_variable}

-- neither the gates nor the output name leaf i
record Spares (i : ℕ) (b : Built) : Type 0 where
  gates : gates_name i b.gates ≡ false
  out : names i b.out ≡ false

module _ (n i : ℕ) (within : i < n) where
  names-complement : (l : PLit) → names i l ≡ false → names i (complement_of l) ≡ false
  names-complement l h = ap (λ k. eqb k (1 + i)) (index_of-complement_of [] l) ∙ h

  complement_spares : (b : Built) → Spares i b → Spares i (complemented b)
  complement_spares b h = record { gates = h.gates; out = names-complement b.out h.out }

  gate_spares : (gates : List (PLit × PLit)) (a b : PLit) → gates_name i gates ≡ false → names i a ≡ false → names i b ≡ false → Spares i (with_gate n gates a b)
  gate_spares gates a b g h k = record {
    gates = list_any-append (λ gate. names i gate.0 || names i gate.1) gates ((a, b) ∷ [])
        ∙ or_from _ _ g (or_from (names i a || names i b) false (or_from _ _ h k) refl);
    out = ne_eqb _ _ (λ e. omega (arith, e));
  }

  choice_spares : (gates : List (PLit × PLit)) (x high low : PLit) → gates_name i gates ≡ false → names i x ≡ false → names i high ≡ false → names i low ≡ false → Spares i (with_choice n gates x high low)
  choice_spares gates x high low g h k l =
      let first : Spares i (with_gate n gates x high) = gate_spares gates x high g h k in
      let second : Spares i (with_gate n (with_gate n gates x high).gates (complement_of x) low) =
      gate_spares (with_gate n gates x high).gates (complement_of x) low first.gates (names-complement x h) l in
      complement_spares _
      (gate_spares (with_gate n (with_gate n gates x high).gates (complement_of x) low).gates _ _ second.gates
      (names-complement (with_gate n gates x high).out first.out)
      (names-complement (with_gate n (with_gate n gates x high).gates (complement_of x) low).out second.out))

  module _ (x : PLit) (low high : List (PLit × PLit) → Built) (apart : names i x ≡ false)
      (low_spares : (gates : List (PLit × PLit)) → gates_name i gates ≡ false → Spares i (low gates))
      (high_spares : (gates : List (PLit × PLit)) → gates_name i gates ≡ false → Spares i (high gates))
      (gates : List (PLit × PLit)) (g : gates_name i gates ≡ false) where
    joined_spares : (s : Split) → Spares i (joined n s x low high gates)
    joined_spares Plain = record { gates = g; out = apart }
    joined_spares Complemented = record { gates = g; out = names-complement x apart }
    joined_spares AndHigh = gate_spares _ _ _ (high_spares gates g).gates apart (high_spares gates g).out
    joined_spares AndLow = gate_spares _ _ _ (low_spares gates g).gates (names-complement x apart) (low_spares gates g).out
    joined_spares OrLow =
        complement_spares _ (gate_spares _ _ _ (high_spares gates g).gates apart (names-complement (high gates).out (high_spares gates g).out))
    joined_spares OrHigh =
        complement_spares _ (gate_spares _ _ _ (low_spares gates g).gates (names-complement x apart) (names-complement (low gates).out (low_spares gates g).out))
    joined_spares Exclusive =
        choice_spares (low gates).gates x (complement_of (low gates).out) (low gates).out (low_spares gates g).gates apart
        (names-complement (low gates).out (low_spares gates g).out) (low_spares gates g).out
    joined_spares Choice =
        let first : Spares i (low gates) = low_spares gates g in
        let second : Spares i (high (low gates).gates) = high_spares (low gates).gates first.gates in
        choice_spares (high (low gates).gates).gates x (high (low gates).gates).out (low gates).out second.gates apart second.out first.out

  constant_spares : (gates : List (PLit × PLit)) (c : Bool) → gates_name i gates ≡ false → Spares i (record { gates = gates; out = record { 0 = cond c 1 0 } })
  constant_spares gates true g = record { gates = g; out = ne_eqb 0 (1 + i) (λ e. omega (arith, e)) }
  constant_spares gates false g = record { gates = g; out = ne_eqb 0 (1 + i) (λ e. omega (arith, e)) }

  factored_spares : (order : List ℕ) (f : List Bool → Bool) (gates : List (PLit × PLit)) → depends_on n f i ≡ false → gates_name i gates ≡ false → Spares i (factored_after n order f gates)
  unfolding factored_after
  factored_spares [] f gates d g = constant_spares gates (is_constant n f true) g
  factored_spares (x ∷ order) f gates d g =
      cond_both (depends_on n f x) _ _ (Spares i)
      (λ e.
      let ne : x ≡ i → ⊥ = λ k. false≢true (sym d ∙ ap (depends_on n f) (sym k) ∙ e) in
      joined_spares (literal_of (1 + x)) (factored_after n order (cofactor_of f x false)) (factored_after n order (cofactor_of f x true))
      (ne_eqb _ _ (λ k. ne (omega (arith, k))))
      (λ more h. factored_spares order (cofactor_of f x false) more (other_variable n x i f false ne d) h)
      (λ more h. factored_spares order (cofactor_of f x true) more (other_variable n x i f true ne d) h)
      gates g
      (split_of n (cofactor_of f x false) (cofactor_of f x true)))
      (λ e. factored_spares order f gates d g)

pub factored_needed : (n : ℕ) (order : List ℕ) (f : List Bool → Bool) → NamesNeeded n f (factored_after n order f [])
factored_needed n order f i l d =
    let spared : Spares i (factored_after n order f []) = factored_spares n i l order f [] d refl in
    or_from _ _ spared.gates spared.out

-- ---- leaves behind the first so many
module _ (count n : ℕ) where
  literal_within : (l : PLit) → ((i : ℕ) → i < n → count ≤ i → names i l ≡ false) → names_within count n l ≡ true
  literal_within l h =
      elim (cases_lt n (index_of l)) [
        | inl above ↦ or_right (nat_le (index_of l) count) (nat_lt n (index_of l)) (lt-ltb n (index_of l) above)
        | inr leaf ↦
            elim (cases_lt count (index_of l)) [
              | inl behind ↦ absurd (false≢true (sym (h (index_of l - 1) (omega arith) (omega arith)) ∙ eq-eqb (index_of l) (1 + (index_of l - 1)) (omega arith)))
              | inr first ↦ or_left (nat_le (index_of l) count) (nat_lt n (index_of l)) (le-leb (index_of l) count first)
            ]
      ]

  gates_all_within : (gates : List (PLit × PLit)) → ((i : ℕ) → i < n → count ≤ i → gates_name i gates ≡ false) → gates_within count n gates ≡ true
  gates_all_within [] h = refl
  gates_all_within (gate ∷ gates) h =
      and_from _ _
      (and_from _ _
      (literal_within gate.0 (λ i l k. (or_parts _ _ (or_parts (names i gate.0 || names i gate.1) _ (h i l k)).0).0))
      (literal_within gate.1 (λ i l k. (or_parts _ _ (or_parts (names i gate.0 || names i gate.1) _ (h i l k)).0).1)))
      (gates_all_within gates (λ i l k. (or_parts (names i gate.0 || names i gate.1) _ (h i l k)).1))

  pub all_within : (f : List Bool → Bool) (b : Built) → NamesNeeded n f b → DependsWithin count n f → IsWithin count n b
  all_within f b needed depends =
      let free : (i : ℕ) → i < n → count ≤ i → built_names i b ≡ false =
      λ i l k. needed i l (false_from_ne_true (depends_on n f i) (λ d. let below : i < count = depends i l d in absurd (omega (arith, below, k)))) in
      record {
        gates = gates_all_within b.gates (λ i l k. (or_parts (gates_name i b.gates) _ (free i l k)).0);
        out = literal_within b.out (λ i l k. (or_parts (gates_name i b.gates) _ (free i l k)).1);
      }
