-- Which signals are marked: those that are reached, once the inputs of all marked LUTs were marked.
use Rattle.std.proofs.Common.{◌≡◌, ℕ, zero, suc, ◌+◌, ◌<◌, ◌≤◌, ◌&&◌, ◌||◌, nat_eq, Bool, true, false, All, List, [], ◌∷◌, length, map, get_or, replicate, refl, sym, ap, ◌∙◌, subst, inl, inr, arith}
use Rattle.std.proofs.lemmas.Bool.{cases_lt, and_parts, and_from, or_cases, or_left, or_right, both_ways, eqb-true}
use Rattle.std.proofs.lemmas.List.{get_or_default, get_or-map, length-map}
use Rattle.std.proofs.lemmas.List.Elements.{All-head, All-tail, All-weaker}
use Rattle.std.proofs.lemmas.List.Sums.{AllPass-from_list_all}
use Rattle.syn_rows.specs.declared.Lit.{Lit}
use Rattle.syn_rows.specs.Rows.{node_of}
use Rattle.syn_rows.specs.Nodes.{has_node}
use Rattle.syn_rows.specs.Reach.{HasObserved}
use Rattle.syn_rows.specs.Values.{value_in}
use Rattle.syn_rows.proofs.Nodes.{has_at}
use Rattle.syn_lutnet.specs.LutData.{Lut, Reached, is_input, lut_at}
use Rattle.syn_lutnet.proofs.LutParts.{input_high, lut_parts}
use Rattle.syn_absorb.specs.Reaching.{IsOpenNet, IsSwept}

node_fact : (P : ℕ → Type 0) (ms : List ℕ) (n : ℕ) → All P ms → has_node ms n ≡ true → P n
node_fact P [] n a h = absurd (both_ways false refl h)
node_fact P (m ∷ ms) n a h = elim (or_cases (nat_eq m n) (has_node ms n) h) [
  | inl e ↦ subst P (eqb-true m n e) (All-head P m ms a)
  | inr t ↦ node_fact P ms n (All-tail P m ms a) t
]

none_marked : (count m : ℕ) → value_in (replicate count false) m ≡ false
none_marked zero m = refl
none_marked (suc n) zero = refl
none_marked (suc n) (suc m) = none_marked n m

-- the inputs of a LUT that fits are smaller signals
pub inputs_below : (count : ℕ) (luts : List Lut) (lits : List Lit) → IsOpenNet count luts lits → (j : ℕ) → j < length luts → All (λ m. m < count + 1 + j) (lut_at luts j).inputs
inputs_below count luts lits net j lt =
    All-weaker (λ m. is_input (count + 1 + j) m ≡ true) (λ m. m < count + 1 + j) (λ m t. input_high (count + 1 + j) m t) (lut_at luts j).inputs
    (AllPass-from_list_all (is_input (count + 1 + j)) (lut_at luts j).inputs (lut_parts (count + 1 + j) (lut_at luts j) (net.luts_fit j lt)).inside)

pub inputs_fit : (count : ℕ) (luts : List Lut) (lits : List Lit) → IsOpenNet count luts lits → (j : ℕ) → j < length luts → (inputs : List ℕ) → inputs ≡ (lut_at luts j).inputs → (size : ℕ) → count + 1 + j ≤ size → All (λ m. m < size) inputs
inputs_fit count luts lits net j lt inputs inputs_are size le =
    subst (λ (ns : List ℕ). All (λ m. m < size) ns) (sym inputs_are)
    (All-weaker (λ m. m < count + 1 + j) (λ m. m < size) (λ m less. omega (arith, less, le)) (lut_at luts j).inputs (inputs_below count luts lits net j lt))

-- marks of the observed signals alone
pub swept_start : (first : ℕ) (luts : List Lut) (lits : List Lit) (none marks : List Bool) (n : ℕ) → n ≡ length luts → none ≡ replicate (first + n) false → length marks ≡ first + n
    → ((m : ℕ) → value_in marks m ≡ (value_in none m || has_node (map node_of lits) m)) → IsSwept first luts lits marks n
swept_start first luts lits none marks n n_is none_is long is = record {
  count = omega (arith, long, n_is);
  reached = reached;
  seen = λ i d lt. sym (observed (node_of (get_or lits i d))) ∙ there i d lt;
  done = λ j le lt t. absurd (omega (arith, le, lt, n_is));
}
  where
    observed : (m : ℕ) → has_node (map node_of lits) m ≡ value_in marks m
    observed m = sym (is m ∙ ap (λ b. b || has_node (map node_of lits) m) (ap (λ (bs : List Bool). value_in bs m) none_is ∙ none_marked (first + n) m))

    there : (i : ℕ) (d : Lit) → i < length lits → has_node (map node_of lits) (node_of (get_or lits i d)) ≡ true
    there i d lt = ap (has_node (map node_of lits)) (sym (get_or-map node_of lits i d 0 lt)) ∙ has_at (map node_of lits) i (get_or (map node_of lits) i 0) (omega (arith, lt, length-map lits node_of)) refl

    reached : (n : ℕ) → value_in marks n ≡ true → Reached first luts lits n
    reached n t set closed seen = node_fact (λ m. set m ≡ true) (map node_of lits) n
        (λ i d lt. let inside : i < length lits = omega (arith, lt, length-map lits node_of) in ap set (get_or-map node_of lits i (record { 0 = 0 }) d inside) ∙ seen i (record { 0 = 0 }) inside)
        (observed n ∙ t)

-- the inputs of one LUT more are marked
pub swept_next : (count : ℕ) (luts : List Lut) (lits : List Lit) (old new : List Bool) (j next signal : ℕ) (inputs : List ℕ) → IsOpenNet count luts lits → j < length luts → next ≡ j + 1 → signal ≡ count + 1 + j → inputs ≡ (lut_at luts j).inputs
    → IsSwept (count + 1) luts lits old next → length new ≡ length old → ((m : ℕ) → value_in new m ≡ (value_in old m || (value_in old signal && has_node inputs m))) → IsSwept (count + 1) luts lits new j
swept_next count luts lits old new j next signal inputs net there at signal_is inputs_are swept long is = record { count = long ∙ swept.count; reached = reached; seen = seen; done = done }
  where
    first : ℕ
    first = count + 1

    own : List ℕ
    own = (lut_at luts j).inputs

    marked : (m : ℕ) → value_in new m ≡ (value_in old m || (value_in old (first + j) && has_node own m))
    marked m = is m ∙ ap (λ k. value_in old m || (value_in old k && has_node inputs m)) signal_is ∙ ap (λ (ns : List ℕ). value_in old m || (value_in old (first + j) && has_node ns m)) inputs_are

    kept : (m : ℕ) → value_in old m ≡ true → value_in new m ≡ true
    kept m t = marked m ∙ or_left (value_in old m) (value_in old (first + j) && has_node own m) t

    reached : (m : ℕ) → value_in new m ≡ true → Reached first luts lits m
    reached m t set closed seen = elim (or_cases (value_in old m) (value_in old (first + j) && has_node own m) (sym (marked m) ∙ t)) [
      | inl o ↦ swept.reached m o set closed seen
      | inr a ↦
          let parts = and_parts (value_in old (first + j)) (has_node own m) a in
          node_fact (λ k. set k ≡ true) own m (closed j there (swept.reached (first + j) parts.0 set closed seen)) parts.1
    ]

    seen : HasObserved lits (value_in new)
    seen i d lt = kept (node_of (get_or lits i d)) (swept.seen i d lt)

    -- no input of the LUT is a LUT at or above it
    was : (k : ℕ) → j ≤ k → value_in new (first + k) ≡ true → value_in old (first + k) ≡ true
    was k le t = elim (or_cases (value_in old (first + k)) (value_in old (first + j) && has_node own (first + k)) (sym (marked (first + k)) ∙ t)) [
      | inl o ↦ o
      | inr a ↦
          let low : first + k < first + j = node_fact (λ m. m < first + j) own (first + k) (inputs_below count luts lits net j there) (and_parts (value_in old (first + j)) (has_node own (first + k)) a).1 in
          absurd (omega (arith, low, le))
    ]

    done : (k : ℕ) → j ≤ k → k < length luts → value_in new (first + k) ≡ true → All (λ m. value_in new m ≡ true) (lut_at luts k).inputs
    done k le lt t = elim (cases_lt j k) [
      | inl above ↦ λ i d inside. kept (get_or (lut_at luts k).inputs i d) (swept.done k (omega (arith, at, above)) lt (was k le t) i d inside)
      | inr ge ↦
          let same : j ≡ k = omega (arith, le, ge) in
          subst (λ x. All (λ m. value_in new m ≡ true) (lut_at luts x).inputs) same (here (was j (omega arith) (ap (λ x. value_in new (first + x)) same ∙ t)))
    ]
      where
        here : value_in old (first + j) ≡ true → All (λ m. value_in new m ≡ true) own
        here o i d inside = marked (get_or own i d) ∙ or_right (value_in old (get_or own i d)) (value_in old (first + j) && has_node own (get_or own i d))
            (and_from (value_in old (first + j)) (has_node own (get_or own i d)) o (has_at own i (get_or own i d) inside (get_or_default own i 0 d inside)))
