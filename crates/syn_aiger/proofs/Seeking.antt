-- The source of a literal, by the place of its variable.
use Rattle.std.specs.List.{list_all}
use Rattle.std.proofs.Common.{◌≡◌, ℕ, zero, suc, ◌+◌, ◌/◌, ◌%◌, ◌<◌, ◌⊎◌, not, nat_eq, true, false, List, [], ◌∷◌, ◌++◌, length, map, get_or, slice_index, slice_index_or, decimal, Option, Some, None, refl, sym, ap, ◌∙◌, inl, inr, arith, eq-eqb, eqb-true, length-append}
use Rattle.std.proofs.lemmas.Bool.{and_from, and_parts, or_left, or_right, or_cases, both_ways, false_from_ne_true, not-true, not_from_false}
use Rattle.std.proofs.lemmas.List.{get_or-map, get_or_append_left, length-map}
use Rattle.syn_lists.specs.Numbers.{distinct_numbers, has_number}
use Rattle.syn_aiger_files.specs.declared.files.Aig.{Aig}
use Rattle.syn_aiger_files.specs.Files.{variable_of}
use Rattle.syn_aiger.specs.Keeping.{feed_next, named_next}
use Rattle.syn_aiger.specs.Naming.{Named, source_or, sources_of}
use Rattle.syn_aiger.specs.Placing.{IsSound, is_plain, place_in}
use Rattle.syn_aiger.specs.Values.{and_variable, defined_variables, source_literals, source_variables}
use Rattle.syn_aiger.proofs.Counting.{distinct_front}
use Rattle.syn_aiger.proofs.Giving.{literal_of, no_source, the_source}
use Rattle.syn_aiger.proofs.Placed.{place_at, place_some}
use Rattle.syn_aiger.proofs.Rowed.{many_defined}
use Rattle.syn_aiger.proofs.Slicing.{source_literals_are}

-- where a number stands
stands_at : (ls : List ℕ) (l : ℕ) → has_number ls l ≡ true → (j : ℕ) × (j < length ls) × (slice_index ls j ≡ l)
stands_at [] l h = absurd (both_ways false refl h)
stands_at (x ∷ ls) l h = elim (or_cases (nat_eq x l) (has_number ls l) h) [
  | inl e ↦ (0, omega arith, eqb-true x l e)
  | inr t ↦ let r = stands_at ls l t in (suc r.0, omega (arith, r.1), r.2)
]

plain_there : (ls : List ℕ) (j : ℕ) → list_all is_plain ls ≡ true → j < length ls → slice_index ls j % 2 ≡ 0
plain_there [] j h l = absurd (omega arith)
plain_there (x ∷ ls) zero h l = eqb-true (x % 2) 0 (and_parts (is_plain x) (list_all is_plain ls) h).0
plain_there (x ∷ ls) (suc j) h l = plain_there ls j (and_parts (is_plain x) (list_all is_plain ls) h).1 (omega arith)

-- distinct where their images are
distinct_behind : (f : ℕ → ℕ) (xs : List ℕ) → distinct_numbers (map f xs) ≡ true → distinct_numbers xs ≡ true
distinct_behind f [] d = refl
distinct_behind f (x ∷ xs) d =
    let p = and_parts (not (has_number (map f xs) (f x))) (distinct_numbers (map f xs)) d in
    and_from (not (has_number xs x)) (distinct_numbers xs)
    (not_from_false (has_number xs x) (false_from_ne_true (has_number xs x) (λ t. both_ways (has_number (map f xs) (f x)) (not-true (has_number (map f xs) (f x)) p.0) (has_image xs x t))))
    (distinct_behind f xs p.1)
  where
    has_image : (ys : List ℕ) (y : ℕ) → has_number ys y ≡ true → has_number (map f ys) (f y) ≡ true
    has_image [] y h = absurd (both_ways false refl h)
    has_image (z ∷ ys) y h = elim (or_cases (nat_eq z y) (has_number ys y) h) [
      | inl e ↦ or_left (nat_eq (f z) (f y)) (has_number (map f ys) (f y)) (eq-eqb (f z) (f y) (ap f (eqb-true z y e)))
      | inr t ↦ or_right (nat_eq (f z) (f y)) (has_number (map f ys) (f y)) (has_image ys y t)
    ]

module _ (g : Aig) (sound : IsSound g) where
  abbrev ls : List ℕ
  ls = source_literals g

  abbrev ds : List ℕ
  ds = defined_variables g

  variable_there : (j : ℕ) → j < length ls → get_or ds (suc j) 0 ≡ variable_of (slice_index ls j)
  variable_there j low = get_or_append_left (source_variables g) (map and_variable g.ands) 0 j (omega (arith, length-map ls variable_of)) ∙ get_or-map variable_of ls j 0 0 low

  -- a source's place
  source_place : (l : ℕ) → has_number ls l ≡ true → (j : ℕ) × (j < length ls) × (slice_index ls j ≡ l) × (place_in ds (variable_of l) ≡ Some (suc j))
  source_place l h =
      let s = stands_at ls l h in
      let low : s.0 < length ls = s.1 in
      (s.0, s.1, s.2, ap (place_in ds) (sym (variable_there s.0 low ∙ ap variable_of s.2)) ∙ place_at ds (suc s.0) sound.once (omega (arith, many_defined g)))

  pub odd_is_none : (l : ℕ) → l % 2 ≡ 1 → has_number ls l ≡ false
  odd_is_none l o = false_from_ne_true (has_number ls l) (λ t.
      let s = stands_at ls l t in
      let even : slice_index ls s.0 % 2 ≡ 0 = plain_there ls s.0 sound.plain s.1 in
      let same : slice_index ls s.0 ≡ l = s.2 in
      omega arith)

  pub far_is_none : (l p : ℕ) → Path (Option ℕ) (Some p) (place_in ds (variable_of l)) → (p ≡ 0) ⊎ (length ls < p) → has_number ls l ≡ false
  far_is_none l p e far = false_from_ne_true (has_number ls l) (λ t.
      let s = source_place l t in
      let q : Path (Option ℕ) (Some p) (Some (suc s.0)) = e ∙ s.3 in
      let same : p ≡ suc s.0 = cc in
      let low : s.0 < length ls = s.1 in
      elim far [ inl z ↦ omega arith | inr f ↦ omega arith ])

  pub none_is_none : (l : ℕ) → Path (Option ℕ) None (place_in ds (variable_of l)) → has_number ls l ≡ false
  none_is_none l e = false_from_ne_true (has_number ls l) (λ t.
      let s = source_place l t in
      let q : Path (Option ℕ) None (Some (suc s.0)) = e ∙ s.3 in
      cc)

  pub near_is_source : (l p s : ℕ) → Path (Option ℕ) (Some p) (place_in ds (variable_of l)) → (l % 2 ≡ 1 → ⊥) → p ≡ suc s → s < length ls → slice_index ls s ≡ l
  near_is_source l p s e even is low =
      let at : get_or ds (suc s) 0 ≡ variable_of l = ap (λ (n : ℕ). get_or ds n 0) (sym is) ∙ (place_some ds (variable_of l) p (sym e)).at in
      let same : slice_index ls s / 2 ≡ l / 2 = sym (variable_there s low) ∙ at in
      let plain : slice_index ls s % 2 ≡ 0 = plain_there ls s sound.plain low in
      let two : l % 2 ≡ 0 = elim (parity (l % 2) (omega arith)) [ inl z ↦ z | inr o ↦ absurd (even o) ] in
      omega arith
    where
      parity : (n : ℕ) → n < 2 → (n ≡ 0) ⊎ (n ≡ 1)
      parity zero h = inl refl
      parity (suc zero) h = inr refl
      parity (suc (suc n)) h = absurd (omega arith)

  literals_once : distinct_numbers (map literal_of (sources_of g)) ≡ true
  literals_once =
      ap distinct_numbers (source_literals_are g)
      ∙ distinct_behind variable_of ls (distinct_front (source_variables g) (map and_variable g.ands) (and_parts (not (has_number (source_variables g ++ map and_variable g.ands) 0)) (distinct_numbers (source_variables g ++ map and_variable g.ands)) sound.once).1)

  many_named : length (map literal_of (sources_of g)) ≡ length (sources_of g)
  many_named = length-map (sources_of g) literal_of

  -- what a latch loads that is a source
  pub feed_again : (index next s : ℕ) (known more : List Named) → known ≡ sources_of g ++ more → s < length ls → slice_index ls s ≡ next
      → (s < length known) × (slice_index_or known s (feed_next (sources_of g) index next known) ≡ feed_next (sources_of g) index next known)
  feed_again index next s known more e low at =
      let sources : List Named = sources_of g in
      let few : length (map literal_of sources) ≡ length ls = ap length (source_literals_are g) in
      let inside : s < length sources = omega (arith, few, many_named) in
      let r = the_source sources next s literals_once (omega (arith, few)) (ap (λ (xs : List ℕ). slice_index xs s) (source_literals_are g) ∙ at) in
      let is : feed_next sources index next known ≡ r.0 = ap (λ (o : Option Named). source_or o (named_next false next known (100 ∷ decimal index))) r.1 in
      let long : length known ≡ length sources + length more = ap length e ∙ length-append sources more in (
        omega arith,
        ap (slice_index_or known s) is ∙ ap (λ (ns : List Named). slice_index_or ns s r.0) e ∙ get_or_append_left sources more r.0 s inside ∙ r.2 ∙ sym is,
      )

  -- what a latch loads that is none
  pub feed_new : (index next : ℕ) (known : List Named) (first : List ℕ) → has_number ls next ≡ false → first ≡ 100 ∷ decimal index → named_next false next known first ≡ feed_next (sources_of g) index next known
  feed_new index next known first none is =
      ap (named_next false next known) is
      ∙ sym (ap (λ (o : Option Named). source_or o (named_next false next known (100 ∷ decimal index))) (no_source (sources_of g) next (ap (λ (xs : List ℕ). has_number xs next) (source_literals_are g) ∙ none)))
