-- The places of nodes in lists.
use Rattle.std.proofs.Common.{◌≡◌, ◌≢◌, ℕ, zero, suc, ◌+◌, ◌<◌, nat_eq, nat_lt, not, if◌then◌else◌, Bool, true, false, List, [], ◌∷◌, ◌++◌, length, get_or, map, take, refl, sym, ap, ◌∙◌, subst, inl, inr, arith}
use Rattle.std.specs.List.{list_all}
use Rattle.std.proofs.lemmas.Bool.{and_from, and_parts, both_ways, cases_Bool, cases_lt, lt-ltb, ltb-true, ne_eqb, or_cases}
use Rattle.std.proofs.lemmas.List.{length-map, length_push, take_more}
use Rattle.syn_rows.specs.Nodes.{has_node}
use Rattle.syn_rows.proofs.Nodes.{has_at, has_cases, has_here, has_one, has_there, node_same, same_node}
use Rattle.syn_cones.specs.Walk.{rises}
use Rattle.syn_growing.proofs.Sorted.{all_from, all_in}
use Rattle.syn_resub.specs.Resubstitution.{place_of}

-- the place of the first, and of one behind it

pub place_here : (n m : ℕ) (ms : List ℕ) → nat_eq m n ≡ true → place_of n (m ∷ ms) ≡ 0
place_here n m ms e = by (nat_eq m n) e
  where
    by : (b : Bool) → b ≡ true → (if not b then 1 + place_of n ms else 0) ≡ 0
    by true e = refl
    by false e = absurd (both_ways false refl e)

pub place_there : (n m : ℕ) (ms : List ℕ) → nat_eq m n ≡ false → place_of n (m ∷ ms) ≡ suc (place_of n ms)
place_there n m ms e = by (nat_eq m n) e
  where
    by : (b : Bool) → b ≡ false → (if not b then 1 + place_of n ms else 0) ≡ suc (place_of n ms)
    by true e = absurd (both_ways true e refl)
    by false e = omega arith

there_behind : (n m : ℕ) (ms : List ℕ) → nat_eq m n ≡ false → has_node (m ∷ ms) n ≡ true → has_node ms n ≡ true
there_behind n m ms e h = elim (or_cases (nat_eq m n) (has_node ms n) h) [ inl same ↦ absurd (both_ways (nat_eq m n) e same) | inr t ↦ t ]

pub place_within : (n : ℕ) (ns : List ℕ) → has_node ns n ≡ true → place_of n ns < length ns
place_within n [] h = absurd (both_ways false refl h)
place_within n (m ∷ ms) h = elim (cases_Bool (nat_eq m n)) [
  | inl e ↦ let is = place_here n m ms e in omega (arith, is)
  | inr e ↦ let is = place_there n m ms e in let rest = place_within n ms (there_behind n m ms e h) in omega (arith, is, rest)
]

pub at_place : (n : ℕ) (ns : List ℕ) → has_node ns n ≡ true → get_or ns (place_of n ns) 0 ≡ n
at_place n [] h = absurd (both_ways false refl h)
at_place n (m ∷ ms) h = elim (cases_Bool (nat_eq m n)) [
  | inl e ↦ ap (λ p. get_or (m ∷ ms) p 0) (place_here n m ms e) ∙ same_node m n e
  | inr e ↦ ap (λ p. get_or (m ∷ ms) p 0) (place_there n m ms e) ∙ at_place n ms (there_behind n m ms e h)
]

-- the first place at which a node stands is its place
pub place_is : (n : ℕ) (ns : List ℕ) (i : ℕ) → i < length ns → get_or ns i 0 ≡ n → ((k : ℕ) → k < i → get_or ns k 0 ≢ n) → place_of n ns ≡ i
place_is n [] i lt at before = absurd (omega (arith, lt))
place_is n (m ∷ ms) zero lt at before = place_here n m ms (subst (λ k. nat_eq m k ≡ true) at (node_same m))
place_is n (m ∷ ms) (suc i) lt at before = place_there n m ms (ne_eqb m n (before 0 (omega arith))) ∙ ap suc (place_is n ms i (omega (arith, lt)) at (λ k less. before (suc k) (omega (arith, less))))

-- the place in a list is that in a longer one
pub place-append : (n : ℕ) (xs ys : List ℕ) → has_node xs n ≡ true → place_of n (xs ++ ys) ≡ place_of n xs
place-append n [] ys h = absurd (both_ways false refl h)
place-append n (x ∷ xs) ys h = elim (cases_Bool (nat_eq x n)) [
  | inl e ↦ place_here n x (xs ++ ys) e ∙ sym (place_here n x xs e)
  | inr e ↦ place_there n x (xs ++ ys) e ∙ ap suc (place-append n xs ys (there_behind n x xs e h)) ∙ sym (place_there n x xs e)
]

-- rising lists

pub rises_at : (ns : List ℕ) (i j : ℕ) → rises ns ≡ true → i < j → j < length ns → get_or ns i 0 < get_or ns j 0
rises_at [] i j rise less lt = absurd (omega (arith, lt))
rises_at (n ∷ ns) i zero rise less lt = absurd (omega (arith, less))
rises_at (n ∷ ns) zero (suc j) rise less lt =
    ltb-true n (get_or ns j 0) (all_in (nat_lt n) ns (get_or ns j 0) (and_parts (list_all (nat_lt n) ns) (rises ns) rise).0 (has_at ns j (get_or ns j 0) (omega (arith, lt)) refl))
rises_at (n ∷ ns) (suc i) (suc j) rise less lt = rises_at ns i j (and_parts (list_all (nat_lt n) ns) (rises ns) rise).1 (omega (arith, less)) (omega (arith, lt))

-- a smaller node stands before
pub before_at : (ns : List ℕ) (i j : ℕ) → rises ns ≡ true → i < length ns → get_or ns i 0 < get_or ns j 0 → i < j
before_at ns i j rise lt less = elim (cases_lt i j) [
  | inl is ↦ is
  | inr ge ↦ elim (cases_lt j i) [
    | inl later ↦ absurd (let more = rises_at ns j i rise later lt in omega (arith, more, less))
    | inr le ↦ absurd (let same : i ≡ j = omega (arith, ge, le) in let e : get_or ns i 0 ≡ get_or ns j 0 = ap (λ k. get_or ns k 0) same in omega (arith, e, less))
  ]
]

-- it is among those before
pub has_taken : (ns : List ℕ) (i m : ℕ) → rises ns ≡ true → i < length ns → has_node ns m ≡ true → m < get_or ns i 0 → has_node (take i ns) m ≡ true
has_taken ns i m rise lt h less = go ns i lt (before_at ns (place_of m ns) i rise (place_within m ns h) (let at = at_place m ns h in omega (arith, at, less))) h
  where
    go : (ns : List ℕ) (i : ℕ) → i < length ns → place_of m ns < i → has_node ns m ≡ true → has_node (take i ns) m ≡ true
    go [] i lt before h = absurd (both_ways false refl h)
    go (n ∷ ns) zero lt before h = absurd (omega (arith, before))
    go (n ∷ ns) (suc i) lt before h = elim (cases_Bool (nat_eq n m)) [
      | inl e ↦ subst (λ k. has_node (n ∷ take i ns) k ≡ true) (same_node n m e) (has_here n (take i ns))
      | inr e ↦ has_there n m (take i ns) (go ns i (omega (arith, lt)) (let is = place_there m n ns e in omega (arith, is, before)) (there_behind m n ns e h))
    ]

-- and those before are smaller
pub taken_below : (ns : List ℕ) (i m : ℕ) → rises ns ≡ true → i < length ns → has_node (take i ns) m ≡ true → m < get_or ns i 0
taken_below [] i m rise lt h = absurd (omega (arith, lt))
taken_below (n ∷ ns) zero m rise lt h = absurd (both_ways false refl h)
taken_below (n ∷ ns) (suc i) m rise lt h = elim (or_cases (nat_eq n m) (has_node (take i ns) m) h) [
  | inl e ↦ subst (λ k. k < get_or ns i 0) (same_node n m e) (rises_at (n ∷ ns) 0 (suc i) rise (omega arith) lt)
  | inr t ↦ taken_below ns i m (and_parts (list_all (nat_lt n) ns) (rises ns) rise).1 (omega (arith, lt)) t
]

-- one greater node at the end
pub rises_push : (ns : List ℕ) (n : ℕ) → rises ns ≡ true → ((m : ℕ) → has_node ns m ≡ true → m < n) → rises (ns ++ n ∷ []) ≡ true
rises_push [] n rise below = refl
rises_push (m ∷ ms) n rise below =
    let parts = and_parts (list_all (nat_lt m) ms) (rises ms) rise in
    and_from (list_all (nat_lt m) (ms ++ n ∷ [])) (rises (ms ++ n ∷ []))
    (all_from (nat_lt m) (ms ++ n ∷ []) (λ k h. elim (has_cases ms (n ∷ []) k h) [
      | inl old ↦ all_in (nat_lt m) ms k parts.0 old
      | inr new ↦ lt-ltb m k (let same = has_one n k new in let less = below m (has_here m ms) in omega (arith, same, less))
    ]))
    (rises_push ms n parts.1 (λ k h. below k (has_there m k ms h)))

pub rises-take : (k : ℕ) (ns : List ℕ) → rises ns ≡ true → rises (take k ns) ≡ true
rises-take zero ns rise = refl
rises-take (suc k) [] rise = refl
rises-take (suc k) (n ∷ ns) rise =
    let parts = and_parts (list_all (nat_lt n) ns) (rises ns) rise in
    and_from (list_all (nat_lt n) (take k ns)) (rises (take k ns)) (fewer k ns parts.0) (rises-take k ns parts.1)
  where
    fewer : (k : ℕ) (ms : List ℕ) → list_all (nat_lt n) ms ≡ true → list_all (nat_lt n) (take k ms) ≡ true
    fewer zero ms h = refl
    fewer (suc k) [] h = refl
    fewer (suc k) (m ∷ ms) h = let parts = and_parts (nat_lt n m) (list_all (nat_lt n) ms) h in and_from (nat_lt n m) (list_all (nat_lt n) (take k ms)) parts.0 (fewer k ms parts.1)

-- the next of the images of a list
pub mapped_more : {A : Type 0} (f : ℕ → A) (ns : List ℕ) (old new : List A) → length old < length ns → new ≡ old ++ f (get_or ns (length old) 0) ∷ [] → old ≡ take (length old) (map f ns)
    → (length new ≡ length old + 1) × (new ≡ take (length new) (map f ns))
mapped_more f ns old new lt is before =
    let long : length new ≡ length old + 1 = ap (λ l. length l) is ∙ length_push old (f (get_or ns (length old) 0)) in (
      long,
      is ∙ ap (λ l. l ++ f (get_or ns (length old) 0) ∷ []) before ∙ ap (λ x. take (length old) (map f ns) ++ x ∷ []) (sym (get_map ns (length old) lt))
          ∙ sym (take_more (map f ns) (length old) (f 0) (let len = length-map ns f in omega (arith, len, lt))) ∙ ap (λ k. take k (map f ns)) (sym long),
    )
  where
    get_map : (ms : List ℕ) (i : ℕ) → i < length ms → get_or (map f ms) i (f 0) ≡ f (get_or ms i 0)
    get_map [] i less = absurd (omega (arith, less))
    get_map (m ∷ ms) zero less = refl
    get_map (m ∷ ms) (suc i) less = get_map ms i (omega (arith, less))
