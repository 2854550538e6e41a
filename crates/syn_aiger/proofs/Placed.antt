-- Places of numbers in lists.
use Rattle.std.proofs.Common.{◌≡◌, ℕ, zero, suc, ◌+◌, ◌-◌, ◌*◌, ◌/◌, ◌<◌, ◌≤◌, ◌||◌, not, nat_eq, nat_le, nat_lt, Bool, true, false, cond, if◌then◌else◌, List, [], ◌∷◌, ◌++◌, length, map, take, drop, get_or, option_map, Option, Some, None, refl, sym, ap, ap₂, ◌∙◌, subst, inl, inr, append_assoc, arith, eq-eqb, ne_eqb, eqb-true, le-leb, lt-ltb, le-ltb, length-append}
use Rattle.std.specs.HashMap.{get}
use Rattle.std.proofs.lemmas.Bool.{and_parts, or_from, or_left, or_right, or_parts, both_ways, cases_Bool, cases_eq, cases_lt, cond-true, cond-false, not-true, lt-leb}
use Rattle.std.proofs.lemmas.List.{drop_more, length-map, map-append, take-append-drop, take_more}
use Rattle.syn_lists.specs.Numbers.{distinct_numbers, has_number}
use Rattle.syn_aiger_files.specs.Files.{variable_of}
use Rattle.syn_aiger_files.specs.Literals.{literals_from}
use Rattle.syn_aiger_files.proofs.Counts.{literals_count}
use Rattle.syn_aiger.specs.Placing.{HasPlaces, found, or_zero, place_in}
use Rattle.syn_aiger.specs.declared.places.Places.{Places}
use Rattle.syn_aiger.proofs.Defined.{number_before}

-- from the number in front
pub place_here : (n : ℕ) (ns : List ℕ) (v : ℕ) → n ≡ v → place_in (n ∷ ns) v ≡ Some 0
place_here n ns v e = cond-true (nat_eq n v) (Some 0) (option_map suc (place_in ns v)) (eq-eqb n v e)

pub place_later : (n : ℕ) (ns : List ℕ) (v : ℕ) → nat_eq n v ≡ false → place_in (n ∷ ns) v ≡ option_map suc (place_in ns v)
place_later n ns v e = cond-false (nat_eq n v) (Some 0) (option_map suc (place_in ns v)) e

-- one more

pub place_other : (known : List ℕ) (v x : ℕ) → nat_eq v x ≡ false → place_in (known ++ v ∷ []) x ≡ place_in known x
place_other [] v x e = place_later v [] x e
place_other (n ∷ ns) v x e = ap (λ (o : Option ℕ). if nat_eq n x then Some 0 else option_map suc o) (place_other ns v x e)

pub place_new : (known : List ℕ) (v : ℕ) → has_number known v ≡ false → place_in (known ++ v ∷ []) v ≡ Some (length known)
place_new [] v h = place_here v [] v refl
place_new (n ∷ ns) v h =
    let p = or_parts (nat_eq n v) (has_number ns v) h in
    place_later n (ns ++ v ∷ []) v p.0 ∙ ap (option_map suc) (place_new ns v p.1)

-- what a place says

pub place_none : (ns : List ℕ) (v : ℕ) → place_in ns v ≡ None → has_number ns v ≡ false
place_none [] v e = refl
place_none (n ∷ ns) v e = elim (cases_Bool (nat_eq n v)) [
  | inl t ↦ absurd (none_some 0 (sym e ∙ cond-true (nat_eq n v) (Some 0) (option_map suc (place_in ns v)) t))
  | inr f ↦ or_from (nat_eq n v) (has_number ns v) f (place_none ns v (unmapped (place_in ns v) (sym (place_later n ns v f) ∙ e)))
]
  where
    none_some : (p : ℕ) → Path (Option ℕ) None (Some p) → ⊥
    none_some p q = cc

    unmapped : (o : Option ℕ) → Path (Option ℕ) (option_map suc o) None → o ≡ None
    unmapped None q = refl
    unmapped (Some p) q = absurd (cc)

-- A place is within the list, and has the number.
pub record IsPlaced (ns : List ℕ) (v p : ℕ) : Type 0 where
  pub within : p < length ns
  pub at : get_or ns p 0 ≡ v
  pub has : has_number ns v ≡ true

pub place_some : (ns : List ℕ) (v p : ℕ) → place_in ns v ≡ Some p → IsPlaced ns v p
place_some [] v p e = absurd (cc)
place_some (n ∷ ns) v p e = elim (cases_Bool (nat_eq n v)) [
  | inl t ↦
      let q : Path (Option ℕ) (Some 0) (Some p) = sym (cond-true (nat_eq n v) (Some 0) (option_map suc (place_in ns v)) t) ∙ e in
      let z : 0 ≡ p = cc in
      subst (IsPlaced (n ∷ ns) v) z (record { within = omega arith; at = eqb-true n v t; has = or_left (nat_eq n v) (has_number ns v) t })
  | inr f ↦ later (place_in ns v) refl (sym (place_later n ns v f) ∙ e) (place_some ns v)
]
  where
    later : (o : Option ℕ) → place_in ns v ≡ o → Path (Option ℕ) (option_map suc o) (Some p) → ((q : ℕ) → place_in ns v ≡ Some q → IsPlaced ns v q) → IsPlaced (n ∷ ns) v p
    later None f q ih = absurd (cc)
    later (Some k) f q ih =
        let z : suc k ≡ p = cc in
        let i = ih k f in
        subst (IsPlaced (n ∷ ns) v) z (record { within = let w = i.within in omega arith; at = i.at; has = or_right (nat_eq n v) (has_number ns v) i.has })

pub place_there : (ns : List ℕ) (v : ℕ) → has_number ns v ≡ true → (p : ℕ) × (place_in ns v ≡ Some p)
place_there ns v h = go (place_in ns v) refl
  where
    go : (o : Option ℕ) → place_in ns v ≡ o → (p : ℕ) × (place_in ns v ≡ Some p)
    go None e = absurd (both_ways (has_number ns v) (place_none ns v e) h)
    go (Some p) e = (p, e)

-- the node of a number that is there
pub node_placed : (ns : List ℕ) (v : ℕ) → has_number ns v ≡ true → IsPlaced ns v (or_zero (place_in ns v))
node_placed ns v h = let p = place_there ns v h in subst (IsPlaced ns v) (sym (ap or_zero p.1)) (place_some ns v p.0 p.1)

-- in a list of distinct numbers each is at its place
pub place_at : (ns : List ℕ) (i : ℕ) → distinct_numbers ns ≡ true → i < length ns → place_in ns (get_or ns i 0) ≡ Some i
place_at [] i d l = absurd (omega arith)
place_at (n ∷ ns) zero d l = place_here n ns n refl
place_at (n ∷ ns) (suc i) d l =
    let p = and_parts (not (has_number ns n)) (distinct_numbers ns) d in
    place_later n ns (get_or ns i 0) (ne_eqb n (get_or ns i 0) (λ e. both_ways (has_number ns n) (not-true (has_number ns n) p.0) (ap (has_number ns) e ∙ has_at ns i (omega arith))))
    ∙ ap (option_map suc) (place_at ns i p.1 (omega arith))
  where
    has_at : (ms : List ℕ) (j : ℕ) → j < length ms → has_number ms (get_or ms j 0) ≡ true
    has_at [] j l = absurd (omega arith)
    has_at (m ∷ ms) zero l = or_left (nat_eq m m) (has_number ms m) (eq-eqb m m refl)
    has_at (m ∷ ms) (suc j) l = or_right (nat_eq m (get_or ms j 0)) (has_number ms (get_or ms j 0)) (has_at ms j (omega arith))

-- the first so many
pub front_has : (front more : List ℕ) (v p : ℕ) → place_in (front ++ more) v ≡ Some p → has_number front v ≡ nat_lt p (length front)
front_has [] more v p e = sym (le-ltb p 0 (omega arith))
front_has (n ∷ ns) more v p e = elim (cases_Bool (nat_eq n v)) [
  | inl t ↦
      let q : Path (Option ℕ) (Some 0) (Some p) = sym (cond-true (nat_eq n v) (Some 0) (option_map suc (place_in (ns ++ more) v)) t) ∙ e in
      let z : 0 ≡ p = cc in
      or_left (nat_eq n v) (has_number ns v) t ∙ sym (lt-ltb p (suc (length ns)) (omega arith))
  | inr f ↦ later (place_in (ns ++ more) v) refl f (sym (place_later n (ns ++ more) v f) ∙ e) (front_has ns more v)
]
  where
    same : (a b : ℕ) → nat_lt a b ≡ nat_lt (suc a) (suc b)
    same a b = elim (cases_lt a b) [
      | inl l ↦ lt-ltb a b l ∙ sym (lt-ltb (suc a) (suc b) (omega arith))
      | inr g ↦ le-ltb a b g ∙ sym (le-ltb (suc a) (suc b) (omega arith))
    ]

    later : (o : Option ℕ) → place_in (ns ++ more) v ≡ o → nat_eq n v ≡ false → Path (Option ℕ) (option_map suc o) (Some p) → ((q : ℕ) → place_in (ns ++ more) v ≡ Some q → has_number ns v ≡ nat_lt q (length ns)) → has_number (n ∷ ns) v ≡ nat_lt p (suc (length ns))
    later None f t q ih = absurd (cc)
    later (Some k) f t q ih =
        let z : suc k ≡ p = cc in
        ap (λ (b : Bool). b || has_number ns v) t ∙ ih k f ∙ same k (length ns) ∙ ap (λ (x : ℕ). nat_lt x (suc (length ns))) z

pub front_none : (front more : List ℕ) (v : ℕ) → place_in (front ++ more) v ≡ None → has_number front v ≡ false
front_none [] more v e = refl
front_none (n ∷ ns) more v e =
    let h = place_none (n ∷ (ns ++ more)) v e in
    let p = or_parts (nat_eq n v) (has_number (ns ++ more) v) h in
    or_from (nat_eq n v) (has_number ns v) p.0 (less ns more v p.1)
  where
    less : (xs ys : List ℕ) (x : ℕ) → has_number (xs ++ ys) x ≡ false → has_number xs x ≡ false
    less [] ys x h = refl
    less (y ∷ xs) ys x h = let p = or_parts (nat_eq y x) (has_number (xs ++ ys) x) h in or_from (nat_eq y x) (has_number xs x) p.0 (less xs ys x p.1)

-- what the code adds

module _ (old new : Places) (known : List ℕ) (v : ℕ) (h : HasPlaces old known) (free : has_number known v ≡ false) where
  not_before : v ≤ old.run → ⊥
  not_before le =
      let e : Path (Option ℕ) (Some v) (place_in known v) = sym (cond-true (nat_le v old.run) (Some v) (get nat_eq old.others v) (le-leb v old.run le)) ∙ h.at v in
      both_ways (has_number known v) free ((place_some known v v (sym e)).has)

  -- in order
  pub added_next : v ≡ length known → old.run + 1 ≡ v → new.count ≡ old.count + 1 → new.run ≡ v → new.others ≡ old.others → HasPlaces new (known ++ v ∷ [])
  added_next is next count run others = record {
    count = let c = h.count in let l = length-append known (v ∷ []) in omega arith;
    at = λ x. elim (cases_eq v x) [
      | inl e ↦ subst (λ (y : ℕ). found new y ≡ place_in (known ++ v ∷ []) y) e
          (cond-true (nat_le v new.run) (Some v) (get nat_eq new.others v) (le-leb v new.run (omega arith)) ∙ ap Some is ∙ sym (place_new known v free))
      | inr d ↦ sym (place_other known v x (ne_eqb v x d) ∙ sym (h.at x) ∙ elim (cases_lt old.run x) [
        | inl l ↦
            cond-false (nat_le x old.run) (Some x) (get nat_eq old.others x) (lt-leb x old.run l)
            ∙ sym (cond-false (nat_le x new.run) (Some x) (get nat_eq new.others x) (lt-leb x new.run (omega arith)) ∙ ap (λ m. get nat_eq m x) others)
        | inr g ↦ cond-true (nat_le x old.run) (Some x) (get nat_eq old.others x) (le-leb x old.run g) ∙ sym (cond-true (nat_le x new.run) (Some x) (get nat_eq new.others x) (le-leb x new.run (omega arith)))
      ])
    ];
  }

  -- out of order
  pub added_apart : new.count ≡ old.count + 1 → new.run ≡ old.run → ((x : ℕ) → get nat_eq new.others x ≡ cond (nat_eq v x) (Some old.count) (get nat_eq old.others x)) → HasPlaces new (known ++ v ∷ [])
  added_apart count run others = record {
    count = let c = h.count in let l = length-append known (v ∷ []) in omega arith;
    at = λ x. elim (cases_eq v x) [
      | inl e ↦ subst (λ (y : ℕ). found new y ≡ place_in (known ++ v ∷ []) y) e
          (cond-false (nat_le v new.run) (Some v) (get nat_eq new.others v) (lt-leb v new.run (elim (cases_lt new.run v) [ inl l ↦ l | inr g ↦ absurd (not_before (omega arith)) ]))
          ∙ others v ∙ cond-true (nat_eq v v) (Some old.count) (get nat_eq old.others v) (eq-eqb v v refl) ∙ ap Some h.count ∙ sym (place_new known v free))
      | inr d ↦
          ap₂ (λ (r : ℕ) (o : Option ℕ). if nat_le x r then Some x else o) run (others x ∙ cond-false (nat_eq v x) (Some old.count) (get nat_eq old.others x) (ne_eqb v x d))
          ∙ h.at x ∙ sym (place_other known v x (ne_eqb v x d))
    ];
  }

-- the first variables

in_run : (u n v : ℕ) → u ≤ v → v < u + n → place_in (map variable_of (literals_from u n)) v ≡ Some (v - u)
in_run u zero v le lt = absurd (omega arith)
in_run u (suc n) v le lt = elim (cases_eq u v) [
  | inl e ↦ place_here (2 * u / 2) (map variable_of (literals_from (u + 1) n)) v (omega arith) ∙ ap Some (let q : 0 ≡ v - u = omega arith in q)
  | inr d ↦
      let more : u + 1 ≤ v = elim (cases_lt u v) [ inl l ↦ omega arith | inr g ↦ absurd (d (omega arith)) ] in
      place_later (2 * u / 2) (map variable_of (literals_from (u + 1) n)) v (ne_eqb (2 * u / 2) v (λ e. d (omega arith)))
      ∙ ap (option_map suc) (in_run (u + 1) n v more (omega arith)) ∙ ap Some (let q : suc (v - (u + 1)) ≡ v - u = omega arith in q)
]

past_run : (u n v : ℕ) → u + n ≤ v → place_in (map variable_of (literals_from u n)) v ≡ None
past_run u zero v le = refl
past_run u (suc n) v le =
    place_later (2 * u / 2) (map variable_of (literals_from (u + 1) n)) v (ne_eqb (2 * u / 2) v (λ e. omega arith)) ∙ ap (option_map suc) (past_run (u + 1) n v (omega arith))

first_place : (count v : ℕ) → place_in (0 ∷ map variable_of (literals_from 1 count)) v ≡ (if nat_le v count then Some v else None)
first_place count zero = place_here 0 (map variable_of (literals_from 1 count)) 0 refl ∙ sym (cond-true (nat_le 0 count) (Some 0) None (le-leb 0 count (omega arith)))
first_place count (suc v) =
    place_later 0 (map variable_of (literals_from 1 count)) (suc v) (ne_eqb 0 (suc v) (λ e. omega arith))
    ∙ elim (cases_lt count (suc v)) [
      | inl l ↦ ap (option_map suc) (past_run 1 count (suc v) (omega arith)) ∙ sym (cond-false (nat_le (suc v) count) (Some (suc v)) None (lt-leb (suc v) count l))
      | inr g ↦ ap (option_map suc) (in_run 1 count (suc v) (omega arith) (omega arith)) ∙ ap Some (let q : suc (suc v - 1) ≡ suc v = omega arith in q) ∙ sym (cond-true (nat_le (suc v) count) (Some (suc v)) None (le-leb (suc v) count g))
    ]

pub first_places : (p : Places) (count : ℕ) → p.count ≡ count + 1 → p.run ≡ count → ((v : ℕ) → get nat_eq p.others v ≡ None) → HasPlaces p (0 ∷ map variable_of (literals_from 1 count))
first_places p count many run none = record {
  count = omega (arith, length-map (literals_from 1 count) variable_of, literals_count 1 count);
  at = λ v. ap₂ (λ (r : ℕ) (o : Option ℕ). if nat_le v r then Some v else o) run (none v) ∙ sym (first_place count v);
}

-- one more of a list

pub placed_more : {X : Type 0} (f : X → ℕ) (xs : List X) (i : ℕ) (x : X) (old new : Places) (known : List ℕ) → distinct_numbers (known ++ map f xs) ≡ true → drop i xs ≡ x ∷ drop (i + 1) xs → take (i + 1) xs ≡ take i xs ++ x ∷ [] → xs ≡ take i xs ++ drop i xs
    → HasPlaces old (known ++ map f (take i xs)) → ((k : List ℕ) → HasPlaces old k → has_number k (f x) ≡ false → HasPlaces new (k ++ f x ∷ [])) → HasPlaces new (known ++ map f (take (i + 1) xs))
placed_more f xs i x old new known d here more all h step =
    let whole : known ++ map f xs ≡ (known ++ map f (take i xs)) ++ f x ∷ map f (drop (i + 1) xs) =
    ap (λ (l : List ℕ). known ++ l) (ap (map f) (all ∙ ap (λ (l : List _). take i xs ++ l) here) ∙ map-append f (take i xs) (x ∷ drop (i + 1) xs)) ∙ sym (append_assoc known (map f (take i xs)) (f x ∷ map f (drop (i + 1) xs))) in
    subst (HasPlaces new) (append_assoc known (map f (take i xs)) (f x ∷ []) ∙ ap (λ (l : List ℕ). known ++ l) (sym (map-append f (take i xs) (x ∷ [])) ∙ ap (map f) (sym more)))
    (step (known ++ map f (take i xs)) h (number_before (known ++ map f (take i xs)) (f x) (map f (drop (i + 1) xs)) (sym (ap distinct_numbers whole) ∙ d)))

pub placed_at : {X : Type 0} (f : X → ℕ) (xs : List X) (i : ℕ) (d : X) (old new : Places) (known : List ℕ) → distinct_numbers (known ++ map f xs) ≡ true → i < length xs → HasPlaces old (known ++ map f (take i xs))
    → ((k : List ℕ) → HasPlaces old k → has_number k (f (get_or xs i d)) ≡ false → HasPlaces new (k ++ f (get_or xs i d) ∷ [])) → HasPlaces new (known ++ map f (take (i + 1) xs))
placed_at f xs i d old new known e l h step = placed_more f xs i (get_or xs i d) old new known e (drop_more xs i d l) (take_more xs i d l) (sym (take-append-drop i xs)) h step

pub map_map : {X : Type 0} (f : ℕ → ℕ) (h : X → ℕ) (xs : List X) → map f (map h xs) ≡ map (λ x. f (h x)) xs
map_map f h [] = refl
map_map f h (x ∷ xs) = ap (λ (ns : List ℕ). f (h x) ∷ ns) (map_map f h xs)
