-- Rising lists of nodes: how long they are where one is put or taken out, and what is in them.
use Rattle.std.proofs.Common.{◌≡◌, ◌≢◌, ℕ, suc, ◌+◌, ◌<◌, ◌≤◌, ◌==◌, ◌&&◌, ◌||◌, nat_eq, nat_lt, not, if◌then◌else◌, Bool, true, false, List, [], ◌∷◌, length, filter, refl, sym, ap, ◌∙◌, subst, inl, inr, arith}
use Rattle.std.specs.List.{list_all}
use Rattle.std.proofs.lemmas.Bool.{and_from, and_parts, both_ways, cases_Bool, cond-false, cond-true, eqb-false, eqb-true, false_from_ne_true, lt-ltb, ltb-true, ne_eqb, not-true, or_cases, or_left}
use Rattle.std.proofs.lemmas.Map.Views.{any-filter_same}
use Rattle.syn_rows.specs.Nodes.{has_node}
use Rattle.syn_cones.specs.Leaves.{are_below, rise_above}
use Rattle.syn_cones.specs.Walk.{put_node, rises}
use Rattle.syn_rows.proofs.Nodes.{has_here, has_there, same_node}
use Rattle.syn_growing.specs.Growing.{one_new, without_node}

-- what holds of all holds of one that is there
pub all_in : (p : ℕ → Bool) (ns : List ℕ) (n : ℕ) → list_all p ns ≡ true → has_node ns n ≡ true → p n ≡ true
all_in p [] n all h = absurd (both_ways false refl h)
all_in p (m ∷ ms) n all h =
    let parts = and_parts (p m) (list_all p ms) all in
    elim (or_cases (nat_eq m n) (has_node ms n) h) [
      | inl e ↦ subst (λ k. p k ≡ true) (same_node m n e) parts.0
      | inr t ↦ all_in p ms n parts.1 t
    ]

pub all_from : (p : ℕ → Bool) (ns : List ℕ) → ((n : ℕ) → has_node ns n ≡ true → p n ≡ true) → list_all p ns ≡ true
all_from p [] h = refl
all_from p (m ∷ ms) h = and_from (p m) (list_all p ms) (h m (has_here m ms)) (all_from p ms (λ n t. h n (has_there m n ms t)))

-- the first of rising nodes is none of the others
not_again : (n : ℕ) (ns : List ℕ) → rises (n ∷ ns) ≡ true → has_node ns n ≡ false
not_again n ns rise = false_from_ne_true (has_node ns n) (λ h. let less = ltb-true n n (all_in (nat_lt n) ns n (and_parts (list_all (nat_lt n) ns) (rises ns) rise).0 h) in omega arith)

-- what stands in a filtered list
pub has-filter : (p : ℕ → Bool) (ns : List ℕ) (n : ℕ) → has_node (filter p ns) n ≡ (p n && has_node ns n)
has-filter p ns n = any-filter_same (λ m. m == n) p (p n) (λ m e. ap p (same_node m n e)) ns

-- taking a node out

pub without_has : (leaf : ℕ) (ns : List ℕ) (n : ℕ) → has_node (without_node leaf ns) n ≡ true → (has_node ns n ≡ true) × (n ≢ leaf)
without_has leaf ns n h =
    let parts = and_parts (not (n == leaf)) (has_node ns n) (sym (has-filter (λ m. not (m == leaf)) ns n) ∙ h) in
    (parts.1, eqb-false n leaf (not-true (n == leaf) parts.0))

pub without_keeps : (leaf : ℕ) (ns : List ℕ) (n : ℕ) → has_node ns n ≡ true → n ≢ leaf → has_node (without_node leaf ns) n ≡ true
without_keeps leaf ns n h other = has-filter (λ m. not (m == leaf)) ns n ∙ and_from (not (n == leaf)) (has_node ns n) (ap not (ne_eqb n leaf other)) h

-- a node that isn't there is taken out of nothing
without_none : (leaf : ℕ) (ns : List ℕ) → has_node ns leaf ≡ false → without_node leaf ns ≡ ns
without_none leaf [] h = refl
without_none leaf (m ∷ ms) h = elim (cases_Bool (m == leaf)) [
  | inl same ↦ absurd (both_ways (has_node (m ∷ ms) leaf) h (or_left (nat_eq m leaf) (has_node ms leaf) same))
  | inr other ↦
      cond-true (not (m == leaf)) (m ∷ without_node leaf ms) (without_node leaf ms) (ap not other)
      ∙ ap (λ l. m ∷ l) (without_none leaf ms (false_from_ne_true (has_node ms leaf) (λ t. both_ways (has_node (m ∷ ms) leaf) h (has_there m leaf ms t))))
]

pub length-without : (leaf : ℕ) (ns : List ℕ) → rises ns ≡ true → has_node ns leaf ≡ true → suc (length (without_node leaf ns)) ≡ length ns
length-without leaf [] rise h = absurd (both_ways false refl h)
length-without leaf (m ∷ ms) rise h = elim (cases_Bool (m == leaf)) [
  | inl same ↦
      ap (λ l. suc (length l)) (cond-false (not (m == leaf)) (m ∷ without_node leaf ms) (without_node leaf ms) (ap not same)
      ∙ without_none leaf ms (subst (λ k. has_node ms k ≡ false) (eqb-true m leaf same) (not_again m ms rise)))
  | inr other ↦
      ap (λ l. suc (length l)) (cond-true (not (m == leaf)) (m ∷ without_node leaf ms) (without_node leaf ms) (ap not other))
      ∙ ap suc (length-without leaf ms (and_parts (list_all (nat_lt m) ms) (rises ms) rise).1 (elim (or_cases (nat_eq m leaf) (has_node ms leaf) h) [ inl e ↦ absurd (both_ways (m == leaf) other e) | inr t ↦ t ]))
]

all_filtered : (p q : ℕ → Bool) (ns : List ℕ) → list_all p ns ≡ true → list_all p (filter q ns) ≡ true
all_filtered p q [] h = refl
all_filtered p q (n ∷ ns) h = let parts = and_parts (p n) (list_all p ns) h in by (q n) parts.0 (all_filtered p q ns parts.1)
  where
    by : (b : Bool) → p n ≡ true → list_all p (filter q ns) ≡ true → list_all p (if b then n ∷ filter q ns else filter q ns) ≡ true
    by true here rest = and_from (p n) (list_all p (filter q ns)) here rest
    by false here rest = rest

rises-filter : (q : ℕ → Bool) (ns : List ℕ) → rises ns ≡ true → rises (filter q ns) ≡ true
rises-filter q [] h = refl
rises-filter q (n ∷ ns) h = let parts = and_parts (list_all (nat_lt n) ns) (rises ns) h in by (q n) parts.0 (rises-filter q ns parts.1)
  where
    by : (b : Bool) → list_all (nat_lt n) ns ≡ true → rises (filter q ns) ≡ true → rises (if b then n ∷ filter q ns else filter q ns) ≡ true
    by true above rest = and_from (list_all (nat_lt n) (filter q ns)) (rises (filter q ns)) (all_filtered (nat_lt n) q ns above) rest
    by false above rest = rest

pub rises-without : (leaf : ℕ) (ns : List ℕ) → rises ns ≡ true → rises (without_node leaf ns) ≡ true
rises-without leaf ns h = rises-filter (λ n. not (n == leaf)) ns h

-- putting a node

pub length-put : (n : ℕ) (ns : List ℕ) → rises ns ≡ true → length (put_node n ns) ≡ length ns + one_new ns n
length-put n [] rise = refl
length-put n (m ∷ ms) rise = elim (cases_Bool (nat_lt n m)) [
  | inl less ↦
      ap length (cond-true (nat_lt n m) (n ∷ m ∷ ms) (if n == m then m ∷ ms else m ∷ put_node n ms) less)
      ∙ (let away : has_node (m ∷ ms) n ≡ false = before less in let one : one_new (m ∷ ms) n ≡ 1 = ap (λ b. if b then 0 else 1) away in omega (arith, one))
  | inr more ↦ elim (cases_Bool (n == m)) [
    | inl same ↦
        ap length (cond-false (nat_lt n m) (n ∷ m ∷ ms) (if n == m then m ∷ ms else m ∷ put_node n ms) more ∙ cond-true (n == m) (m ∷ ms) (m ∷ put_node n ms) same)
        ∙ (let there : has_node (m ∷ ms) n ≡ true = or_left (nat_eq m n) (has_node ms n) (here (eqb-true n m same)) in let none : one_new (m ∷ ms) n ≡ 0 = ap (λ b. if b then 0 else 1) there in omega (arith, none))
    | inr other ↦
        ap length (cond-false (nat_lt n m) (n ∷ m ∷ ms) (if n == m then m ∷ ms else m ∷ put_node n ms) more ∙ cond-false (n == m) (m ∷ ms) (m ∷ put_node n ms) other)
        ∙ (let rest = length-put n ms (and_parts (list_all (nat_lt m) ms) (rises ms) rise).1 in
        let skip : one_new (m ∷ ms) n ≡ one_new ms n = ap (λ b. if b || has_node ms n then 0 else 1) (ne_eqb m n (λ e. eqb-false n m other (sym e))) in
        omega (arith, rest, skip))
  ]
]
  where
    here : n ≡ m → nat_eq m n ≡ true
    here e = subst (λ k. nat_eq m k ≡ true) (sym e) (elim (cases_Bool (nat_eq m m)) [ inl t ↦ t | inr f ↦ absurd (eqb-false m m f refl) ])

    before : nat_lt n m ≡ true → has_node (m ∷ ms) n ≡ false
    before less = false_from_ne_true (has_node (m ∷ ms) n) (λ h. elim (or_cases (nat_eq m n) (has_node ms n) h) [
      | inl e ↦ let same = same_node m n e in let lt = ltb-true n m less in omega arith
      | inr t ↦ let above = ltb-true m n (all_in (nat_lt m) ms n (and_parts (list_all (nat_lt m) ms) (rises ms) rise).0 t) in let lt = ltb-true n m less in omega arith
    ])

-- two lists that have the same node, or both not
pub same_has : (b c : Bool) → (b ≡ true → c ≡ true) → (c ≡ true → b ≡ true) → b ≡ c
same_has true true f g = refl
same_has false false f g = refl
same_has true false f g = sym (f refl)
same_has false true f g = g refl

-- in the words of proposals

pub rise_from : (low : ℕ) (ns : List ℕ) → rises ns ≡ true → ((n : ℕ) → has_node ns n ≡ true → low < n) → rise_above low ns ≡ true
rise_from low [] rise above = refl
rise_from low (n ∷ ns) rise above =
    let parts = and_parts (list_all (nat_lt n) ns) (rises ns) rise in
    and_from (nat_lt low n) (rise_above n ns) (lt-ltb low n (above n (has_here n ns))) (rise_from n ns parts.1 (λ m h. ltb-true n m (all_in (nat_lt n) ns m parts.0 h)))

pub below_from : (high : ℕ) (ns : List ℕ) → ((n : ℕ) → has_node ns n ≡ true → n < high) → are_below high ns ≡ true
below_from high ns below = all_from (λ n. nat_lt n high) ns (λ n h. lt-ltb n high (below n h))

-- how long a list is after one was put

pub put_longer : (n : ℕ) (ns : List ℕ) → length ns ≤ length (put_node n ns)
put_longer n [] = omega arith
put_longer n (m ∷ ms) = by (nat_lt n m) (n == m) (put_longer n ms)
  where
    by : (a b : Bool) → length ms ≤ length (put_node n ms) → length (m ∷ ms) ≤ length (if a then n ∷ m ∷ ms else if b then m ∷ ms else m ∷ put_node n ms)
    by true b le = omega arith
    by false true le = omega arith
    by false false le = omega arith
