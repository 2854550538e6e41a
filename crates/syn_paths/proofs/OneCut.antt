-- There is one least cut.
use Rattle.std.proofs.Common.{◌≡◌, ℕ, nat_eq, nat_lt, not, if◌then◌else◌, Bool, true, false, List, [], ◌∷◌, length, refl, sym, ap, ◌∙◌, subst, inl, inr, arith}
use Rattle.std.specs.List.{list_all, list_any}
use Rattle.std.proofs.lemmas.Bool.{and_parts, both_ways, cases_Bool, or_cases, or_left, or_right, true_from_ne_false}
use Rattle.syn_rows.specs.declared.Row.{Row}
use Rattle.syn_rows.specs.Nodes.{has_node}
use Rattle.syn_cones.specs.Cones.{LeadsToSource, Refers}
use Rattle.syn_cones.specs.Walk.{rises}
use Rattle.syn_paths.specs.LeastCuts.{IsCutOutside, IsInside, IsLeastCut, OneLeastCut}
use Rattle.syn_rows.proofs.Nodes.{has_here, has_there, here_or_there}
use Rattle.syn_cones.proofs.Walking.{led_more}
use Rattle.syn_paths.proofs.Disjoint.{but, but_fewer, but_has}
use Rattle.syn_paths.proofs.Least.{above_all}

but_in : (x n : ℕ) (ns : List ℕ) → has_node (but x ns) n ≡ true → has_node ns n ≡ true
but_in x n [] h = h
but_in x n (m ∷ ms) h = go (nat_eq m x) h (but_in x n ms)
  where
    go : (b : Bool) → has_node (if not b then m ∷ but x ms else but x ms) n ≡ true → (has_node (but x ms) n ≡ true → has_node ms n ≡ true) → has_node (m ∷ ms) n ≡ true
    go true t rest = has_there m n ms (rest t)
    go false t rest = elim (or_cases (nat_eq m n) (has_node (but x ms) n) t) [ inl e ↦ or_left (nat_eq m n) (has_node ms n) e | inr s ↦ has_there m n ms (rest s) ]

-- a leaf to which nothing inside refers may go
cut_but : (rows : List Row) (n leaf : ℕ) (leaves : List ℕ) → ((x : ℕ) → IsInside rows leaves n x → Refers rows x leaf → ⊥) → (x : ℕ) (path : List ℕ) → IsInside rows leaves n x → LeadsToSource rows x path → list_any (has_node leaves) (x ∷ path) ≡ true
    → list_any (has_node (but leaf leaves)) path ≡ true
cut_but rows n leaf leaves none x [] inside source met = elim (or_cases (has_node leaves x) false met) [
  | inl here ↦ absurd (both_ways (has_node leaves x) inside.1 here)
  | inr away ↦ absurd (both_ways false refl away)
]
cut_but rows n leaf leaves none x (y ∷ path) inside (r, down) met = elim (or_cases (has_node leaves x) (list_any (has_node leaves) (y ∷ path)) met) [
  | inl here ↦ absurd (both_ways (has_node leaves x) inside.1 here)
  | inr there ↦ elim (cases_Bool (has_node leaves y)) [
    | inl own ↦ or_left (has_node (but leaf leaves) y) (list_any (has_node (but leaf leaves)) path) (but_has leaf y leaves own (λ e. none x inside (subst (Refers rows x) e r)))
    | inr away ↦ or_right (has_node (but leaf leaves) y) (list_any (has_node (but leaf leaves)) path)
        (cut_but rows n leaf leaves none y path (led_more rows leaves n inside.0.0 x y inside.0.1 inside.1 r, away) down there)
  ]
]

-- a leaf of a least cut is one of any other
leaf_there : (rows : List Row) (label : ℕ → ℕ) (n level : ℕ) (leaves other : List ℕ) → IsLeastCut rows label n level leaves → IsLeastCut rows label n level other → (leaf : ℕ) → has_node leaves leaf ≡ true → has_node other leaf ≡ true
leaf_there rows label n level leaves other a b leaf h = true_from_ne_false (has_node other leaf) (λ away.
    let many : length other ≡ length leaves = omega (arith, a.fewest other b.outside, b.fewest leaves a.outside) in
    let none : (x : ℕ) → IsInside rows leaves n x → Refers rows x leaf → ⊥ = λ x inside r.
    let there = a.least other b.outside many x inside in
    let back = b.least leaves a.outside (sym many) leaf (led_more rows other n there.0.0 x leaf there.0.1 there.1 r, away) in
    both_ways (has_node leaves leaf) back.1 h in
    let top : has_node leaves n ≡ false = false_top in
    let fewer : IsCutOutside rows label n level (but leaf leaves) = record {
      cut = λ path down. or_right (has_node (but leaf leaves) n) (list_any (has_node (but leaf leaves)) path) (cut_but rows n leaf leaves none n path (([], refl), top) down (a.outside.cut path down));
      outside = λ m there. a.outside.outside m (but_in leaf m leaves there);
    } in
    absurd (omega (arith, a.fewest (but leaf leaves) fewer, but_fewer leaf leaves h)))
  where
    false_top : has_node leaves n ≡ false
    false_top = elim (cases_Bool (has_node leaves n)) [ inl own ↦ absurd (a.outside.outside n own (inl refl)) | inr away ↦ away ]

-- rising nodes are known by what stands among them
rises_same : (xs ys : List ℕ) → rises xs ≡ true → rises ys ≡ true → ((v : ℕ) → has_node xs v ≡ true → has_node ys v ≡ true) → ((v : ℕ) → has_node ys v ≡ true → has_node xs v ≡ true) → xs ≡ ys
rises_same [] [] h k there back = refl
rises_same [] (y ∷ ys) h k there back = absurd (both_ways false refl (back y (has_here y ys)))
rises_same (x ∷ xs) [] h k there back = absurd (both_ways false refl (there x (has_here x xs)))
rises_same (x ∷ xs) (y ∷ ys) h k there back =
    ap (λ v. v ∷ xs) first ∙ ap (λ (l : List ℕ). y ∷ l) (rises_same xs ys hx.1 ky.1
    (λ v t. elim (here_or_there y v ys (there v (has_there x v xs t))) [ inl e ↦ absurd (let less = above_all x v xs hx.0 t in omega (arith, less, e, first)) | inr s ↦ s ])
    (λ v t. elim (here_or_there x v xs (back v (has_there y v ys t))) [ inl e ↦ absurd (let less = above_all y v ys ky.0 t in omega (arith, less, e, first)) | inr s ↦ s ]))
  where
    hx : (list_all (nat_lt x) xs ≡ true) × (rises xs ≡ true)
    hx = and_parts (list_all (nat_lt x) xs) (rises xs) h

    ky : (list_all (nat_lt y) ys ≡ true) × (rises ys ≡ true)
    ky = and_parts (list_all (nat_lt y) ys) (rises ys) k

    first : x ≡ y
    first = elim (here_or_there y x ys (there x (has_here x xs))) [
      | inl e ↦ e
      | inr s ↦ elim (here_or_there x y xs (back y (has_here y ys))) [
        | inl e ↦ sym e
        | inr t ↦ absurd (let a = above_all y x ys ky.0 s in let b = above_all x y xs hx.0 t in omega (arith, a, b))
      ]
    ]

pub one_least_cut : OneLeastCut
one_least_cut rows label n level leaves other a b =
    rises_same leaves other a.rise b.rise (leaf_there rows label n level leaves other a b) (leaf_there rows label n level other leaves b a)
