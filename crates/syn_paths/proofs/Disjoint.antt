-- Disjoint paths that meet nodes.
use Rattle.std.proofs.Common.{◌≡◌, ◌≢◌, ℕ, zero, suc, ◌<◌, ◌≤◌, nat_eq, not, if◌then◌else◌, Bool, true, false, All, List, [], ◌∷◌, ◌++◌, length, filter, flat_map, refl, sym, ◌∙◌, subst, inl, inr, arith}
use Rattle.std.specs.List.{list_any}
use Rattle.std.proofs.lemmas.Bool.{and_parts, both_ways, false_from_ne_true, not-true, or_cases, or_left, or_right}
use Rattle.std.proofs.lemmas.List.Filters.{length-filter_both}
use Rattle.syn_rows.specs.Nodes.{has_node}
use Rattle.syn_lists.specs.Numbers.{distinct_numbers}
use Rattle.syn_paths.specs.Paths.{DisjointMeetAtMost}
use Rattle.syn_rows.proofs.Nodes.{has_here, has_there, has_left, has_right, same_node, node_same}

-- the nodes but one
abbrev pub but : ℕ → List ℕ → List ℕ
but x nodes = filter (λ n. not (nat_eq n x)) nodes

but_most : (x : ℕ) (ns : List ℕ) → length (but x ns) ≤ length ns
but_most x ns = let both = length-filter_both (λ n. not (nat_eq n x)) (λ n. not (not (nat_eq n x))) (λ n. refl) ns in omega (arith, both)

pub but_fewer : (x : ℕ) (ns : List ℕ) → has_node ns x ≡ true → length (but x ns) < length ns
but_fewer x [] h = absurd (both_ways false refl h)
but_fewer x (m ∷ ms) h = elim (or_cases (nat_eq m x) (has_node ms x) h) [
  | inl e ↦ here (nat_eq m x) e (but_most x ms)
  | inr t ↦ later (nat_eq m x) (but_fewer x ms t)
]
  where
    here : (b : Bool) → b ≡ true → length (but x ms) ≤ length ms → length (if not b then m ∷ but x ms else but x ms) < length (m ∷ ms)
    here true e le = omega arith
    here false e le = absurd (both_ways false refl e)

    later : (b : Bool) → length (but x ms) < length ms → length (if not b then m ∷ but x ms else but x ms) < length (m ∷ ms)
    later true less = omega arith
    later false less = omega arith

pub but_has : (x n : ℕ) (ns : List ℕ) → has_node ns n ≡ true → n ≢ x → has_node (but x ns) n ≡ true
but_has x n [] h other = absurd (both_ways false refl h)
but_has x n (m ∷ ms) h other = elim (or_cases (nat_eq m n) (has_node ms n) h) [
  | inl e ↦ here (nat_eq m x) refl (same_node m n e)
  | inr t ↦ later (nat_eq m x) (but_has x n ms t other)
]
  where
    here : (b : Bool) → nat_eq m x ≡ b → m ≡ n → has_node (if not b then m ∷ but x ms else but x ms) n ≡ true
    here true e is = absurd (other (sym is ∙ same_node m x e))
    here false e is = or_left (nat_eq m n) (has_node (but x ms) n) (subst (λ k. nat_eq m k ≡ true) is (node_same m))

    later : (b : Bool) → has_node (but x ms) n ≡ true → has_node (if not b then m ∷ but x ms else but x ms) n ≡ true
    later true t = t
    later false t = has_there m n (but x ms) t

-- of a list that meets nodes, one that it meets
met_one : (nodes path : List ℕ) → list_any (has_node nodes) path ≡ true → (x : ℕ) × (has_node path x ≡ true) × (has_node nodes x ≡ true)
met_one nodes [] h = absurd (both_ways false refl h)
met_one nodes (m ∷ ms) h = elim (or_cases (has_node nodes m) (list_any (has_node nodes) ms) h) [
  | inl e ↦ (m, has_here m ms, e)
  | inr t ↦ let found = met_one nodes ms t in (found.0, has_there m found.0 ms found.1, found.2)
]

-- a list that meets nodes, and has not the one, meets the others
meets_but : (x : ℕ) (nodes path : List ℕ) → has_node path x ≡ false → list_any (has_node nodes) path ≡ true → list_any (has_node (but x nodes)) path ≡ true
meets_but x nodes [] away h = absurd (both_ways false refl h)
meets_but x nodes (m ∷ ms) away h = elim (or_cases (has_node nodes m) (list_any (has_node nodes) ms) h) [
  | inl e ↦ or_left (has_node (but x nodes) m) (list_any (has_node (but x nodes)) ms) (but_has x m nodes e (λ is. both_ways (has_node (m ∷ ms) x) away (subst (λ k. has_node (m ∷ ms) k ≡ true) is (has_here m ms))))
  | inr t ↦ or_right (has_node (but x nodes) m) (list_any (has_node (but x nodes)) ms) (meets_but x nodes ms (false_from_ne_true (has_node ms x) (λ there. both_ways (has_node (m ∷ ms) x) away (has_there m x ms there))) t)
]

-- of two lists, one behind the other, with no number twice
distinct_right : (xs ys : List ℕ) → distinct_numbers (xs ++ ys) ≡ true → distinct_numbers ys ≡ true
distinct_right [] ys h = h
distinct_right (x ∷ xs) ys h = distinct_right xs ys (and_parts (not (has_node (xs ++ ys) x)) (distinct_numbers (xs ++ ys)) h).1

distinct_apart : (xs ys : List ℕ) (n : ℕ) → distinct_numbers (xs ++ ys) ≡ true → has_node xs n ≡ true → has_node ys n ≡ false
distinct_apart [] ys n h there = absurd (both_ways false refl there)
distinct_apart (x ∷ xs) ys n h there =
    let parts = and_parts (not (has_node (xs ++ ys) x)) (distinct_numbers (xs ++ ys)) h in
    elim (or_cases (nat_eq x n) (has_node xs n) there) [
      | inl e ↦ false_from_ne_true (has_node ys n) (λ also. both_ways (has_node (xs ++ ys) n) (subst (λ k. has_node (xs ++ ys) k ≡ false) (same_node x n e) (not-true (has_node (xs ++ ys) x) parts.0)) (has_right xs ys n also))
      | inr t ↦ distinct_apart xs ys n parts.1 t
    ]

-- each of some lists meets the others, where none has the one
pub each_but : (x : ℕ) (nodes : List ℕ) (paths : List (List ℕ)) → has_node (flat_map (λ path. path) paths) x ≡ false → All (λ path. list_any (has_node nodes) path ≡ true) paths
    → All (λ path. list_any (has_node (but x nodes)) path ≡ true) paths
each_but x nodes [] away meet k d lt = absurd (omega (arith, lt))
each_but x nodes (path ∷ paths) away meet zero d lt =
    meets_but x nodes path (false_from_ne_true (has_node path x) (λ t. both_ways (has_node (path ++ flat_map (λ p. p) paths) x) away (has_left path (flat_map (λ p. p) paths) x t))) (meet zero d lt)
each_but x nodes (path ∷ paths) away meet (suc k) d lt =
    each_but x nodes paths (false_from_ne_true (has_node (flat_map (λ p. p) paths) x) (λ t. both_ways (has_node (path ++ flat_map (λ p. p) paths) x) away (has_right path (flat_map (λ p. p) paths) x t)))
    (λ j e le. meet (suc j) e (omega (arith, le))) k d (omega (arith, lt))

pub disjoint_meet : DisjointMeetAtMost
disjoint_meet [] nodes once meet = omega arith
disjoint_meet (path ∷ paths) nodes once meet =
    let found = met_one nodes path (meet zero path (omega arith)) in
    let away = distinct_apart path (flat_map (λ p. p) paths) found.0 once found.1 in
    let rest = disjoint_meet paths (but found.0 nodes) (distinct_right path (flat_map (λ p. p) paths) once) (each_but found.0 nodes paths away (λ j e le. meet (suc j) e (omega (arith, le)))) in
    omega (arith, rest, but_fewer found.0 nodes found.2)
