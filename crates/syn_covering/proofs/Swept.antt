-- Which nodes are marked: those that need LUTs, once the leaves of all marked nodes were marked.
use Rattle.std.proofs.Common.{◌≡◌, ℕ, zero, suc, ◌+◌, ◌<◌, ◌≤◌, ◌&&◌, ◌||◌, Bool, true, false, All, List, [], ◌∷◌, length, map, get_or, replicate, refl, sym, ap, ◌∙◌, subst, inl, inr, arith}
use Rattle.std.specs.List.{list_all}
use Rattle.std.proofs.lemmas.Bool.{cases_lt, and_parts, and_from, or_cases, or_left, or_right, both_ways, ltb-true}
use Rattle.std.proofs.lemmas.List.{get_or_past, get_or_default, get_or-map, length-map}
use Rattle.syn_rows.specs.declared.Lit.{Lit}
use Rattle.syn_rows.specs.declared.Row.{Row}
use Rattle.syn_rows.specs.Rows.{node_of, row_at}
use Rattle.syn_rows.specs.Reach.{is_and}
use Rattle.syn_rows.specs.Values.{value_in}
use Rattle.syn_rows.specs.Nodes.{has_node}
use Rattle.syn_lutnet.proofs.Folding.{below, In}
use Rattle.syn_covering.specs.Mappings.{HasObservedAnds, IsNeeded}
use Rattle.syn_covering.specs.Needs.{IsSwept}
use Rattle.syn_covering.proofs.Matching.{has_node_at, has_fact}

joined : (o e h a : Bool) → ((o || (e && a)) || (h && a)) ≡ (o || ((e || h) && a))
joined true e h a = refl
joined false true h true = refl
joined false true true false = refl
joined false true false false = refl
joined false false h a = refl

pub none_marked : (count m : ℕ) → value_in (replicate count false) m ≡ false
none_marked zero m = refl
none_marked (suc n) zero = refl
none_marked (suc n) (suc m) = none_marked n m

-- marks of the observed ANDs alone
pub swept_start : (cut : ℕ → List ℕ) (rows : List Row) (lits : List Lit) (none marks : List Bool) → none ≡ replicate (length rows) false → length marks ≡ length rows
    → ((m : ℕ) → value_in marks m ≡ (value_in none m || (has_node (map node_of lits) m && is_and (row_at rows m)))) → IsSwept cut rows lits marks (length rows)
swept_start cut rows lits none marks none_is long is = record { count = long; needed = needed; seen = seen; done = done }
  where
    observed : (m : ℕ) → value_in marks m ≡ (has_node (map node_of lits) m && is_and (row_at rows m))
    observed m = is m ∙ ap (λ b. b || (has_node (map node_of lits) m && is_and (row_at rows m))) (ap (λ (bs : List Bool). value_in bs m) none_is ∙ none_marked (length rows) m)

    needed : (n : ℕ) → value_in marks n ≡ true → IsNeeded cut rows lits n
    needed n t set leaves obs =
        let parts = and_parts (has_node (map node_of lits) n) (is_and (row_at rows n)) (sym (observed n) ∙ t) in
        has_fact (λ m. is_and (row_at rows m) ≡ true → set m ≡ true) (map node_of lits) n
        (λ i d lt. let inside : i < length lits = omega (arith, lt, length-map lits node_of) in
        subst (λ m. is_and (row_at rows m) ≡ true → set m ≡ true) (sym (get_or-map node_of lits i (record { 0 = 0 }) d inside)) (obs i (record { 0 = 0 }) inside))
        parts.0 parts.1

    seen : HasObservedAnds rows lits (value_in marks)
    seen i d lt a =
        let there : has_node (map node_of lits) (node_of (get_or lits i d)) ≡ true =
        subst (λ m. has_node (map node_of lits) m ≡ true) (get_or-map node_of lits i d 0 lt) (has_node_at (map node_of lits) i (omega (arith, lt, length-map lits node_of))) in
        observed (node_of (get_or lits i d)) ∙ and_from (has_node (map node_of lits) (node_of (get_or lits i d))) (is_and (row_at rows (node_of (get_or lits i d)))) there a

    done : (n : ℕ) → length rows ≤ n → value_in marks n ≡ true → All (λ m. is_and (row_at rows m) ≡ true → value_in marks m ≡ true) (cut n)
    done n le t = absurd (both_ways (value_in marks n) (get_or_past marks n false (omega (arith, le, long))) t)

-- the leaves of one node more are marked
pub swept_step : (cut : ℕ → List ℕ) (rows : List Row) (lits : List Lit) (old new : List Bool) (n next : ℕ) → next ≡ n + 1 → IsSwept cut rows lits old next → (value_in old n ≡ true → In n (cut n)) → length new ≡ length old
    → ((m : ℕ) → value_in new m ≡ (value_in old m || (value_in old n && (has_node (cut n) m && is_and (row_at rows m))))) → IsSwept cut rows lits new n
swept_step cut rows lits old new n next at swept low long is = record { count = long ∙ swept.count; needed = needed; seen = seen; done = done }
  where
    more : (m : ℕ) → Bool
    more m = value_in old n && (has_node (cut n) m && is_and (row_at rows m))

    kept : (m : ℕ) → value_in old m ≡ true → value_in new m ≡ true
    kept m t = is m ∙ or_left (value_in old m) (more m) t

    needed : (m : ℕ) → value_in new m ≡ true → IsNeeded cut rows lits m
    needed m t set leaves seen = elim (or_cases (value_in old m) (more m) (sym (is m) ∙ t)) [
      | inl o ↦ swept.needed m o set leaves seen
      | inr a ↦
          let parts = and_parts (value_in old n) (has_node (cut n) m && is_and (row_at rows m)) a in
          let both = and_parts (has_node (cut n) m) (is_and (row_at rows m)) parts.1 in
          has_fact (λ j. is_and (row_at rows j) ≡ true → set j ≡ true) (cut n) m (leaves n (swept.needed n parts.0 set leaves seen)) both.0 both.1
    ]

    seen : HasObservedAnds rows lits (value_in new)
    seen i d lt a = kept (node_of (get_or lits i d)) (swept.seen i d lt a)

    done : (j : ℕ) → n ≤ j → value_in new j ≡ true → All (λ m. is_and (row_at rows m) ≡ true → value_in new m ≡ true) (cut j)
    done j le t = elim (cases_lt n j) [
      | inl above ↦
          let was : value_in old j ≡ true = elim (or_cases (value_in old j) (more j) (sym (is j) ∙ t)) [
            | inl o ↦ o
            | inr a ↦
                let parts = and_parts (value_in old n) (has_node (cut n) j && is_and (row_at rows j)) a in
                let both = and_parts (has_node (cut n) j) (is_and (row_at rows j)) parts.1 in
                let less = ltb-true j n (has_fact (λ m. below n m ≡ true) (cut n) j (each_below (cut n) (low parts.0)) both.0) in
                absurd (omega (arith, less, above))
          ] in
          λ i d lt a. kept (get_or (cut j) i d) (swept.done j (omega (arith, at, above)) was i d lt a)
      | inr here ↦
          let same : n ≡ j = omega (arith, le, here) in
          subst (λ x. All (λ m. is_and (row_at rows m) ≡ true → value_in new m ≡ true) (cut x)) same (own (ap (value_in new) same ∙ t))
    ]
      where
        each_below : (xs : List ℕ) → In n xs → All (λ m. below n m ≡ true) xs
        each_below [] h i d lt = absurd (omega (arith, lt))
        each_below (x ∷ xs) h zero d lt = (and_parts (below n x) (list_all (below n) xs) h).0
        each_below (x ∷ xs) h (suc i) d lt = each_below xs (and_parts (below n x) (list_all (below n) xs) h).1 i d (omega (arith, lt))

        own : value_in new n ≡ true → All (λ m. is_and (row_at rows m) ≡ true → value_in new m ≡ true) (cut n)
        own t i d lt a =
            let was : value_in old n ≡ true = elim (or_cases (value_in old n) (more n) (sym (is n) ∙ t)) [ inl o ↦ o | inr b ↦ (and_parts (value_in old n) (has_node (cut n) n && is_and (row_at rows n)) b).0 ] in
            is (get_or (cut n) i d) ∙ or_right (value_in old (get_or (cut n) i d)) (more (get_or (cut n) i d))
            (and_from (value_in old n) (has_node (cut n) (get_or (cut n) i d) && is_and (row_at rows (get_or (cut n) i d))) was
            (and_from (has_node (cut n) (get_or (cut n) i d)) (is_and (row_at rows (get_or (cut n) i d))) (inside (cut n) i d lt) a))
          where
            inside : (xs : List ℕ) (i d : ℕ) → i < length xs → has_node xs (get_or xs i d) ≡ true
            inside xs i d lt = subst (λ x. has_node xs x ≡ true) (sym (get_or_default xs i d 0 lt)) (has_node_at xs i lt)
