-- Where each list has at most one of some nodes, and each of these is on a list, they are no more than the lists.
use Rattle.std.proofs.Common.{◌≡◌, ℕ, suc, ◌≤◌, not, if◌then◌else◌, Bool, true, false, List, [], ◌∷◌, length, flat_map, refl, sym, ap, subst, inl, inr, arith}
use Rattle.std.specs.Bool.{⊤}
use Rattle.std.proofs.lemmas.Bool.{and_parts, both_ways, not-true}
use Rattle.syn_rows.specs.Nodes.{has_node}
use Rattle.syn_lists.specs.Numbers.{distinct_numbers}
use Rattle.syn_rows.proofs.Nodes.{has_cases, has_here, has_left, has_right, has_there}

abbrev pub flat : List (List ℕ) → List ℕ
flat lists = flat_map (λ path. path) lists

-- each list has at most one
abbrev pub HaveOne : (ℕ → Type 0) → List (List ℕ) → Type 0
HaveOne Leaf [] = ⊤
HaveOne Leaf (list ∷ lists) = ((x y : ℕ) → Leaf x → Leaf y → has_node list x ≡ true → has_node list y ≡ true → x ≡ y) × HaveOne Leaf lists

-- the lists but the first that has the node
abbrev without : ℕ → List (List ℕ) → List (List ℕ)
without x [] = []
without x (list ∷ lists) = if has_node list x then lists else list ∷ without x lists

one_fewer : (x : ℕ) (lists : List (List ℕ)) → has_node (flat lists) x ≡ true → length lists ≡ suc (length (without x lists))
one_fewer x [] h = absurd (both_ways false refl h)
one_fewer x (list ∷ lists) h = go (has_node list x) refl (λ there. one_fewer x lists there)
  where
    go : (b : Bool) → has_node list x ≡ b → (has_node (flat lists) x ≡ true → length lists ≡ suc (length (without x lists))) → suc (length lists) ≡ suc (length (if b then lists else list ∷ without x lists))
    go true e rest = refl
    go false e rest = elim (has_cases list (flat lists) x h) [ inl here ↦ absurd (both_ways (has_node list x) e here) | inr there ↦ ap suc (rest there) ]

one_still : (Leaf : ℕ → Type 0) (x : ℕ) (lists : List (List ℕ)) → HaveOne Leaf lists → HaveOne Leaf (without x lists)
one_still Leaf x [] one = one
one_still Leaf x (list ∷ lists) one = go (has_node list x) (one_still Leaf x lists one.1)
  where
    go : (b : Bool) → HaveOne Leaf (without x lists) → HaveOne Leaf (if b then lists else list ∷ without x lists)
    go true rest = one.1
    go false rest = (one.0, rest)

others_stay : (Leaf : ℕ → Type 0) (x y : ℕ) (lists : List (List ℕ)) → HaveOne Leaf lists → Leaf x → Leaf y → (x ≡ y → ⊥) → has_node (flat lists) y ≡ true → has_node (flat (without x lists)) y ≡ true
others_stay Leaf x y [] one lx ly other h = h
others_stay Leaf x y (list ∷ lists) one lx ly other h = go (has_node list x) refl (λ there. others_stay Leaf x y lists one.1 lx ly other there)
  where
    go : (b : Bool) → has_node list x ≡ b → (has_node (flat lists) y ≡ true → has_node (flat (without x lists)) y ≡ true) → has_node (flat (if b then lists else list ∷ without x lists)) y ≡ true
    go true e rest = elim (has_cases list (flat lists) y h) [ inl here ↦ absurd (other (one.0 x y lx ly e here)) | inr there ↦ there ]
    go false e rest = elim (has_cases list (flat lists) y h) [
      | inl here ↦ has_left list (flat (without x lists)) y here
      | inr there ↦ has_right list (flat (without x lists)) y (rest there)
    ]

pub no_more : (Leaf : ℕ → Type 0) (leaves : List ℕ) (lists : List (List ℕ)) → distinct_numbers leaves ≡ true → HaveOne Leaf lists → ((v : ℕ) → has_node leaves v ≡ true → Leaf v) → ((v : ℕ) → has_node leaves v ≡ true → has_node (flat lists) v ≡ true)
    → length leaves ≤ length lists
no_more Leaf [] lists once one each on = omega arith
no_more Leaf (x ∷ leaves) lists once one each on =
    let parts = and_parts (not (has_node leaves x)) (distinct_numbers leaves) once in
    let rest = no_more Leaf leaves (without x lists) parts.1 (one_still Leaf x lists one) (λ v h. each v (has_there x v leaves h))
    (λ v h. others_stay Leaf x v lists one (each x (has_here x leaves)) (each v (has_there x v leaves h))
    (λ e. both_ways (has_node leaves x) (not-true (has_node leaves x) parts.0) (subst (λ k. has_node leaves k ≡ true) (sym e) h)) (on v (has_there x v leaves h))) in
    omega (arith, rest, one_fewer x lists (on x (has_here x leaves)))
