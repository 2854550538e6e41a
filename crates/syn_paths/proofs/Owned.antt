-- In hashed rows no fan-in is the constant, and a cut that isn't the node alone has two leaves.
use Rattle.std.proofs.Common.{◌≡◌, ℕ, zero, suc, ◌+◌, ◌⊎◌, ◌<◌, ◌≤◌, true, false, List, [], ◌∷◌, length, refl, sym, ap, ◌∙◌, subst, inl, inr, arith}
use Rattle.std.proofs.lemmas.Bool.{both_ways, cases_Bool, cases_lt, or_cases}
use Rattle.std.proofs.lemmas.List.{get_or_past}
use Rattle.syn_rows.specs.declared.Row.{Row}
use Rattle.syn_rows.specs.declared.Row.TheVariants.{Free, Source, And, Alias}
use Rattle.syn_rows.specs.Nodes.{has_node}
use Rattle.syn_rows.specs.Rows.{InOrder, node_of, refs_of, row_at}
use Rattle.syn_rows.specs.Reach.{is_and}
use Rattle.syn_rows.specs.Values.{is_open}
use Rattle.syn_hashed.specs.Hashed.{is_gate, IsHashed}
use Rattle.syn_cones.specs.Cones.{is_end, IsCut, Refers}
use Rattle.syn_paths.specs.Tops.{IsInTop, label_in}
use Rattle.syn_rows.proofs.Nodes.{has_here, has_one, has_there, here_or_there}
use Rattle.syn_hashed.proofs.Dropped.{gate_parts}
use Rattle.syn_hashed.proofs.Orders.{hashed_in_order}
use Rattle.syn_cones.proofs.Walking.{refers_row}
use Rattle.syn_paths.proofs.Falling.{and_refs, cut_below, refers_below}

-- what a row is

gate_and : (n : ℕ) (row : Row) → is_gate n row ≡ true → is_and row ≡ true
gate_and n Free h = absurd (both_ways false refl h)
gate_and n Source h = absurd (both_ways false refl h)
gate_and n (And a b) h = refl
gate_and n (Alias a) h = absurd (both_ways false refl h)

row_kind : (count : ℕ) (rows : List Row) → IsHashed count rows → (n : ℕ) → (is_gate n (row_at rows n) ≡ true) ⊎ ((row_at rows n ≡ Source) ⊎ (row_at rows n ≡ Free))
row_kind count rows hashed n = elim (cases_lt n (count + 1)) [
  | inl small ↦ inr (inl (hashed.front n small))
  | inr big ↦ elim (cases_lt n (length rows)) [
    | inl there ↦ inl (hashed.gates n (omega (arith, big)) there)
    | inr past ↦ inr (inr (get_or_past rows n Free past))
  ]
]

no_refs : (row : Row) (m : ℕ) → (row ≡ Source) ⊎ (row ≡ Free) → has_node (refs_of row) m ≡ true → ⊥
no_refs row m (inl e) h = both_ways false refl (subst (λ r. has_node (refs_of r) m ≡ true) e h)
no_refs row m (inr e) h = both_ways false refl (subst (λ r. has_node (refs_of r) m ≡ true) e h)

no_and : (row : Row) → (row ≡ Source) ⊎ (row ≡ Free) → is_and row ≡ false
no_and row (inl e) = ap is_and e
no_and row (inr e) = ap is_and e

opened : (row : Row) → (row ≡ Source) ⊎ (row ≡ Free) → is_open row ≡ true
opened row (inl e) = ap is_open e
opened row (inr e) = ap is_open e

pub hashed_gate : (count : ℕ) (rows : List Row) → IsHashed count rows → (n : ℕ) → is_and (row_at rows n) ≡ true → is_gate n (row_at rows n) ≡ true
hashed_gate count rows hashed n gate = elim (row_kind count rows hashed n) [ inl g ↦ g | inr e ↦ absurd (both_ways (is_and (row_at rows n)) (no_and (row_at rows n) e) gate) ]

-- an AND is there
pub and_there : (rows : List Row) (n : ℕ) → is_and (row_at rows n) ≡ true → n < length rows
and_there rows n gate = elim (cases_lt n (length rows)) [
  | inl lt ↦ lt
  | inr past ↦ absurd (both_ways (is_and (row_at rows n)) (ap is_and (get_or_past rows n Free past)) gate)
]

-- ANDs alone refer to other nodes
pub only_ands : (count : ℕ) (rows : List Row) → IsHashed count rows → (n m : ℕ) → Refers rows n m → is_and (row_at rows n) ≡ true
only_ands count rows hashed n m r = elim (row_kind count rows hashed n) [ inl g ↦ gate_and n (row_at rows n) g | inr e ↦ absurd (no_refs (row_at rows n) m e (refers_row rows n m r)) ]

pub refers_there : (count : ℕ) (rows : List Row) → IsHashed count rows → (n m : ℕ) → Refers rows n m → 0 < m
refers_there count rows hashed n m r = elim (row_kind count rows hashed n) [
  | inl g ↦ go (row_at rows n) g (refers_row rows n m r)
  | inr e ↦ absurd (no_refs (row_at rows n) m e (refers_row rows n m r))
]
  where
    go : (row : Row) → is_gate n row ≡ true → has_node (refs_of row) m ≡ true → 0 < m
    go Free g h = absurd (both_ways false refl h)
    go Source g h = absurd (both_ways false refl h)
    go (And a b) g h = elim (here_or_there (node_of a) m (node_of b ∷ []) h) [
      | inl e ↦ omega (arith, e, (gate_parts n a b g).above)
      | inr t ↦ let parts = gate_parts n a b g in omega (arith, has_one (node_of b) m t, parts.above, parts.rising)
    ]
    go (Alias a) g h = absurd (both_ways false refl g)

-- a node that isn't an AND, nor the constant, is the end of paths
other_end : (count : ℕ) (rows : List Row) → IsHashed count rows → (n : ℕ) → 0 < n → is_and (row_at rows n) ≡ false → is_end rows n ≡ true
other_end count rows hashed zero some away = absurd (omega (arith, some))
other_end count rows hashed (suc n) some away = elim (row_kind count rows hashed (suc n)) [
  | inl g ↦ absurd (both_ways (is_and (row_at rows (suc n))) away (gate_and (suc n) (row_at rows (suc n)) g))
  | inr e ↦ opened (row_at rows (suc n)) e
]

-- a cut that isn't the node alone has two leaves

abbrev AreAll : List ℕ → ℕ → Type 0
AreAll leaves l = (m : ℕ) → has_node leaves m ≡ true → m ≡ l

one_short : (count : ℕ) (rows : List Row) → IsHashed count rows → (limit n : ℕ) → n < limit → is_and (row_at rows n) ≡ true → (leaves : List ℕ) (l : ℕ) → AreAll leaves l → IsCut rows leaves n → has_node leaves n ≡ false → ⊥
one_short count rows hashed zero n lt gate leaves l all cut away = omega (arith, lt)
one_short count rows hashed (suc limit) n lt gate leaves l all cut away =
    go (row_at rows n) (hashed_gate count rows hashed n gate) (λ m h. below m (and_refs rows n m order gate h) (λ inner out. one_short count rows hashed limit m (omega (arith, lt, refers_below rows n m order (and_refs rows n m order gate h))) inner leaves l all (cut_below rows leaves n m away (and_refs rows n m order gate h) cut) out))
  where
    order : InOrder rows
    order = hashed_in_order count rows hashed

    below : (m : ℕ) → Refers rows n m → (is_and (row_at rows m) ≡ true → has_node leaves m ≡ false → ⊥) → m ≡ l
    below m r inner = elim (cases_Bool (has_node leaves m)) [
      | inl leaf ↦ all m leaf
      | inr out ↦ elim (cases_Bool (is_and (row_at rows m))) [
        | inl gates ↦ absurd (inner gates out)
        | inr other ↦ elim (or_cases (has_node leaves m) false (cut_below rows leaves n m away r cut [] (other_end count rows hashed m (refers_there count rows hashed n m r) other))) [
          | inl leaf ↦ absurd (both_ways (has_node leaves m) out leaf)
          | inr none ↦ absurd (both_ways false refl none)
        ]
      ]
    ]

    go : (row : Row) → is_gate n row ≡ true → ((m : ℕ) → has_node (refs_of row) m ≡ true → m ≡ l) → ⊥
    go Free g each = both_ways false refl g
    go Source g each = both_ways false refl g
    go (And a b) g each =
        let first = each (node_of a) (has_here (node_of a) (node_of b ∷ [])) in
        let second = each (node_of b) (has_there (node_of a) (node_of b) (node_of b ∷ []) (has_here (node_of b) [])) in
        (gate_parts n a b g).apart (first ∙ sym second)
    go (Alias a) g each = both_ways false refl g

pub two_leaves : (count : ℕ) (rows : List Row) → IsHashed count rows → (n : ℕ) → is_and (row_at rows n) ≡ true → (leaves : List ℕ) → IsCut rows leaves n → has_node leaves n ≡ false → 2 ≤ length leaves
two_leaves count rows hashed n gate [] cut away = absurd (one_short count rows hashed (suc n) n (omega arith) gate [] 0 (λ m h. absurd (both_ways false refl h)) cut away)
two_leaves count rows hashed n gate (l ∷ []) cut away = absurd (one_short count rows hashed (suc n) n (omega arith) gate (l ∷ []) l (λ m h. sym (has_one l m h)) cut away)
two_leaves count rows hashed n gate (l ∷ m ∷ leaves) cut away = omega arith

-- no node of the top is a source

open_not : (row : Row) → is_and row ≡ true → is_open row ≡ false
open_not Free h = absurd (both_ways false refl h)
open_not Source h = absurd (both_ways false refl h)
open_not (And a b) h = refl
open_not (Alias a) h = absurd (both_ways false refl h)

and_inner : (rows : List Row) (t : ℕ) → is_and (row_at rows t) ≡ true → is_end rows t ≡ false
and_inner rows zero h = refl
and_inner rows (suc t) h = open_not (row_at rows (suc t)) h

pub top_inner : (rows : List Row) (labels : List ℕ) (root level : ℕ) → is_and (row_at rows root) ≡ true → 0 < level → ((n : ℕ) → is_and (row_at rows n) ≡ false → label_in labels n ≡ 0) → (t : ℕ) → IsInTop rows (label_in labels) root level t → is_end rows t ≡ false
top_inner rows labels root level gate some others t (inl e) = and_inner rows t (subst (λ k. is_and (row_at rows k) ≡ true) (sym e) gate)
top_inner rows labels root level gate some others t (inr (at, cone)) = elim (cases_Bool (is_and (row_at rows t))) [
  | inl gates ↦ and_inner rows t gates
  | inr other ↦ absurd (omega (arith, at, some, others t other))
]
