-- References one by one: what `AllRefs`, `All` and the sets of syn_rows say of each node to which a row or a literal refers.
use Rattle.std.proofs.Common.{◌≡◌, ◌≢◌, ℕ, ◌<◌, ◌≤◌, nat_lt, Bool, true, false, All, List, [], ◌∷◌, length, if◌then◌else◌, refl, sym, ap, subst, arith, inl, inr}
use Rattle.std.proofs.lemmas.Bool.{cases_Bool, cases_eq, cases_lt, eq-eqb, ne_eqb, both_ways, ltb-true, ltb-false, lt-ltb}
use Rattle.std.proofs.lemmas.List.{get_or_past}
use Rattle.std.proofs.lemmas.List.Elements.{All-nil, All-cons, All-head, All-tail}
use Rattle.syn_rows.specs.declared.Lit.{Lit}
use Rattle.syn_rows.specs.declared.Row.{Row}
use Rattle.syn_rows.specs.declared.Row.TheVariants.{Free, Source, And, Alias}
use Rattle.syn_rows.specs.Rows.{node_of, row_at, AllRefs, is_derived}
use Rattle.syn_rows.specs.Reach.{HasObserved, IsClosed, Reached}
use Rattle.syn_rows.specs.References.{hits, refs, refs_by_literals}
use Rattle.syn_fanout_free.specs.Freed.{is_free, refers}

pub hits_same : (m : ℕ) → hits m m ≡ 1
hits_same m = ap (λ t. if t then 1 else 0) (eq-eqb m m refl)

pub hits_other : (m n : ℕ) → m ≢ n → hits m n ≡ 0
hits_other m n ne = ap (λ t. if t then 1 else 0) (ne_eqb m n ne)

pub refers_some : (r : Row) (m : ℕ) → refers r m ≡ true → 1 ≤ refs m r
refers_some r m h = omega (arith, ltb-true 0 (refs m r) h)

pub refers_none : (r : Row) (m : ℕ) → refers r m ≡ false → refs m r ≡ 0
refers_none r m h = omega (arith, ltb-false 0 (refs m r) h)

pub refers_from : (r : Row) (m : ℕ) → 1 ≤ refs m r → refers r m ≡ true
refers_from r m h = lt-ltb 0 (refs m r) h

pub refers_first : (a b : Lit) → refers (And a b) (node_of a) ≡ true
refers_first a b = refers_from (And a b) (node_of a) (omega (arith, hits_same (node_of a)))

pub refers_second : (a b : Lit) → refers (And a b) (node_of b) ≡ true
refers_second a b = refers_from (And a b) (node_of b) (omega (arith, hits_same (node_of b)))

pub refers_only : (a : Lit) → refers (Alias a) (node_of a) ≡ true
refers_only a = refers_from (Alias a) (node_of a) (omega (arith, hits_same (node_of a)))

pub each_ref : (P : ℕ → Type 0) (row : Row) → ((m : ℕ) → refers row m ≡ true → P m) → AllRefs P row
each_ref P Free h = tt
each_ref P Source h = tt
each_ref P (And a b) h = (h (node_of a) (refers_first a b), h (node_of b) (refers_second a b))
each_ref P (Alias a) h = h (node_of a) (refers_only a)

pub at_ref : (P : ℕ → Type 0) (row : Row) → AllRefs P row → (m : ℕ) → refers row m ≡ true → P m
at_ref P Free h m r = absurd (omega (arith, refers_some Free m r))
at_ref P Source h m r = absurd (omega (arith, refers_some Source m r))
at_ref P (And a b) h m r = elim (cases_eq m (node_of a)) [
  | inl e ↦ subst P (sym e) h.0
  | inr first ↦ elim (cases_eq m (node_of b)) [
    | inl e ↦ subst P (sym e) h.1
    | inr second ↦ absurd (omega (arith, refers_some (And a b) m r, hits_other m (node_of a) first, hits_other m (node_of b) second))
  ]
]
at_ref P (Alias a) h m r = elim (cases_eq m (node_of a)) [
  | inl e ↦ subst P (sym e) h
  | inr other ↦ absurd (omega (arith, refers_some (Alias a) m r, hits_other m (node_of a) other))
]

pub refers_not_free : (r : Row) (m : ℕ) → refers r m ≡ true → is_free r ≡ false
refers_not_free Free m h = absurd (omega (arith, refers_some Free m h))
refers_not_free Source m h = refl
refers_not_free (And a b) m h = refl
refers_not_free (Alias a) m h = refl

pub refers_gate : (r : Row) (m : ℕ) → refers r m ≡ true → is_derived r ≡ true
refers_gate Free m h = absurd (omega (arith, refers_some Free m h))
refers_gate Source m h = absurd (omega (arith, refers_some Source m h))
refers_gate (And a b) m h = refl
refers_gate (Alias a) m h = refl

pub gate_there : (r : Row) → is_derived r ≡ true → is_free r ≡ false
gate_there Free h = absurd (cc)
gate_there Source h = refl
gate_there (And a b) h = refl
gate_there (Alias a) h = refl

-- a row that is not free is in the list
pub inside : (rows : List Row) (p : ℕ) → is_free (row_at rows p) ≡ false → p < length rows
inside rows p h = elim (cases_lt p (length rows)) [
  | inl lt ↦ lt
  | inr ge ↦ absurd (both_ways (is_free (row_at rows p)) h (ap is_free (get_or_past rows p Free ge)))
]

-- some observed literal names the node
abbrev pub observes : List Lit → ℕ → Bool
observes observed m = nat_lt 0 (refs_by_literals m observed)

pub observes_none : (observed : List Lit) (m : ℕ) → observes observed m ≡ false → refs_by_literals m observed ≡ 0
observes_none observed m h = omega (arith, ltb-false 0 (refs_by_literals m observed) h)

pub none_observes : (observed : List Lit) (m : ℕ) → refs_by_literals m observed ≡ 0 → observes observed m ≡ false
none_observes observed m h = elim (cases_Bool (observes observed m)) [
  | inr f ↦ f
  | inl t ↦ absurd (omega (arith, ltb-true 0 (refs_by_literals m observed) t))
]

pub at_literal : (P : ℕ → Type 0) (observed : List Lit) → All (λ l. P (node_of l)) observed → (m : ℕ) → observes observed m ≡ true → P m
at_literal P [] all m h = absurd (omega (arith, ltb-true 0 (refs_by_literals m []) h))
at_literal P (l ∷ ls) all m h = elim (cases_eq m (node_of l)) [
  | inl e ↦ subst P (sym e) (All-head (λ x. P (node_of x)) l ls all)
  | inr ne ↦ at_literal P ls (All-tail (λ x. P (node_of x)) l ls all) m
      (lt-ltb 0 (refs_by_literals m ls) (omega (arith, ltb-true 0 (refs_by_literals m (l ∷ ls)) h, hits_other m (node_of l) ne)))
]

pub each_literal : (P : ℕ → Type 0) (observed : List Lit) → ((m : ℕ) → observes observed m ≡ true → P m) → All (λ l. P (node_of l)) observed
each_literal P [] h = All-nil (λ l. P (node_of l))
each_literal P (l ∷ ls) h = All-cons (λ x. P (node_of x)) l ls
    (h (node_of l) (lt-ltb 0 (refs_by_literals (node_of l) (l ∷ ls)) (omega (arith, hits_same (node_of l)))))
    (each_literal P ls (λ m r. h m (lt-ltb 0 (refs_by_literals m (l ∷ ls)) (omega (arith, ltb-true 0 (refs_by_literals m ls) r)))))

-- the two conditions on a set of nodes, one node at a time
abbrev pub Observes : List Lit → (ℕ → Bool) → Type 0
Observes observed set = (m : ℕ) → observes observed m ≡ true → set m ≡ true

abbrev pub Closes : List Row → (ℕ → Bool) → Type 0
Closes rows set = (p m : ℕ) → set p ≡ true → refers (row_at rows p) m ≡ true → set m ≡ true

pub observes_of : (observed : List Lit) (set : ℕ → Bool) → HasObserved observed set → Observes observed set
observes_of observed set h = at_literal (λ m. set m ≡ true) observed h

pub closes_of : (rows : List Row) (set : ℕ → Bool) → IsClosed rows set → Closes rows set
closes_of rows set h p m there r = at_ref (λ k. set k ≡ true) (row_at rows p) (h p there) m r

pub reached_in : (rows : List Row) (observed : List Lit) (n : ℕ) → Reached rows observed n → (set : ℕ → Bool) → Closes rows set → Observes observed set → set n ≡ true
reached_in rows observed n reached set closes seen =
    reached set (λ p there. each_ref (λ k. set k ≡ true) (row_at rows p) (λ m r. closes p m there r)) (each_literal (λ k. set k ≡ true) observed seen)
