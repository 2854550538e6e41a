-- Arranged cuts are in order, and are those that were arranged.
use Rattle.std.proofs.Common.{◌≡◌, ℕ, nat_lt, nat_eq, ◌&&◌, ◌||◌, Bool, true, false, if◌then◌else◌, List, [], ◌∷◌, length, bytes_eq, refl, sym, ap, ap₂, ◌∙◌, subst, inl, inr, arith}
use Rattle.std.specs.List.{list_all}
use Rattle.std.proofs.lemmas.Bool.{and_parts, and_from, or_cases, or_left, or_right, both_ways, ltb-true, lt-ltb, eqb-true, false_from_ne_true, cases_lt}
use Rattle.std.proofs.lemmas.Slice.Eq.{bytes_eq-Decides}
use Rattle.syn_cuts.specs.Cuts.{leaves_before, comes_before, put, arranged}
use Rattle.syn_cuts.specs.Laws.{are_in_order, has_cut, ArrangedInOrder}
use Rattle.syn_rows.proofs.Nodes.{node_same}

leaves_trans : (a b c : List ℕ) → leaves_before a b ≡ true → leaves_before b c ≡ true → leaves_before a c ≡ true
leaves_trans [] b c h g = absurd (both_ways false refl h)
leaves_trans (x ∷ xs) [] c h g = absurd (both_ways false refl h)
leaves_trans (x ∷ xs) (y ∷ ys) [] h g = absurd (both_ways false refl g)
leaves_trans (x ∷ xs) (y ∷ ys) (z ∷ zs) h g =
    elim (or_cases (nat_lt x y) (nat_eq x y && leaves_before xs ys) h) [
      | inl l ↦ elim (or_cases (nat_lt y z) (nat_eq y z && leaves_before ys zs) g) [
        | inl m ↦
            let a = ltb-true x y l in
            let b = ltb-true y z m in
            or_left (nat_lt x z) (nat_eq x z && leaves_before xs zs) (lt-ltb x z (omega arith))
        | inr m ↦ or_left (nat_lt x z) (nat_eq x z && leaves_before xs zs) (subst (λ k. nat_lt x k ≡ true) (eqb-true y z (and_parts (nat_eq y z) (leaves_before ys zs) m).0) l)
      ]
      | inr l ↦
          let p = and_parts (nat_eq x y) (leaves_before xs ys) l in
          let same : x ≡ y = eqb-true x y p.0 in
          elim (or_cases (nat_lt y z) (nat_eq y z && leaves_before ys zs) g) [
            | inl m ↦ or_left (nat_lt x z) (nat_eq x z && leaves_before xs zs) (subst (λ k. nat_lt k z ≡ true) (sym same) m)
            | inr m ↦
                let q = and_parts (nat_eq y z) (leaves_before ys zs) m in
                or_right (nat_lt x z) (nat_eq x z && leaves_before xs zs) (and_from (nat_eq x z) (leaves_before xs zs) (subst (λ k. nat_eq k z ≡ true) (sym same) q.0) (leaves_trans xs ys zs p.1 q.1))
          ]
    ]

pub before_trans : (a b c : List ℕ) → comes_before a b ≡ true → comes_before b c ≡ true → comes_before a c ≡ true
before_trans a b c h g =
    elim (or_cases (nat_lt (length a) (length b)) (nat_eq (length a) (length b) && leaves_before a b) h) [
      | inl l ↦ elim (or_cases (nat_lt (length b) (length c)) (nat_eq (length b) (length c) && leaves_before b c) g) [
        | inl m ↦
            let p = ltb-true (length a) (length b) l in
            let q = ltb-true (length b) (length c) m in
            or_left (nat_lt (length a) (length c)) (nat_eq (length a) (length c) && leaves_before a c) (lt-ltb (length a) (length c) (omega arith))
        | inr m ↦ or_left (nat_lt (length a) (length c)) (nat_eq (length a) (length c) && leaves_before a c)
            (subst (λ k. nat_lt (length a) k ≡ true) (eqb-true (length b) (length c) (and_parts (nat_eq (length b) (length c)) (leaves_before b c) m).0) l)
      ]
      | inr l ↦
          let p = and_parts (nat_eq (length a) (length b)) (leaves_before a b) l in
          let same : length a ≡ length b = eqb-true (length a) (length b) p.0 in
          elim (or_cases (nat_lt (length b) (length c)) (nat_eq (length b) (length c) && leaves_before b c) g) [
            | inl m ↦ or_left (nat_lt (length a) (length c)) (nat_eq (length a) (length c) && leaves_before a c) (subst (λ k. nat_lt k (length c) ≡ true) (sym same) m)
            | inr m ↦
                let q = and_parts (nat_eq (length b) (length c)) (leaves_before b c) m in
                or_right (nat_lt (length a) (length c)) (nat_eq (length a) (length c) && leaves_before a c)
                (and_from (nat_eq (length a) (length c)) (leaves_before a c) (subst (λ k. nat_eq k (length c) ≡ true) (sym same) q.0) (leaves_trans a b c p.1 q.1))
          ]
    ]

-- of two different cuts one comes before the other

leaves_total : (a b : List ℕ) → length a ≡ length b → leaves_before a b ≡ false → (a ≡ b → ⊥) → leaves_before b a ≡ true
leaves_total [] [] e h ne = absurd (ne refl)
leaves_total [] (y ∷ ys) e h ne = absurd (omega arith)
leaves_total (x ∷ xs) [] e h ne = absurd (omega arith)
leaves_total (x ∷ xs) (y ∷ ys) e h ne = elim (cases_lt x y) [
  | inl l ↦ absurd (both_ways (leaves_before (x ∷ xs) (y ∷ ys)) h (or_left (nat_lt x y) (nat_eq x y && leaves_before xs ys) (lt-ltb x y l)))
  | inr g ↦ elim (cases_lt y x) [
    | inl l ↦ or_left (nat_lt y x) (nat_eq y x && leaves_before ys xs) (lt-ltb y x l)
    | inr k ↦
        let same : x ≡ y = omega arith in
        let rest : leaves_before xs ys ≡ false = false_from_ne_true (leaves_before xs ys) (λ t. both_ways (leaves_before (x ∷ xs) (y ∷ ys)) h
        (or_right (nat_lt x y) (nat_eq x y && leaves_before xs ys) (and_from (nat_eq x y) (leaves_before xs ys) (subst (λ i. nat_eq x i ≡ true) same (node_same x)) t))) in
        or_right (nat_lt y x) (nat_eq y x && leaves_before ys xs) (and_from (nat_eq y x) (leaves_before ys xs) (subst (λ i. nat_eq y i ≡ true) (sym same) (node_same y))
        (leaves_total xs ys (omega arith) rest (λ s. ne (ap₂ (λ (i : ℕ) (l : List ℕ). i ∷ l) same s))))
  ]
]

pub before_total : (a b : List ℕ) → comes_before a b ≡ false → bytes_eq a b ≡ false → comes_before b a ≡ true
before_total a b h ne = elim (cases_lt (length a) (length b)) [
  | inl l ↦ absurd (both_ways (comes_before a b) h (or_left (nat_lt (length a) (length b)) (nat_eq (length a) (length b) && leaves_before a b) (lt-ltb (length a) (length b) l)))
  | inr g ↦ elim (cases_lt (length b) (length a)) [
    | inl l ↦ or_left (nat_lt (length b) (length a)) (nat_eq (length b) (length a) && leaves_before b a) (lt-ltb (length b) (length a) l)
    | inr k ↦
        let same : length a ≡ length b = omega arith in
        let rest : leaves_before a b ≡ false = false_from_ne_true (leaves_before a b) (λ t. both_ways (comes_before a b) h
        (or_right (nat_lt (length a) (length b)) (nat_eq (length a) (length b) && leaves_before a b) (and_from (nat_eq (length a) (length b)) (leaves_before a b) (subst (λ i. nat_eq (length a) i ≡ true) same (node_same (length a))) t))) in
        or_right (nat_lt (length b) (length a)) (nat_eq (length b) (length a) && leaves_before b a)
        (and_from (nat_eq (length b) (length a)) (leaves_before b a) (subst (λ i. nat_eq (length b) i ≡ true) (sym same) (node_same (length b)))
        (leaves_total a b same rest (λ s. both_ways (bytes_eq a b) ne ((bytes_eq-Decides a b).1 s))))
  ]
]

-- putting a cut in its place

all_put : (p : List ℕ → Bool) (c : List ℕ) (ds : List (List ℕ)) → p c ≡ true → list_all p ds ≡ true → list_all p (put c ds) ≡ true
all_put p c [] h a = and_from (p c) true h refl
all_put p c (d ∷ ds) h a = let parts = and_parts (p d) (list_all p ds) a in go (comes_before c d) (bytes_eq c d) parts.0 parts.1 (all_put p c ds h parts.1)
  where
    go : (b e : Bool) → p d ≡ true → list_all p ds ≡ true → list_all p (put c ds) ≡ true → list_all p (if b then c ∷ d ∷ ds else if e then d ∷ ds else d ∷ put c ds) ≡ true
    go true e f g ih = and_from (p c) (list_all p (d ∷ ds)) h (and_from (p d) (list_all p ds) f g)
    go false true f g ih = and_from (p d) (list_all p ds) f g
    go false false f g ih = and_from (p d) (list_all p (put c ds)) f ih

all_trans : (c d : List ℕ) (ds : List (List ℕ)) → comes_before c d ≡ true → list_all (comes_before d) ds ≡ true → list_all (comes_before c) ds ≡ true
all_trans c d [] h a = refl
all_trans c d (e ∷ es) h a =
    let parts = and_parts (comes_before d e) (list_all (comes_before d) es) a in
    and_from (comes_before c e) (list_all (comes_before c) es) (before_trans c d e h parts.0) (all_trans c d es h parts.1)

put_in_order : (c : List ℕ) (ds : List (List ℕ)) → are_in_order ds ≡ true → are_in_order (put c ds) ≡ true
put_in_order c [] h = refl
put_in_order c (d ∷ ds) h = let parts = and_parts (list_all (comes_before d) ds) (are_in_order ds) h in go (comes_before c d) refl (bytes_eq c d) refl parts.0 (put_in_order c ds parts.1)
  where
    go : (b : Bool) → comes_before c d ≡ b → (e : Bool) → bytes_eq c d ≡ e → list_all (comes_before d) ds ≡ true → are_in_order (put c ds) ≡ true
        → are_in_order (if b then c ∷ d ∷ ds else if e then d ∷ ds else d ∷ put c ds) ≡ true
    go true b e q a ih = and_from (list_all (comes_before c) (d ∷ ds)) (are_in_order (d ∷ ds)) (and_from (comes_before c d) (list_all (comes_before c) ds) b (all_trans c d ds b a)) h
    go false b true q a ih = h
    go false b false q a ih = and_from (list_all (comes_before d) (put c ds)) (are_in_order (put c ds)) (all_put (comes_before d) c ds (before_total c d b q) a) ih

or_again : (a r : Bool) → (a || r) ≡ (a || (a || r))
or_again true r = refl
or_again false r = refl

or_swap : (a b r : Bool) → (a || (b || r)) ≡ (b || (a || r))
or_swap true true r = refl
or_swap true false r = refl
or_swap false true r = refl
or_swap false false r = refl

put_has : (c : List ℕ) (ds : List (List ℕ)) (x : List ℕ) → has_cut (put c ds) x ≡ (bytes_eq c x || has_cut ds x)
put_has c [] x = refl
put_has c (d ∷ ds) x = go (comes_before c d) (bytes_eq c d) refl (put_has c ds x)
  where
    go : (b e : Bool) → bytes_eq c d ≡ e → has_cut (put c ds) x ≡ (bytes_eq c x || has_cut ds x) → has_cut (if b then c ∷ d ∷ ds else if e then d ∷ ds else d ∷ put c ds) x ≡ (bytes_eq c x || has_cut (d ∷ ds) x)
    go true e q ih = refl
    go false true q ih = or_again (bytes_eq d x) (has_cut ds x) ∙ ap (λ y. bytes_eq y x || has_cut (d ∷ ds) x) (sym ((bytes_eq-Decides c d).0 q))
    go false false q ih = ap (λ t. bytes_eq d x || t) ih ∙ or_swap (bytes_eq d x) (bytes_eq c x) (has_cut ds x)

pub arranged_order : (ds cs : List (List ℕ)) → are_in_order ds ≡ true → are_in_order (arranged ds cs) ≡ true
arranged_order ds [] h = h
arranged_order ds (c ∷ cs) h = arranged_order (put c ds) cs (put_in_order c ds h)

or_third : (r a b : Bool) → (r || (a || b)) ≡ ((a || r) || b)
or_third true true b = refl
or_third true false b = refl
or_third false true b = refl
or_third false false b = refl

or_none : (a : Bool) → (a || false) ≡ a
or_none true = refl
or_none false = refl

arranged_has : (ds cs : List (List ℕ)) (x : List ℕ) → has_cut (arranged ds cs) x ≡ (has_cut cs x || has_cut ds x)
arranged_has ds [] x = refl
arranged_has ds (c ∷ cs) x = arranged_has (put c ds) cs x ∙ ap (λ t. has_cut cs x || t) (put_has c ds x) ∙ or_third (has_cut cs x) (bytes_eq c x) (has_cut ds x)

pub arranged_in_order : ArrangedInOrder
arranged_in_order cs = (arranged_order [] cs refl, λ x. arranged_has [] cs x ∙ or_none (has_cut cs x))
