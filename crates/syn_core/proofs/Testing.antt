-- The tests say what they mean.
use Rattle.std.proofs.Common.{◌≡◌, ◌⊎◌, ℕ, ◌≤◌, ◌||◌, nat_eq, nat_lt, Bool, true, false, List, [], ◌∷◌, Option, Some, None, Decides, refl, sym, ap, ◌∙◌, subst, arith, inl, inr, lt-ltb, ltb-true, leb-true, le-leb, ◌&&◌, nat_le, if◌then◌else◌}
use Rattle.std.proofs.lemmas.Bool.{cases_eq, eq-eqb, eqb-true}
use Rattle.syn_rows.specs.declared.Row.{Row}
use Rattle.syn_rows.specs.declared.Row.TheVariants.{Free, Source, And, Alias}
use Rattle.syn_rows.specs.References.{refs, hits, times}
use Rattle.syn_rows.specs.Rows.{node_of}
use Rattle.syn_core_laws.specs.declared.View.{View}
use Rattle.syn_core_laws.specs.Lists.{look}
use Rattle.syn_core.specs.Conditions.{refers_by, any_node, is_served}
use Rattle.syn_core_laws.specs.Views.{known_row}
use Rattle.syn_core_laws.specs.Events.{Refers, MayRedefine}
use Rattle.syn_core_laws.proofs.Listing.{or_cases, or_left, or_right, and_left, and_right, and_both}
use Rattle.syn_core_laws.proofs.Counting.{hits_other, hits_same}

-- a node of which a row is told stands in the list
told_there : (p : ℕ → Bool) (m : ℕ) (r : Row) (xs : List (ℕ × Row)) → look m xs ≡ Some r → p m ≡ true → any_node p xs ≡ true
told_there p m r [] e h = absurd (cc)
told_there p m r (x ∷ xs) e h = go (nat_eq x.0 m) refl e (told_there p m r xs)
  where
    go : (b : Bool) → nat_eq x.0 m ≡ b → (if b then Some x.1 else look m xs) ≡ Some r → (look m xs ≡ Some r → p m ≡ true → any_node p xs ≡ true) → (p x.0 || any_node p xs) ≡ true
    go true is e ih = or_left (p x.0) (any_node p xs) (ap p (eqb-true x.0 m is) ∙ h)
    go false is e ih = or_right (p x.0) (any_node p xs) (ih e h)

some_passes : (p : ℕ → Bool) (xs : List (ℕ × Row)) → any_node p xs ≡ true → (m : ℕ) × (p m ≡ true)
some_passes p [] h = absurd (cc)
some_passes p (x ∷ xs) h = elim (or_cases (p x.0) (any_node p xs) h) [ inl e ↦ (x.0, e) | inr e ↦ some_passes p xs e ]

pub decides_refers : (v : View) (n : ℕ) (b : Bool) → b ≡ any_node (λ m. refers_by n (look m v.rows)) v.rows → Decides b (Refers v n)
decides_refers v n b is = (
  (λ yes. let t = some_passes (λ m. refers_by n (look m v.rows)) v.rows (sym is ∙ yes) in there t.0 (look t.0 v.rows) refl t.1),
  (λ r. is ∙ told_there (λ m. refers_by n (look m v.rows)) r.0 r.1 v.rows r.2 (ap (refers_by n) r.2 ∙ passes r.1 r.3)),
)
  where
    there : (m : ℕ) (o : Option Row) → look m v.rows ≡ o → refers_by n o ≡ true → Refers v n
    there m None e h = absurd (cc)
    there m (Some r) e h = (m, r, e, elim (or_cases (nat_eq n 0) (nat_lt 0 (refs n r)) h) [ inl z ↦ inl (eqb-true n 0 z) | inr lt ↦ inr (omega (arith, ltb-true 0 (refs n r) lt)) ])

    passes : (r : Row) → (n ≡ 0) ⊎ (1 ≤ refs n r) → refers_by n (Some r) ≡ true
    passes r (inl z) = or_left (nat_eq n 0) (nat_lt 0 (refs n r)) (eq-eqb n 0 z)
    passes r (inr le) = or_right (nat_eq n 0) (nat_lt 0 (refs n r)) (lt-ltb 0 (refs n r) (omega arith))

pub decides_refers_in : (v : View) (n : ℕ) (b : Bool) (rows : List (ℕ × Row)) → rows ≡ v.rows → b ≡ any_node (λ m. refers_by n (look m rows)) rows → Decides b (Refers v n)
decides_refers_in v n b rows e is = decides_refers v n b (is ∙ ap (λ l. any_node (λ m. refers_by n (look m l)) l) e)

-- a pin for each place of an `And`, by its two nodes
pub serves_and : (a b : ℕ) (pins : List ℕ) → times a (a ∷ b ∷ []) ≤ times a pins → times b (a ∷ b ∷ []) ≤ times b pins → (m : ℕ) → times m (a ∷ b ∷ []) ≤ times m pins
serves_and a b pins first second m = elim (cases_eq m a) [
  | inl e ↦ subst (λ k. times k (a ∷ b ∷ []) ≤ times k pins) (sym e) first
  | inr ne ↦ elim (cases_eq m b) [
    | inl e ↦ subst (λ k. times k (a ∷ b ∷ []) ≤ times k pins) (sym e) second
    | inr ne' ↦
        let one : hits m a ≡ 0 = hits_other m a ne in
        let two : hits m b ≡ 0 = hits_other m b ne' in
        omega arith
  ]
]

pub serves_alias : (a : ℕ) (pins : List ℕ) → 1 ≤ times a pins → (m : ℕ) → times m (a ∷ []) ≤ times m pins
serves_alias a pins h m = elim (cases_eq m a) [
  | inl e ↦ let few : hits m a ≤ 1 = hits_few m a in let same : times m pins ≡ times a pins = ap (λ k. times k pins) e in omega arith
  | inr ne ↦ let one : hits m a ≡ 0 = hits_other m a ne in omega arith
]
  where
    hits_few : (x y : ℕ) → hits x y ≤ 1
    hits_few x y = go (nat_eq x y)
      where
        go : (b : Bool) → (if b then 1 else 0) ≤ 1
        go true = omega arith
        go false = omega arith

pub decides_served : (pins : List ℕ) (row : Row) (b : Bool) → b ≡ is_served pins row → Decides b ((m : ℕ) → refs m row ≤ times m pins)
decides_served pins Free b is = ((λ yes m. omega arith), (λ h. is))
decides_served pins Source b is = ((λ yes m. omega arith), (λ h. is))
decides_served pins (And x y) b is =
    let p : Bool = nat_le (refs (node_of x) (And x y)) (times (node_of x) pins) in
    let q : Bool = nat_le (refs (node_of y) (And x y)) (times (node_of y) pins) in (
      (λ yes. let both : (p && q) ≡ true = sym is ∙ yes in serves_and (node_of x) (node_of y) pins (leb-true _ _ (and_left p q both)) (leb-true _ _ (and_right p q both))),
      (λ h. is ∙ and_both p q (le-leb _ _ (h (node_of x))) (le-leb _ _ (h (node_of y)))),
    )
decides_served pins (Alias x) b is = (
  (λ yes. serves_alias (node_of x) pins (leb-true _ _ (sym is ∙ yes))),
  (λ h. let one : hits (node_of x) (node_of x) ≡ 1 = hits_same (node_of x) in let enough : refs (node_of x) (Alias x) ≤ times (node_of x) pins = h (node_of x) in is ∙ le-leb _ _ (omega arith)),
)

pub decides_served_in : (pins own : List ℕ) (row : Row) (b : Bool) → pins ≡ own → b ≡ is_served pins row → Decides b ((m : ℕ) → refs m row ≤ times m own)
decides_served_in pins own row b e is = decides_served own row b (is ∙ ap (λ l. is_served l row) e)

-- ---- whether a node may be redefined
pub decides_redefine : (v : View) (n key : ℕ) (row : Row) (over : List ℕ) (old : Row) (b : Bool) → known_row v n ≡ Some old → Decides b (MayRedefine v n key row over old) → Decides b ((o : Row) × MayRedefine v n key row over o)
decides_redefine v n key row over old b known h = (
  (λ yes. (old, h.0 yes)),
  (λ may.
      let same : may.0 ≡ old = let e : Some may.0 ≡ Some old = sym may.1.0 ∙ known in cc in
      h.1 (subst (MayRedefine v n key row over) same may.1)),
)

pub decides_redefine_in : (v w : View) (over seen : List ℕ) (n key found : ℕ) (row : Row) (b : Bool) → v ≡ w → found ≡ key → seen ≡ over
    → Decides b ((o : Row) × MayRedefine v n found row seen o) → Decides b ((o : Row) × MayRedefine w n key row over o)
decides_redefine_in v w over seen n key found row b same equal is h =
    subst (λ u. Decides b ((o : Row) × MayRedefine u n key row over o)) same
    (subst (λ k. Decides b ((o : Row) × MayRedefine v n k row over o)) equal (subst (λ l. Decides b ((o : Row) × MayRedefine v n found row l o)) is h))
