-- What is told of nodes grows up to all values by known rows.
use Rattle.std.proofs.Common.{◌≡◌, ◌≢◌, ◌↔◌, ℕ, zero, suc, ◌+◌, ◌<◌, ◌≤◌, ◌||◌, Bool, true, false, nat_eq, if◌then◌else◌, List, [], ◌∷◌, ◌++◌, Option, Some, None, is_some, length, refl, sym, ap, ap₂, ◌∙◌, subst, arith, inl, inr}
use Rattle.std.proofs.lemmas.Bool.{cases_eq, eq-eqb, ne_eqb, eqb-true}
use Rattle.syn_rows.specs.declared.Row.{Row}
use Rattle.syn_rows.specs.declared.Row.TheVariants.{Free, Source, And, Alias}
use Rattle.syn_rows.specs.declared.Lit.{Lit}
use Rattle.syn_rows.specs.Rows.{node_of}
use Rattle.syn_rows.specs.Nodes.{has_node}
use Rattle.syn_core_laws.specs.Lists.{look}
use Rattle.syn_core_laws.specs.SameValue.{turned_by, both, value_of_row, known_value, value_by, HasValue, SameFor, SameValue}
use Rattle.syn_core_laws.specs.declared.View.{View}
use Rattle.syn_core.specs.Told.{IsTold, if_untold, new_value, IsFull, or_next, first_new, if_missing, untold, SameTold, Covers, Agrees, SameForAll}
use Rattle.syn_core_laws.proofs.Listing.{look_here, look_there}

-- ---- values of rows grow with those of nodes
turned_more : (l : Lit) (o p : Option Bool) (b : Bool) → ((c : Bool) → o ≡ Some c → p ≡ Some c) → turned_by l o ≡ Some b → turned_by l p ≡ Some b
turned_more l None p b more h = absurd (cc)
turned_more l (Some c) p b more h = ap (turned_by l) (more c refl) ∙ h

both_more : (o p o' p' : Option Bool) (b : Bool) → ((c : Bool) → o ≡ Some c → o' ≡ Some c) → ((c : Bool) → p ≡ Some c → p' ≡ Some c) → both o p ≡ Some b → both o' p' ≡ Some b
both_more None p o' p' b first second h = absurd (cc)
both_more (Some c) None o' p' b first second h = absurd (cc)
both_more (Some c) (Some d) o' p' b first second h = ap₂ both (first c refl) (second d refl) ∙ h

pub row_more : (at at' : ℕ → Option Bool) → ((n : ℕ) (b : Bool) → at n ≡ Some b → at' n ≡ Some b) → (r : Row) (b : Bool) → value_of_row at r ≡ Some b → value_of_row at' r ≡ Some b
row_more at at' more Free b h = absurd (cc)
row_more at at' more Source b h = absurd (cc)
row_more at at' more (And x y) b h =
    both_more (turned_by x (at (node_of x))) (turned_by y (at (node_of y))) (turned_by x (at' (node_of x))) (turned_by y (at' (node_of y))) b
    (λ c. turned_more x (at (node_of x)) (at' (node_of x)) c (more (node_of x)))
    (λ c. turned_more y (at (node_of y)) (at' (node_of y)) c (more (node_of y))) h
row_more at at' more (Alias x) b h = turned_more x (at (node_of x)) (at' (node_of x)) b (more (node_of x)) h

known_more : (at at' : ℕ → Option Bool) → ((n : ℕ) (b : Bool) → at n ≡ Some b → at' n ≡ Some b) → (o : Option Row) (b : Bool) → known_value at o ≡ Some b → known_value at' o ≡ Some b
known_more at at' more None b h = absurd (cc)
known_more at at' more (Some r) b h = row_more at at' more r b h

module _ (known : ℕ → Option Row) (over : List ℕ) (choice : ℕ → Bool) where
  -- ---- more steps
  step_more : (k n : ℕ) (b : Bool) → value_by known over choice k n ≡ Some b → value_by known over choice (suc k) n ≡ Some b
  step_more zero n b h = go (has_node over n) (nat_eq n 0) h
    where
      go : (p q : Bool) → (if p then Some (choice n) else if q then Some false else None) ≡ Some b → (if p then Some (choice n) else if q then Some false else known_value (value_by known over choice zero) (known n)) ≡ Some b
      go true q h = h
      go false true h = h
      go false false h = absurd (cc)
  step_more (suc k) n b h = go (has_node over n) (nat_eq n 0) (step_more k) h
    where
      go : (p q : Bool) → ((m : ℕ) (c : Bool) → value_by known over choice k m ≡ Some c → value_by known over choice (suc k) m ≡ Some c)
          → (if p then Some (choice n) else if q then Some false else known_value (value_by known over choice k) (known n)) ≡ Some b
          → (if p then Some (choice n) else if q then Some false else known_value (value_by known over choice (suc k)) (known n)) ≡ Some b
      go true q ih h = h
      go false true ih h = h
      go false false ih h = known_more (value_by known over choice k) (value_by known over choice (suc k)) ih (known n) b h

  at_least : (i k n : ℕ) (b : Bool) → k ≤ i → value_by known over choice k n ≡ Some b → value_by known over choice i n ≡ Some b
  at_least zero k n b le h = let e : k ≡ 0 = omega arith in subst (λ z. value_by known over choice z n ≡ Some b) e h
  at_least (suc i) k n b le h = elim (cases_eq k (suc i)) [
    | inl e ↦ subst (λ z. value_by known over choice z n ≡ Some b) e h
    | inr ne ↦ step_more i n b (at_least i k n b (omega arith) h)
  ]

  one_value : (i k n : ℕ) (b c : Bool) → value_by known over choice i n ≡ Some b → value_by known over choice k n ≡ Some c → b ≡ c
  one_value i k n b c hi hk =
      let first : value_by known over choice (i + k) n ≡ Some b = at_least (i + k) i n b (omega arith) hi in
      let second : value_by known over choice (i + k) n ≡ Some c = at_least (i + k) k n c (omega arith) hk in
      let same : Some b ≡ Some c = sym first ∙ second in
      cc

  -- ---- a row by told values has a value by some number of steps
  module _ (told : List (ℕ × Bool)) (t : IsTold known over choice told) where
    turned_steps : (l : Lit) (b : Bool) → (o : Option Bool) → look (node_of l) told ≡ o → turned_by l o ≡ Some b → (s : ℕ) × (turned_by l (value_by known over choice s (node_of l)) ≡ Some b)
    turned_steps l b None e h = absurd (cc)
    turned_steps l b (Some c) e h = let v = t.each (node_of l) c e in (v.0, ap (turned_by l) v.1 ∙ h)

    both_steps : (x y : Lit) (b : Bool) → (o p : Option Bool) → turned_by x (look (node_of x) told) ≡ o → turned_by y (look (node_of y) told) ≡ p → both o p ≡ Some b
        → (s : ℕ) × (both (turned_by x (value_by known over choice s (node_of x))) (turned_by y (value_by known over choice s (node_of y))) ≡ Some b)
    both_steps x y b None p ex ey h = absurd (cc)
    both_steps x y b (Some c) None ex ey h = absurd (cc)
    both_steps x y b (Some c) (Some d) ex ey h =
        let first = turned_steps x c (look (node_of x) told) refl ex in
        let second = turned_steps y d (look (node_of y) told) refl ey in
        let one : turned_by x (value_by known over choice (first.0 + second.0) (node_of x)) ≡ Some c =
        turned_more x (value_by known over choice first.0 (node_of x)) (value_by known over choice (first.0 + second.0) (node_of x)) c (λ z. at_least (first.0 + second.0) first.0 (node_of x) z (omega arith)) first.1 in
        let two : turned_by y (value_by known over choice (first.0 + second.0) (node_of y)) ≡ Some d =
        turned_more y (value_by known over choice second.0 (node_of y)) (value_by known over choice (first.0 + second.0) (node_of y)) d (λ z. at_least (first.0 + second.0) second.0 (node_of y) z (omega arith)) second.1 in
        (first.0 + second.0, ap₂ both one two ∙ h)

    pub row_steps : (r : Row) (b : Bool) → value_of_row (λ n. look n told) r ≡ Some b → HasValue known over choice r b
    row_steps Free b h = absurd (cc)
    row_steps Source b h = absurd (cc)
    row_steps (And x y) b h = both_steps x y b (turned_by x (look (node_of x) told)) (turned_by y (look (node_of y) told)) refl refl h
    row_steps (Alias x) b h = turned_steps x b (look (node_of x) told) refl h

    -- ---- a new value
    value_new : (n : ℕ) (b : Bool) (s : ℕ) → look n told ≡ None → known_value (value_by known over choice s) (known n) ≡ Some b → value_by known over choice (suc s) n ≡ Some b
    value_new n b s none h = go (has_node over n) refl (nat_eq n 0) refl
      where
        go : (p : Bool) → has_node over n ≡ p → (q : Bool) → nat_eq n 0 ≡ q → (if p then Some (choice n) else if q then Some false else known_value (value_by known over choice s) (known n)) ≡ Some b
        go true e q f = let is : look n told ≡ Some (choice n) = t.named n e in absurd (cc)
        go false e true f =
            let z : n ≡ 0 = eqb-true n 0 f in
            let is : look 0 told ≡ Some false = t.constant (subst (λ k. has_node over k ≡ false) z e) in
            let no : look 0 told ≡ None = subst (λ k. look k told ≡ None) z none in
            absurd (cc)
        go false e false f = h

    known_steps : (o : Option Row) (b : Bool) → known_value (λ n. look n told) o ≡ Some b → (s : ℕ) × (known_value (value_by known over choice s) o ≡ Some b)
    known_steps None b h = absurd (cc)
    known_steps (Some r) b h = row_steps r b h

    untold_new : (n : ℕ) (b : Bool) → new_value known told n ≡ Some b → (look n told ≡ None) × (known_value (λ m. look m told) (known n) ≡ Some b)
    untold_new n b h = go (look n told) refl h
      where
        go : (o : Option Bool) → look n told ≡ o → if_untold o (known_value (λ m. look m told) (known n)) ≡ Some b → (look n told ≡ None) × (known_value (λ m. look m told) (known n) ≡ Some b)
        go None e h = (e, h)
        go (Some c) e h = absurd (cc)

    pub told_more : (n : ℕ) (b : Bool) → new_value known told n ≡ Some b → IsTold known over choice ((n, b) ∷ told)
    told_more n b h =
        let new = untold_new n b h in
        let there : (m : ℕ) → m ≢ n → look m ((n, b) ∷ told) ≡ look m told = λ m ne. look_there m n b told ne in
        let apart : (m : ℕ) (c : Bool) → look m told ≡ Some c → m ≢ n = λ m c is same. let no : look m told ≡ None = subst (λ k. look k told ≡ None) (sym same) new.0 in absurd (cc) in
        record {
          named = λ m e. there m (apart m (choice m) (t.named m e)) ∙ t.named m e;
          constant = λ e. there 0 (apart 0 false (t.constant e)) ∙ t.constant e;
          each = λ m c e. elim (cases_eq m n) [
            | inl same ↦
                let s = known_steps (known n) b new.1 in
                let here : look m ((n, b) ∷ told) ≡ Some b = subst (λ k. look k ((n, b) ∷ told) ≡ Some b) (sym same) (look_here n b told) in
                let equal : b ≡ c = let x : Some b ≡ Some c = sym here ∙ e in cc in
                (suc s.0, subst (λ k. value_by known over choice (suc s.0) k ≡ Some c) (sym same) (value_new n b s.0 new.0 s.1 ∙ ap Some equal))
            | inr ne ↦ t.each m c (sym (there m ne) ∙ e)
          ];
        }

    -- ---- where nothing can be added, each value is told
    pub all_told : IsFull known told → (s n : ℕ) (b : Bool) → value_by known over choice s n ≡ Some b → look n told ≡ Some b
    all_told full zero n b h = go (has_node over n) refl (nat_eq n 0) refl h
      where
        go : (p : Bool) → has_node over n ≡ p → (q : Bool) → nat_eq n 0 ≡ q → (if p then Some (choice n) else if q then Some false else None) ≡ Some b → look n told ≡ Some b
        go true e q f h = t.named n e ∙ h
        go false e true f h =
            let z : n ≡ 0 = eqb-true n 0 f in
            subst (λ k. look k told ≡ Some b) (sym z) (t.constant (subst (λ k. has_node over k ≡ false) z e) ∙ h)
        go false e false f h = absurd (cc)
    all_told full (suc s) n b h = go (has_node over n) refl (nat_eq n 0) refl (all_told full s) h
      where
        by_row : (o : Option Bool) → look n told ≡ o → ((m : ℕ) (c : Bool) → value_by known over choice s m ≡ Some c → look m told ≡ Some c) → known_value (value_by known over choice s) (known n) ≡ Some b
            → value_by known over choice (suc s) n ≡ Some b → look n told ≡ Some b
        by_row None e ih v whole =
            let more : known_value (λ m. look m told) (known n) ≡ Some b = known_more (value_by known over choice s) (λ m. look m told) ih (known n) b v in
            let none : new_value known told n ≡ None = full n in
            let same : new_value known told n ≡ known_value (λ m. look m told) (known n) = ap (λ o. if_untold o (known_value (λ m. look m told) (known n))) e in
            absurd (cc)
        by_row (Some c) e ih v whole = let by = t.each n c e in e ∙ ap Some (one_value by.0 (suc s) n c b by.1 whole)

        go : (p : Bool) → has_node over n ≡ p → (q : Bool) → nat_eq n 0 ≡ q → ((m : ℕ) (c : Bool) → value_by known over choice s m ≡ Some c → look m told ≡ Some c)
            → (if p then Some (choice n) else if q then Some false else known_value (value_by known over choice s) (known n)) ≡ Some b → look n told ≡ Some b
        go true e q f ih h = t.named n e ∙ h
        go false e true f ih h =
            let z : n ≡ 0 = eqb-true n 0 f in
            subst (λ k. look k told ≡ Some b) (sym z) (t.constant (subst (λ k. has_node over k ≡ false) z e) ∙ h)
        go false e false f ih v = by_row (look n told) refl ih v (ap (λ p. if p then Some (choice n) else if nat_eq n 0 then Some false else known_value (value_by known over choice s) (known n)) e ∙ (ap (λ q. if q then Some false else known_value (value_by known over choice s) (known n)) f ∙ v))

    pub same_told : IsFull known told → (old new : Row) → (SameTold told old new → SameFor known over choice old new) × (SameFor known over choice old new → SameTold told old new)
    same_told full old new = (
      (λ h. (h.0, row_steps old h.0 h.1, row_steps new h.0 h.2)),
      (λ h. (
        h.0,
        row_more (value_by known over choice h.1.0) (λ n. look n told) (all_told full h.1.0) old h.0 h.1.1,
        row_more (value_by known over choice h.2.0) (λ n. look n told) (all_told full h.2.0) new h.0 h.2.1,
      )),
    )

-- ---- the first node with a new value
pair_is : (p q : ℕ × Bool) → Some p ≡ Some q → p ≡ q
pair_is p q h = cc

pub first_is : (f : ℕ → Option Bool) (xs : List (ℕ × Row)) (n : ℕ) (b : Bool) → first_new f xs ≡ Some (n, b) → (f n ≡ Some b) × (look n xs ≢ None)
first_is f [] n b h = absurd (cc)
first_is f (x ∷ xs) n b h = go (f x.0) refl (first_is f xs n b) h
  where
    go : (o : Option Bool) → f x.0 ≡ o → (first_new f xs ≡ Some (n, b) → (f n ≡ Some b) × (look n xs ≢ None)) → or_next x.0 o (first_new f xs) ≡ Some (n, b) → (f n ≡ Some b) × (look n (x ∷ xs) ≢ None)
    go None e ih h = let t = ih h in (t.0, deeper (nat_eq x.0 n) t.1)
      where
        deeper : (q : Bool) → look n xs ≢ None → (if q then Some x.1 else look n xs) ≢ None
        deeper true ne h = absurd (cc)
        deeper false ne h = ne h
    go (Some c) e ih h =
        let pair : (x.0, c) ≡ (n, b) = pair_is (x.0, c) (n, b) h in
        let node : x.0 ≡ n = ap (λ (p : ℕ × Bool). p.0) pair in
        let value : c ≡ b = ap (λ (p : ℕ × Bool). p.1) pair in
        (subst (λ k. f k ≡ Some b) node (e ∙ ap Some value), λ no. let here : look n (x ∷ xs) ≡ Some x.1 = ap (λ q. if q then Some x.1 else look n xs) (eq-eqb x.0 n node) in absurd (cc))

pub first_none : (f : ℕ → Option Bool) (xs : List (ℕ × Row)) → first_new f xs ≡ None → (n : ℕ) → look n xs ≢ None → f n ≡ None
first_none f [] h n there = absurd (there refl)
first_none f (x ∷ xs) h n there = go (f x.0) refl (first_none f xs) h
  where
    go : (o : Option Bool) → f x.0 ≡ o → (first_new f xs ≡ None → (m : ℕ) → look m xs ≢ None → f m ≡ None) → or_next x.0 o (first_new f xs) ≡ None → f n ≡ None
    go (Some c) e ih h = absurd (cc)
    go None e ih h = elim (cases_eq x.0 n) [
      | inl same ↦ subst (λ k. f k ≡ None) same e
      | inr ne ↦ ih h n (λ no. there (ap (λ q. if q then Some x.1 else look n xs) (ne_eqb x.0 n ne) ∙ no))
    ]

-- nothing new among the entries: nothing new at all
pub full_from_none : (rows : List (ℕ × Row)) (told : List (ℕ × Bool)) → first_new (new_value (λ n. look n rows) told) rows ≡ None → IsFull (λ n. look n rows) told
full_from_none rows told h n = go (look n rows) refl
  where
    untold_none : (o : Option Bool) → if_untold o None ≡ None
    untold_none None = refl
    untold_none (Some b) = refl

    go : (o : Option Row) → look n rows ≡ o → new_value (λ m. look m rows) told n ≡ None
    go None e = ap (λ o. if_untold (look n told) (known_value (λ m. look m told) o)) e ∙ untold_none (look n told)
    go (Some r) e = first_none (new_value (λ m. look m rows) told) rows h n (λ no. absurd (cc))

-- a told node leaves fewer untold
missing_less : (n m : ℕ) (b : Bool) (told : List (ℕ × Bool)) → if_missing (look m ((n, b) ∷ told)) ≤ if_missing (look m told)
missing_less n m b told = go (nat_eq n m) (look m told)
  where
    go : (q : Bool) (o : Option Bool) → if_missing (if q then Some b else o) ≤ if_missing o
    go true None = omega arith
    go true (Some c) = omega arith
    go false o = omega arith

untold_le : (n : ℕ) (b : Bool) (told : List (ℕ × Bool)) (xs : List (ℕ × Row)) → untold ((n, b) ∷ told) xs ≤ untold told xs
untold_le n b told [] = omega arith
untold_le n b told (x ∷ xs) = let rest : untold ((n, b) ∷ told) xs ≤ untold told xs = untold_le n b told xs in omega (arith, missing_less n x.0 b told)

pub new_is_untold : (known : ℕ → Option Row) (told : List (ℕ × Bool)) (n : ℕ) (b : Bool) → new_value known told n ≡ Some b → look n told ≡ None
new_is_untold known told n b h = go (look n told) refl h
  where
    go : (o : Option Bool) → look n told ≡ o → if_untold o (known_value (λ m. look m told) (known n)) ≡ Some b → look n told ≡ None
    go None e h = e
    go (Some c) e h = absurd (cc)

pub untold_less : (n : ℕ) (b : Bool) (told : List (ℕ × Bool)) (xs : List (ℕ × Row)) → look n told ≡ None → look n xs ≢ None → untold ((n, b) ∷ told) xs < untold told xs
untold_less n b told [] none there = absurd (there refl)
untold_less n b told (x ∷ xs) none there = elim (cases_eq x.0 n) [
  | inl same ↦
      let was : if_missing (look x.0 told) ≡ 1 = ap if_missing (subst (λ k. look k told ≡ None) (sym same) none) in
      let is : if_missing (look x.0 ((n, b) ∷ told)) ≡ 0 = subst (λ k. if_missing (look k ((n, b) ∷ told)) ≡ 0) (sym same) (ap if_missing (look_here n b told)) in
      omega (arith, untold_le n b told xs)
  | inr ne ↦
      let rest : untold ((n, b) ∷ told) xs < untold told xs = untold_less n b told xs none (λ no. there (ap (λ q. if q then Some x.1 else look n xs) (ne_eqb x.0 n ne) ∙ no)) in
      omega (arith, missing_less n x.0 b told)
]

-- ---- one round
module _ (rows : List (ℕ × Row)) (told seen : List (ℕ × Bool)) (r : Option (ℕ × Bool)) (is_seen : seen ≡ told) (found : r ≡ first_new (new_value (λ n. look n rows) seen) rows) where
  round_new : (p : ℕ × Bool) → r ≡ Some p → (new_value (λ n. look n rows) told p.0 ≡ Some p.1) × (look p.0 rows ≢ None)
  round_new p is = first_is (new_value (λ n. look n rows) told) rows p.0 p.1 (subst (λ l. first_new (new_value (λ n. look n rows) l) rows ≡ Some p) is_seen (sym found ∙ is))

  pub round_told : (p : ℕ × Bool) (before after : List (ℕ × Bool)) → r ≡ Some p → before ≡ told → after ≡ p ∷ before → (over : List ℕ) (choice : ℕ → Bool) → IsTold (λ n. look n rows) over choice told → IsTold (λ n. look n rows) over choice after
  round_told p before after is same made over choice t =
      subst (IsTold (λ n. look n rows) over choice) (sym (made ∙ ap (λ l. p ∷ l) same)) (told_more (λ n. look n rows) over choice told t p.0 p.1 (round_new p is).0)

  pub round_less : (p : ℕ × Bool) (before after : List (ℕ × Bool)) → r ≡ Some p → before ≡ told → after ≡ p ∷ before → untold after rows < untold told rows
  round_less p before after is same made =
      let new = round_new p is in
      subst (λ l. untold l rows < untold told rows) (sym (made ∙ ap (λ l. p ∷ l) same)) (untold_less p.0 p.1 told rows (new_is_untold (λ n. look n rows) told p.0 p.1 new.0) new.1)

  pub round_full : ((p : ℕ × Bool) → r ≡ Some p → ⊥) → IsFull (λ n. look n rows) told
  round_full none = full_from_none rows told (go r refl)
    where
      go : (o : Option (ℕ × Bool)) → r ≡ o → first_new (new_value (λ n. look n rows) told) rows ≡ None
      go None e = subst (λ l. first_new (new_value (λ n. look n rows) l) rows ≡ None) is_seen (sym found ∙ e)
      go (Some p) e = absurd (none p e)

-- ---- choices
look_front : (m : ℕ) (b : Bool) (xs ys : List (ℕ × Bool)) → look m xs ≡ Some b → look m (xs ++ ys) ≡ Some b
look_front m b [] ys h = absurd (cc)
look_front m b (x ∷ xs) ys h = go (nat_eq x.0 m) (look_front m b xs ys) h
  where
    go : (q : Bool) → (look m xs ≡ Some b → look m (xs ++ ys) ≡ Some b) → (if q then Some x.1 else look m xs) ≡ Some b → (if q then Some x.1 else look m (xs ++ ys)) ≡ Some b
    go true ih h = h
    go false ih h = ih h

look_back : (m : ℕ) (xs ys : List (ℕ × Bool)) → look m xs ≡ None → look m (xs ++ ys) ≡ look m ys
look_back m [] ys h = refl
look_back m (x ∷ xs) ys h = go (nat_eq x.0 m) (look_back m xs ys) h
  where
    go : (q : Bool) → (look m xs ≡ None → look m (xs ++ ys) ≡ look m ys) → (if q then Some x.1 else look m xs) ≡ None → (if q then Some x.1 else look m (xs ++ ys)) ≡ look m ys
    go true ih h = absurd (cc)
    go false ih h = ih h

abbrev or_false : Option Bool → Bool
or_false None = false
or_false (Some b) = b

module _ (known : ℕ → Option Row) (over : List ℕ) (chosen : List (ℕ × Bool)) where
  -- the chosen values and node 0's are told
  chosen_told : (choice : ℕ → Bool) → Covers over [] chosen → Agrees choice chosen → IsTold known over choice (chosen ++ (0, false) ∷ [])
  chosen_told choice covers agrees = record {
    named = λ n e. by_name n e (look n chosen) refl (covers n);
    constant = λ e. at_zero e (look 0 chosen) refl (covers 0);
    each = λ n b h. by_value n b h (look n chosen) refl (covers n);
  }
    where
      by_name : (n : ℕ) → has_node over n ≡ true → (o : Option Bool) → look n chosen ≡ o → has_node over n ≡ is_some o → look n (chosen ++ (0, false) ∷ []) ≡ Some (choice n)
      by_name n e None is c = absurd (cc)
      by_name n e (Some b) is c = look_front n b chosen ((0, false) ∷ []) is ∙ ap Some (sym (agrees n b is))

      at_zero : has_node over 0 ≡ false → (o : Option Bool) → look 0 chosen ≡ o → has_node over 0 ≡ is_some o → look 0 (chosen ++ (0, false) ∷ []) ≡ Some false
      at_zero e None is c = look_back 0 chosen ((0, false) ∷ []) is
      at_zero e (Some b) is c = absurd (cc)

      last : (n : ℕ) (b : Bool) → (q : Bool) → nat_eq 0 n ≡ q → (if q then Some false else None) ≡ Some b → (n ≡ 0) × (false ≡ b)
      last n b true e h = (sym (eqb-true 0 n e), cc)
      last n b false e h = absurd (cc)

      by_value : (n : ℕ) (b : Bool) → look n (chosen ++ (0, false) ∷ []) ≡ Some b → (o : Option Bool) → look n chosen ≡ o → has_node over n ≡ is_some o → (steps : ℕ) × (value_by known over choice steps n ≡ Some b)
      by_value n b h None is c =
          let t = last n b (nat_eq 0 n) refl (sym (look_back n chosen ((0, false) ∷ []) is) ∙ h) in
          (0, ap (λ p. if p then Some (choice n) else if nat_eq n 0 then Some false else None) c ∙ (ap (λ q. if q then Some false else None) (eq-eqb n 0 t.0) ∙ ap Some t.1))
      by_value n b h (Some d) is c =
          let same : d ≡ b = let x : Some d ≡ Some b = sym (look_front n d chosen ((0, false) ∷ []) is) ∙ h in cc in
          (0, ap (λ p. if p then Some (choice n) else if nat_eq n 0 then Some false else None) c ∙ ap Some (agrees n d is ∙ same))

  some_choice : Agrees (λ n. or_false (look n chosen)) chosen
  some_choice n b h = ap or_false h

  -- the test of one choice of values
  pub same_leaf : (told : List (ℕ × Bool)) (old new : Row) (b : Bool) → Covers over [] chosen
      → ((choice : ℕ → Bool) → IsTold known over choice (chosen ++ (0, false) ∷ []) → IsTold known over choice told)
      → IsFull known told → (b ≡ true) ↔ SameTold told old new → (b ≡ true) ↔ SameForAll known over chosen old new
  same_leaf told old new b covers grown full is = (
    (λ yes choice agrees. (same_told known over choice told (grown choice (chosen_told choice covers agrees)) full old new).0 (is.0 yes)),
    (λ all.
        let choice : ℕ → Bool = λ n. or_false (look n chosen) in
        is.1 ((same_told known over choice told (grown choice (chosen_told choice covers some_choice)) full old new).1 (all choice some_choice))),
  )

  pub same_leaf_in : (begun told seen : List (ℕ × Bool)) (old new : Row) (b : Bool) → begun ≡ chosen ++ (0, false) ∷ [] → Covers over [] chosen
      → ((over' : List ℕ) (choice : ℕ → Bool) → IsTold known over' choice begun → IsTold known over' choice told)
      → IsFull known told → seen ≡ told → (b ≡ true) ↔ SameTold seen old new → (b ≡ true) ↔ SameForAll known over chosen old new
  same_leaf_in begun told seen old new b is covers grown full same test =
      same_leaf told old new b covers (λ choice t. grown over choice (subst (IsTold known over choice) (sym is) t)) full (subst (λ l. (b ≡ true) ↔ SameTold l old new) same test)

-- ---- one node more
module _ (over rest : List ℕ) (chosen : List (ℕ × Bool)) (x : ℕ) where
  pub covers_skip : (b : Bool) → look x chosen ≡ Some b → Covers over (x ∷ rest) chosen → Covers over rest chosen
  covers_skip b is covers n = covers n ∙ go (nat_eq x n) refl (has_node rest n)
    where
      go : (q : Bool) → nat_eq x n ≡ q → (r : Bool) → ((q || r) || is_some (look n chosen)) ≡ (r || is_some (look n chosen))
      go false e r = refl
      go true e true = refl
      go true e false = ap is_some (sym (subst (λ k. look k chosen ≡ Some b) (eqb-true x n e) is))

  pub covers_more : (b : Bool) → Covers over (x ∷ rest) chosen → Covers over rest ((x, b) ∷ chosen)
  covers_more b covers n = covers n ∙ go (nat_eq x n) (has_node rest n)
    where
      go : (q r : Bool) → ((q || r) || is_some (look n chosen)) ≡ (r || is_some (if q then Some b else look n chosen))
      go false r = refl
      go true true = refl
      go true false = refl

  -- both values of the node, or one for all
  pub same_both : (known : ℕ → Option Row) (old new : Row) → look x chosen ≡ None → SameForAll known over ((x, false) ∷ chosen) old new → SameForAll known over ((x, true) ∷ chosen) old new → SameForAll known over chosen old new
  same_both known old new none low high choice agrees = go (choice x) refl
    where
      agrees_more : (b : Bool) → choice x ≡ b → Agrees choice ((x, b) ∷ chosen)
      agrees_more b e n c h = elim (cases_eq n x) [
        | inl same ↦
            let here : look n ((x, b) ∷ chosen) ≡ Some b = subst (λ k. look k ((x, b) ∷ chosen) ≡ Some b) (sym same) (look_here x b chosen) in
            let equal : b ≡ c = let y : Some b ≡ Some c = sym here ∙ h in cc in
            ap choice same ∙ (e ∙ equal)
        | inr ne ↦ agrees n c (sym (look_there n x b chosen ne) ∙ h)
      ]

      go : (b : Bool) → choice x ≡ b → SameFor known over choice old new
      go false e = low choice (agrees_more false e)
      go true e = high choice (agrees_more true e)

  pub same_one : (known : ℕ → Option Row) (old new : Row) (b : Bool) → look x chosen ≡ None → SameForAll known over chosen old new → SameForAll known over ((x, b) ∷ chosen) old new
  same_one known old new b none all choice agrees =
      all choice (λ n c h. agrees n c (look_there n x b chosen (λ same. let no : look n chosen ≡ None = subst (λ k. look k chosen ≡ None) (sym same) none in absurd (cc)) ∙ h))

-- at the start all nodes are left, and no value is chosen
pub covers_first : (over : List ℕ) → Covers over over []
covers_first over n = go (has_node over n)
  where
    go : (b : Bool) → b ≡ (b || false)
    go true = refl
    go false = refl

pub same_from_all : (known : ℕ → Option Row) (over : List ℕ) (old new : Row) → SameForAll known over [] old new ↔ ((choice : ℕ → Bool) → SameFor known over choice old new)
same_from_all known over old new = ((λ all choice. all choice (λ n b h. absurd (cc))), (λ all choice agrees. all choice))

-- ---- the steps over the nodes of `over`
pub none_left : (xs : List ℕ) → length xs ≡ 0 → xs ≡ []
none_left [] h = refl
none_left (x ∷ xs) h = absurd (omega arith)

module _ (known : ℕ → Option Row) (old new : Row) (over rest more : List ℕ) (chosen seen made : List (ℕ × Bool)) (x : ℕ) where
  pub covers_next : rest ≡ x ∷ more → Covers over rest chosen → Covers over (x ∷ more) chosen
  covers_next is covers = subst (λ l. Covers over l chosen) is covers

  is_told : is_some (look x chosen) ≡ true → (b : Bool) × (look x chosen ≡ Some b)
  is_told h = go (look x chosen) refl h
    where
      go : (o : Option Bool) → look x chosen ≡ o → is_some o ≡ true → (b : Bool) × (look x chosen ≡ Some b)
      go None e h = absurd (cc)
      go (Some b) e h = (b, e)

  isnt_told : is_some (look x chosen) ≡ false → look x chosen ≡ None
  isnt_told h = go (look x chosen) refl h
    where
      go : (o : Option Bool) → look x chosen ≡ o → is_some o ≡ false → look x chosen ≡ None
      go None e h = e
      go (Some b) e h = absurd (cc)

  pub skipped : rest ≡ x ∷ more → is_some (look x chosen) ≡ true → Covers over rest chosen → Covers over more chosen
  skipped is told covers = let t = is_told told in covers_skip over more chosen x t.0 t.1 (covers_next is covers)

  pub chosen_more : (b : Bool) → rest ≡ x ∷ more → made ≡ (x, b) ∷ chosen → seen ≡ made → Covers over rest chosen → Covers over more seen
  chosen_more b is one same covers = subst (Covers over more) (sym (same ∙ one)) (covers_more over more chosen x b (covers_next is covers))

  pub low_differs : is_some (look x chosen) ≡ false → made ≡ (x, false) ∷ chosen → seen ≡ made → (low : Bool) → low ≡ false → (low ≡ true) ↔ SameForAll known over seen old new → (false ≡ true) ↔ SameForAll known over chosen old new
  low_differs none one same low differs test = (
    (λ no. absurd (cc)),
    (λ all. sym differs ∙ test.1 (subst (λ l. SameForAll known over l old new) (sym (same ∙ one)) (same_one over more chosen x known old new false (isnt_told none) all))),
  )

  pub high_decides : is_some (look x chosen) ≡ false → (made' seen' : List (ℕ × Bool)) → made ≡ (x, false) ∷ chosen → seen ≡ made → made' ≡ (x, true) ∷ chosen → seen' ≡ made' → (low high : Bool) → low ≡ true
      → (low ≡ true) ↔ SameForAll known over seen old new → (high ≡ true) ↔ SameForAll known over seen' old new → (high ≡ true) ↔ SameForAll known over chosen old new
  high_decides none made' seen' one same one' same' low high is_same test test' = (
    (λ yes. same_both over more chosen x known old new (isnt_told none)
        (subst (λ l. SameForAll known over l old new) (same ∙ one) (test.0 is_same))
        (subst (λ l. SameForAll known over l old new) (same' ∙ one') (test'.0 yes))),
    (λ all. test'.1 (subst (λ l. SameForAll known over l old new) (sym (same' ∙ one')) (same_one over more chosen x known old new true (isnt_told none) all))),
  )

-- ---- by the rows that a view tells
pub decides_same_in : (v : View) (over : List ℕ) (old new : Row) (rows : List (ℕ × Row)) (b : Bool) → rows ≡ v.rows → (b ≡ true) ↔ ((choice : ℕ → Bool) → SameFor (λ n. look n rows) over choice old new) → (b ≡ true) ↔ SameValue v over old new
decides_same_in v over old new rows b e h = subst (λ l. (b ≡ true) ↔ ((choice : ℕ → Bool) → SameFor (λ n. look n l) over choice old new)) e h
