-- Lists of nodes, lists that tell of nodes, and seats read by their places.
use Rattle.std.proofs.Common.{◌≡◌, ◌≢◌, ◌⊎◌, ℕ, zero, suc, ◌<◌, ◌&&◌, ◌||◌, not, Bool, true, false, nat_eq, if◌then◌else◌, List, [], ◌∷◌, length, set, get_or, Some, None, refl, sym, ap, ◌∙◌, subst, arith, inl, inr, ⊎_elim}
use Rattle.std.proofs.lemmas.Bool.{eq-eqb, ne_eqb, eqb-false}
use mathlib.Core.Option.{some, some-injective, some-ne-none}
use lib.ListN.{get_elem?}
use Rattle.syn_rows.specs.Nodes.{has_node}
use Rattle.syn_core_laws.specs.Lists.{only, look, kept}
use Rattle.syn_rows.proofs.Nodes.{has_here, has_there, here_or_there}

-- ---- tests
pub and_left : (a b : Bool) → (a && b) ≡ true → a ≡ true
and_left true b h = refl
and_left false b h = h

pub and_right : (a b : Bool) → (a && b) ≡ true → b ≡ true
and_right true b h = h
and_right false b h = absurd (cc)

pub and_both : (a b : Bool) → a ≡ true → b ≡ true → (a && b) ≡ true
and_both true b p q = q
and_both false b p q = p

pub or_cases : (a b : Bool) → (a || b) ≡ true → (a ≡ true) ⊎ (b ≡ true)
or_cases true b h = inl refl
or_cases false b h = inr h

pub or_left : (a b : Bool) → a ≡ true → (a || b) ≡ true
or_left true b h = refl
or_left false b h = absurd (cc)

pub or_right : (a b : Bool) → b ≡ true → (a || b) ≡ true
or_right true b h = refl
or_right false b h = h

pub not_true : (b : Bool) → not b ≡ true → b ≡ false
not_true true h = absurd (cc)
not_true false h = refl

pub not_false : (b : Bool) → b ≡ false → not b ≡ true
not_false true h = absurd (cc)
not_false false h = refl

-- the node m is another than n
pub other_test : (n m : ℕ) → m ≢ n → not (nat_eq m n) ≡ true
other_test n m ne = not_false (nat_eq m n) (ne_eqb m n ne)

pub other_is : (n m : ℕ) → not (nat_eq m n) ≡ true → m ≢ n
other_is n m h = eqb-false m n (not_true (nat_eq m n) h)

pub same_test : (n : ℕ) → not (nat_eq n n) ≡ false
same_test n = ap not (eq-eqb n n refl)

-- a number that isn't 0 stands within the list
pub number_there : (l : List ℕ) (n : ℕ) → get_or l n 0 ≢ 0 → n < length l
number_there [] n h = absurd (h refl)
number_there (x ∷ xs) zero h = omega arith
number_there (x ∷ xs) (suc n) h = let rest : n < length xs = number_there xs n h in omega arith

-- ---- lists of nodes
pub has_only : (p : ℕ → Bool) (m : ℕ) (xs : List ℕ) → has_node (only p xs) m ≡ true → (has_node xs m ≡ true) × (p m ≡ true)
has_only p m [] h = absurd (cc)
has_only p m (x ∷ xs) h = go (p x) refl (has_only p m xs) h
  where
    go : (b : Bool) → p x ≡ b → (has_node (only p xs) m ≡ true → (has_node xs m ≡ true) × (p m ≡ true)) → has_node (if b then x ∷ only p xs else only p xs) m ≡ true → (has_node (x ∷ xs) m ≡ true) × (p m ≡ true)
    go true e ih h = elim (here_or_there x m (only p xs) h) [
      | inl same ↦ (subst (λ k. has_node (x ∷ xs) k ≡ true) (sym same) (has_here x xs), subst (λ k. p k ≡ true) (sym same) e)
      | inr r ↦ let t = ih r in (has_there x m xs t.0, t.1)
    ]
    go false e ih h = let t = ih h in (has_there x m xs t.0, t.1)

pub only_has : (p : ℕ → Bool) (m : ℕ) (xs : List ℕ) → has_node xs m ≡ true → p m ≡ true → has_node (only p xs) m ≡ true
only_has p m [] h pass = h
only_has p m (x ∷ xs) h pass = go (p x) refl (only_has p m xs)
  where
    go : (b : Bool) → p x ≡ b → (has_node xs m ≡ true → p m ≡ true → has_node (only p xs) m ≡ true) → has_node (if b then x ∷ only p xs else only p xs) m ≡ true
    go true e ih = elim (here_or_there x m xs h) [
      | inl same ↦ subst (λ k. has_node (x ∷ only p xs) k ≡ true) (sym same) (has_here x (only p xs))
      | inr r ↦ has_there x m (only p xs) (ih r pass)
    ]
    go false e ih = elim (here_or_there x m xs h) [
      | inl same ↦ let no : p m ≡ false = subst (λ k. p k ≡ false) (sym same) e in absurd (cc)
      | inr r ↦ ih r pass
    ]

-- ---- what is told of nodes
module _ {A : Type 0} where
  pub look_here : (n : ℕ) (a : A) (xs : List (ℕ × A)) → look n ((n, a) ∷ xs) ≡ Some a
  look_here n a xs = ap (λ b. if b then Some a else look n xs) (eq-eqb n n refl)

  pub look_there : (m n : ℕ) (a : A) (xs : List (ℕ × A)) → m ≢ n → look m ((n, a) ∷ xs) ≡ look m xs
  look_there m n a xs ne = ap (λ b. if b then Some a else look m xs) (ne_eqb n m (λ e. ne (sym e)))

  pub look_kept : (p : ℕ → Bool) (m : ℕ) (xs : List (ℕ × A)) → p m ≡ true → look m (kept p xs) ≡ look m xs
  look_kept p m [] pass = refl
  look_kept p m (x ∷ xs) pass = go (p x.0) refl (look_kept p m xs pass)
    where
      go : (b : Bool) → p x.0 ≡ b → look m (kept p xs) ≡ look m xs → look m (if b then x ∷ kept p xs else kept p xs) ≡ look m (x ∷ xs)
      go true e ih = ap (λ r. if nat_eq x.0 m then Some x.1 else r) ih
      go false e ih = ih ∙ sym (ap (λ b. if b then Some x.1 else look m xs) (ne_eqb x.0 m (λ same. let no : p m ≡ false = subst (λ k. p k ≡ false) same e in absurd (cc))))

  pub look_dropped : (p : ℕ → Bool) (m : ℕ) (xs : List (ℕ × A)) → p m ≡ false → look m (kept p xs) ≡ None
  look_dropped p m [] fails = refl
  look_dropped p m (x ∷ xs) fails = go (p x.0) refl (look_dropped p m xs fails)
    where
      go : (b : Bool) → p x.0 ≡ b → look m (kept p xs) ≡ None → look m (if b then x ∷ kept p xs else kept p xs) ≡ None
      go true e ih = ap (λ b. if b then Some x.1 else look m (kept p xs)) (ne_eqb x.0 m (λ same. let no : p m ≡ true = subst (λ k. p k ≡ true) same e in absurd (cc))) ∙ ih
      go false e ih = ih

  pub kept_look : (p : ℕ → Bool) (m : ℕ) (a : A) (xs : List (ℕ × A)) → look m (kept p xs) ≡ Some a → (look m xs ≡ Some a) × (p m ≡ true)
  kept_look p m a xs h = go (p m) refl
    where
      go : (b : Bool) → p m ≡ b → (look m xs ≡ Some a) × (p m ≡ true)
      go true e = (sym (look_kept p m xs e) ∙ h, e)
      go false e = let no : look m (kept p xs) ≡ None = look_dropped p m xs e in absurd (cc)

  -- ---- places
  pub at_set : (l : List A) (i j : ℕ) (a b : A) → get_elem? (set l i a) j ≡ some b → ((j ≡ i) × (a ≡ b)) ⊎ ((j ≢ i) × (get_elem? l j ≡ some b))
  at_set [] i j a b e = absurd (some-ne-none b (sym e))
  at_set (x ∷ xs) zero zero a b e = inl (refl, some-injective a b e)
  at_set (x ∷ xs) zero (suc j) a b e = inr ((λ h. omega arith), e)
  at_set (x ∷ xs) (suc i) zero a b e = inr ((λ h. omega arith), e)
  at_set (x ∷ xs) (suc i) (suc j) a b e = ⊎_elim (λ t. inl (ap suc t.0, t.1)) (λ t. let n = t.0 in inr ((λ h. n (omega arith)), t.1)) (at_set xs i j a b e)

  pub at_one : (l : List A) (i : ℕ) (a b : A) → get_elem? l i ≡ some a → get_elem? l i ≡ some b → a ≡ b
  at_one l i a b p q = some-injective a b (sym p ∙ q)

  pub set_else : (l : List A) (i j : ℕ) (a : A) → j ≢ i → get_elem? (set l i a) j ≡ get_elem? l j
  set_else [] i j a n = refl
  set_else (x ∷ xs) zero zero a n = absurd (n refl)
  set_else (x ∷ xs) zero (suc j) a n = refl
  set_else (x ∷ xs) (suc i) zero a n = refl
  set_else (x ∷ xs) (suc i) (suc j) a n = set_else xs i j a (λ e. n (ap suc e))

  pub set_there : (l : List A) (i : ℕ) (b a : A) → get_elem? l i ≡ some b → get_elem? (set l i a) i ≡ some a
  set_there [] i b a e = absurd (some-ne-none b (sym e))
  set_there (x ∷ xs) zero b a e = refl
  set_there (x ∷ xs) (suc i) b a e = set_there xs i b a e
