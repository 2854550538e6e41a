-- Numbers that stand once in a list.
use Rattle.std.proofs.Common.{◌≡◌, ◌≢◌, ℕ, ◌&&◌, ◌||◌, not, nat_eq, Bool, true, false, List, [], ◌∷◌, ◌++◌, refl, sym, ap, ◌∙◌, inl, inr}
use Rattle.std.proofs.lemmas.Bool.{and_parts, and_from, or_left, or_right, or_parts, or_from, both_ways, not-true, not_from_false, false_from_ne_true}
use Rattle.std.proofs.lemmas.Bool.Decides.{eqb_tells}
use Rattle.syn_lists.specs.Numbers.{has_number, distinct_numbers}

pub has_number-append : (xs ys : List ℕ) (i : ℕ) → has_number (xs ++ ys) i ≡ (has_number xs i || has_number ys i)
has_number-append [] ys i = refl
has_number-append (x ∷ xs) ys i = ap (λ t. nat_eq x i || t) (has_number-append xs ys i) ∙ sym (or_assoc (nat_eq x i) (has_number xs i) (has_number ys i))
  where
    or_assoc : (a b c : Bool) → ((a || b) || c) ≡ (a || (b || c))
    or_assoc true b c = refl
    or_assoc false b c = refl

pub or_none : (b : Bool) → (b || false) ≡ b
or_none true = refl
or_none false = refl

pub number_same : (n : ℕ) → nat_eq n n ≡ true
number_same n = elim (eqb_tells n n) [ inl (t, e) ↦ t | inr (t, e) ↦ absurd (e refl) ]

pub number_other : (n i : ℕ) → i ≢ n → nat_eq n i ≡ false
number_other n i ne = elim (eqb_tells n i) [ inl (t, e) ↦ absurd (ne (sym e)) | inr (t, e) ↦ t ]

-- one more number at the end
pub has_last : (ns : List ℕ) (n : ℕ) → has_number (ns ++ n ∷ []) n ≡ true
has_last ns n = has_number-append ns (n ∷ []) n ∙ or_right (has_number ns n) (nat_eq n n || false) (or_left (nat_eq n n) false (number_same n))

pub has_other : (ns : List ℕ) (n i : ℕ) → i ≢ n → has_number (ns ++ n ∷ []) i ≡ has_number ns i
has_other ns n i ne = has_number-append ns (n ∷ []) i ∙ ap (λ b. has_number ns i || (b || false)) (number_other n i ne) ∙ or_none (has_number ns i)

pub same_number : (n i : ℕ) → nat_eq n i ≡ true → n ≡ i
same_number n i h = elim (eqb_tells n i) [ inl (t, e) ↦ e | inr (t, e) ↦ absurd (both_ways (nat_eq n i) t h) ]

pub once_front : (front : List ℕ) (t : ℕ) → distinct_numbers (front ++ t ∷ []) ≡ true → (distinct_numbers front ≡ true) × (has_number front t ≡ false)
once_front [] t h = (refl, refl)
once_front (x ∷ xs) t h =
    let parts = and_parts (not (has_number (xs ++ t ∷ []) x)) (distinct_numbers (xs ++ t ∷ [])) h in
    let (rest, away) = once_front xs t parts.1 in
    let apart = or_parts (has_number xs x) (nat_eq t x || false) (sym (has_number-append xs (t ∷ []) x) ∙ not-true (has_number (xs ++ t ∷ []) x) parts.0) in
    let other : nat_eq x t ≡ false = false_from_ne_true (nat_eq x t) (λ e. both_ways (nat_eq t x) (or_parts (nat_eq t x) false apart.1).0 (ap (λ k. nat_eq k x) (sym (same_number x t e)) ∙ number_same x)) in
    (and_from (not (has_number xs x)) (distinct_numbers xs) (not_from_false (has_number xs x) apart.0) rest, or_from (nat_eq x t) (has_number xs t) other away)

pub once_more : (ns : List ℕ) (n : ℕ) → distinct_numbers ns ≡ true → has_number ns n ≡ false → distinct_numbers (ns ++ n ∷ []) ≡ true
once_more [] n d h = refl
once_more (x ∷ xs) n d h =
    let parts = and_parts (not (has_number xs x)) (distinct_numbers xs) d in
    let away = or_parts (nat_eq x n) (has_number xs n) h in
    let other : nat_eq n x ≡ false = false_from_ne_true (nat_eq n x) (λ e. both_ways (nat_eq x n) away.0 (ap (λ k. nat_eq k n) (sym (same_number n x e)) ∙ number_same n)) in
    and_from (not (has_number (xs ++ n ∷ []) x)) (distinct_numbers (xs ++ n ∷ []))
    (not_from_false (has_number (xs ++ n ∷ []) x) (has_number-append xs (n ∷ []) x ∙ or_from (has_number xs x) (nat_eq n x || false) (not-true (has_number xs x) parts.0) (ap (λ b. b || false) other)))
    (once_more xs n parts.1 away.1)
