-- The least key of a function.
use Rattle.std.proofs.Common.{ℕ, zero, suc, ◌/◌, ◌%◌, ◌^◌, ◌<◌, ◌≤◌, ◌≡◌, min, ◌⊎◌, List, length, get_or, refl, sym, ap, subst, ◌∙◌, inl, inr, arith}
use Rattle.std.proofs.lemmas.Bool.{cases_eq, cases_lt}
use Rattle.std.proofs.lemmas.List.{get_or_read}
use Rattle.syn_npn.specs.declared.Transform.{Transform}
use Rattle.syn_npn.specs.Keys.{IsKeyed, canon_key, least_of}
use Rattle.syn_npn.specs.Permutations.{IsKey, key_at, neg_at, perm_at}
use Rattle.syn_npn.specs.Transforms.{IsCanon}
use Rattle.syn_npn.proofs.Keys.{image-first, image-least, key-parts}
use Rattle.syn_npn.proofs.Ordering.{IsCanon-from_places}

least_of-le : (n : ℕ) (g : ℕ → ℕ) (k : ℕ) → k ≤ n → least_of n g ≤ g k
unfolding least_of
least_of-le zero g k l = omega (arith, ap g (zero_only k l))
  where
    zero_only : (k : ℕ) → k ≤ 0 → k ≡ 0
    zero_only k l = omega arith
least_of-le (suc n) g k l =
    elim (cases_eq k (suc n)) [
      | inl e ↦ omega (arith, ap g e)
      | inr e ↦ omega (arith, least_of-le n g k (omega arith))
    ]

one_of : (a b : ℕ) → (min a b ≡ a) ⊎ (min a b ≡ b)
one_of a b = elim (cases_lt a b) [ inl l ↦ inl (omega arith) | inr l ↦ inr (omega arith) ]

least_of-one : (n : ℕ) (g : ℕ → ℕ) → (k : ℕ) × (k ≤ n) × (least_of n g ≡ g k)
unfolding least_of
least_of-one zero g = (0, omega arith, refl)
least_of-one (suc n) g =
    let before : (k : ℕ) × (k ≤ n) × (least_of n g ≡ g k) = least_of-one n g in
    elim (one_of (least_of n g) (g (suc n))) [
      | inl e ↦ (before.0, omega (arith, before.1), e ∙ before.2)
      | inr e ↦ (suc n, omega arith, e)
    ]

pub canon_key-le : (f k : ℕ) → k < 768 → canon_key f ≤ key_at f k
unfolding canon_key
canon_key-le f k l = least_of-le 767 (key_at f) k (omega arith)

pub canon_key-one : (f : ℕ) → IsKey f (canon_key f)
unfolding canon_key
canon_key-one f =
    let one : (k : ℕ) × (k ≤ 767) × (least_of 767 (key_at f) ≡ key_at f k) = least_of-one 767 (key_at f) in
    (one.0, omega (arith, one.1), one.2)

-- a key that is below each key is the least one
pub canon_key-is : (f key : ℕ) → IsKey f key → ((k : ℕ) → k < 768 → key ≤ key_at f k) → key ≡ canon_key f
canon_key-is f key (k, within, e) least =
    let other : IsKey f (canon_key f) = canon_key-one f in
    omega (arith, e, canon_key-le f k within, least other.0 other.1, other.2)

pub canon_key-parts : (f key : ℕ) → key ≡ canon_key f → (key / 1024 < 2 ^ 16) × (key % 1024 < 768)
canon_key-parts f key e =
    let parts = key-parts f (canon_key f) (canon_key-one f) in
    (omega (arith, e, parts.2), omega (arith, e, parts.1))

-- the class and the transform at the place
pub canon_key-canon : (f key : ℕ) (made : Transform) → key ≡ canon_key f → perm_at (key % 1024) ≡ made.perm → key % 1024 % 16 ≡ made.flips → neg_at (key % 1024) ≡ made.neg → IsCanon f (key / 1024) made
canon_key-canon f key made e perm flips neg =
    let is : IsKey f key = subst (λ (k : ℕ). IsKey f k) (sym e) (canon_key-one f) in
    let parts = key-parts f key is in
    IsCanon-from_places f (key / 1024) (key % 1024) made perm flips neg parts.0
    (λ k h. image-least f key k (omega (arith, e, canon_key-le f k h)) h)
    (λ k h. image-first f key k (omega (arith, e, canon_key-le f k (omega (arith, parts.1, h)))) h)

-- ---- a table of the least keys
pub read_key : (keys : List ℕ) (f key : ℕ) → IsKeyed keys → f < length keys → key ≡ get_or keys f key → key ≡ canon_key f
read_key keys f key keyed l e = get_or_read keys f key l e 0 ∙ keyed f l
