-- Signatures of cuts bound the size of their union.
use Rattle.std.proofs.Common.{◌≡◌, ℕ, zero, suc, ◌+◌, ◌*◌, ◌/◌, ◌%◌, ◌^◌, ◌<◌, ◌≤◌, ◌||◌, max, nat_eq, nat_lt, Bool, true, false, if◌then◌else◌, List, [], ◌∷◌, length, bit_or, count_ones, refl, sym, ap, ap₂, ◌∙◌, subst, arith}
use Rattle.std.specs.List.{list_any}
use Rattle.std.specs.Int.{bit_at}
use Rattle.std.specs.Int.Count.{ones_step}
use Rattle.std.specs.Int.Bits.{or_step}
use Rattle.std.proofs.lemmas.Bool.{eqb-true, eqb-false}
use Rattle.std.proofs.lemmas.Nat.{pow_pos, ones_cat, ones_le_self, or_lt, or_shr, pow_below, mod_below, shr_below}
use Rattle.std.proofs.lemmas.Nat.Bits.{bit_at_or, bit_at-pow_same, bit_at-pow_other, same_from_bits}
use Rattle.syn_cuts.specs.Cuts.{among, union}
use Rattle.syn_cuts.specs.Laws.{SignaturesBoundUnions}
use Rattle.syn_cuts.specs.Signatures.{signature, signature_with}

-- what one of the nodes of a union is, one of either list is

or_more : (a t r : Bool) → (a || (t || r)) ≡ ((a || t) || r)
or_more true t r = refl
or_more false t r = refl

or_same : (a t r : Bool) → (a || (t || r)) ≡ ((a || t) || (a || r))
or_same true t r = refl
or_same false t r = refl

or_turn : (b u r : Bool) → (b || (u || r)) ≡ (u || (b || r))
or_turn true true r = refl
or_turn true false r = refl
or_turn false true r = refl
or_turn false false r = refl

among_any : (p : ℕ → Bool) (x : ℕ) (rest : List ℕ → List ℕ) (t : Bool) → ((zs : List ℕ) → list_any p (rest zs) ≡ (t || list_any p zs)) → (ys : List ℕ) → list_any p (among x rest ys) ≡ ((p x || t) || list_any p ys)
among_any p x rest t f [] = ap (λ b. p x || b) (f []) ∙ or_more (p x) t false
among_any p x rest t f (y ∷ ys) = go (nat_lt x y) (nat_eq x y) refl (among_any p x rest t f ys)
  where
    go : (a b : Bool) → nat_eq x y ≡ b → list_any p (among x rest ys) ≡ ((p x || t) || list_any p ys)
        → list_any p (if a then x ∷ rest (y ∷ ys) else if b then x ∷ rest ys else y ∷ among x rest ys) ≡ ((p x || t) || (p y || list_any p ys))
    go true b e ih = ap (λ c. p x || c) (f (y ∷ ys)) ∙ or_more (p x) t (p y || list_any p ys)
    go false true e ih = ap (λ c. p x || c) (f ys) ∙ or_same (p x) t (list_any p ys) ∙ ap (λ k. (p x || t) || (p k || list_any p ys)) (eqb-true x y e)
    go false false e ih = ap (λ c. p y || c) ih ∙ or_turn (p y) (p x || t) (list_any p ys)

union_any : (p : ℕ → Bool) (xs ys : List ℕ) → list_any p (union xs ys) ≡ (list_any p xs || list_any p ys)
union_any p [] ys = refl
union_any p (x ∷ xs) ys = among_any p x (union xs) (list_any p xs) (λ zs. union_any p xs zs) ys

-- the bits of a signature

abbrev digit : Bool → ℕ
digit b = if b then 1 else 0

power_bit : (j i : ℕ) → bit_at (2 ^ j) i ≡ digit (nat_eq i j)
power_bit j i = go (nat_eq i j) refl
  where
    go : (b : Bool) → nat_eq i j ≡ b → bit_at (2 ^ j) i ≡ digit b
    go true e = subst (λ k. bit_at (2 ^ j) k ≡ 1) (sym (eqb-true i j e)) (bit_at-pow_same j)
    go false e = bit_at-pow_other j i (eqb-false i j e)

max_digits : (s : ℕ) (a b : Bool) → max (max s (digit a)) (digit b) ≡ max s (digit (a || b))
max_digits s true true = omega arith
max_digits s true false = omega arith
max_digits s false b = ap (λ k. max k (digit b)) (omega arith)

signature_bit : (xs : List ℕ) (s i : ℕ) → bit_at (signature_with s xs) i ≡ max (bit_at s i) (digit (list_any (λ x. nat_eq i (x % 64)) xs))
signature_bit [] s i = keeps (bit_at s i)
  where
    keeps : (n : ℕ) → n ≡ max n 0
    keeps n = omega arith
signature_bit (x ∷ xs) s i =
    let p : ℕ → Bool = λ y. nat_eq i (y % 64) in
    signature_bit xs (bit_or s (2 ^ (x % 64))) i
    ∙ ap (λ k. max k (digit (list_any p xs))) (bit_at_or s (2 ^ (x % 64)) i ∙ ap (max (bit_at s i)) (power_bit (x % 64) i))
    ∙ max_digits (bit_at s i) (p x) (list_any p xs)

both_digits : (z : ℕ) (a b : Bool) → max (max z (digit a)) (max z (digit b)) ≡ max z (digit (a || b))
both_digits z true true = omega arith
both_digits z true false = omega arith
both_digits z false true = omega arith
both_digits z false false = omega arith

signature_union : (c d : List ℕ) → bit_or (signature c) (signature d) ≡ signature (union c d)
signature_union c d = same_from_bits (bit_or (signature c) (signature d)) (signature (union c d)) each
  where
    each : (i : ℕ) → bit_at (bit_or (signature c) (signature d)) i ≡ bit_at (signature (union c d)) i
    each i =
        let p : ℕ → Bool = λ y. nat_eq i (y % 64) in
        bit_at_or (signature c) (signature d) i
        ∙ ap₂ max (signature_bit c 0 i) (signature_bit d 0 i)
        ∙ both_digits (bit_at 0 i) (list_any p c) (list_any p d)
        ∙ sym (signature_bit (union c d) 0 i ∙ ap (λ b. max (bit_at 0 i) (digit b)) (union_any p c d))

-- how many they are

pub ones_or : (k a b : ℕ) → a < 2 ^ k → b < 2 ^ k → count_ones (bit_or a b) ≤ count_ones a + count_ones b
ones_or zero a b la lb =
    let few = ones_le_self (bit_or a b) in
    let none : bit_or a b < 2 ^ 0 = or_lt 0 a b la lb in
    omega (arith, few, none)
ones_or (suc k) a b la lb =
    let ih = ones_or k (a / 2) (b / 2) (half k a la) (half k b lb) in
    let whole = ones_step (bit_or a b) in
    let left = ones_step a in
    let right = ones_step b in
    let rest : count_ones (bit_or a b / 2) ≡ count_ones (bit_or (a / 2) (b / 2)) = ap count_ones (or_shr a b 1) in
    let last = low (bit_or (a / 2) (b / 2)) (a % 2) (b % 2) (bit_or a b) (or_step a b) (mod_below a 2 (omega arith)) (mod_below b 2 (omega arith)) in
    omega (arith, ih, whole, left, right, rest, last)
  where
    half : (k n : ℕ) → n < 2 ^ suc k → n / 2 < 2 ^ k
    half k n l = shr_below n k 1 (subst (λ j. n < 2 ^ j) (omega arith) l)

    low : (h r s n : ℕ) → n ≡ h * 2 + max r s → r < 2 → s < 2 → n % 2 ≤ r + s
    low h r s n e lr ls = omega arith

power_ones : (j : ℕ) → count_ones (2 ^ j) ≤ 1
power_ones j =
    let whole = ones_cat j 1 0 (pow_pos j) in
    let one = ones_le_self 1 in
    let none = ones_le_self 0 in
    let same : count_ones (1 * 2 ^ j + 0) ≡ count_ones (2 ^ j) = ap count_ones (omega arith) in
    omega (arith, whole, one, none, same)

signature_few : (xs : List ℕ) (s : ℕ) → s < 2 ^ 64 → count_ones (signature_with s xs) ≤ count_ones s + length xs
signature_few [] s l = omega arith
signature_few (x ∷ xs) s l =
    let bit : 2 ^ (x % 64) < 2 ^ 64 = pow_below (x % 64) 64 (mod_below x 64 (omega arith)) in
    let ih = signature_few xs (bit_or s (2 ^ (x % 64))) (or_lt 64 s (2 ^ (x % 64)) l bit) in
    let more = ones_or 64 s (2 ^ (x % 64)) l bit in
    let one = power_ones (x % 64) in
    omega (arith, ih, more, one)

pub union_bits : (c d : List ℕ) → count_ones (bit_or (signature c) (signature d)) ≤ length (union c d)
union_bits c d =
    let few = signature_few (union c d) 0 (omega arith) in
    let none = ones_le_self 0 in
    let same = ap count_ones (signature_union c d) in
    omega (arith, few, none, same)

pub signatures_bound_unions : SignaturesBoundUnions
signatures_bound_unions k c d more = let few = union_bits c d in omega (arith, few, more)
