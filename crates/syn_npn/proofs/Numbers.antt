-- A number by its bits.
use Rattle.std.proofs.Common.{ℕ, zero, suc, ◌+◌, ◌*◌, ◌^◌, ◌-◌, ◌<◌, ◌≤◌, ◌≡◌, Bool, true, false, refl, ap, ap₂, not, add-one, ◌%◌, ◌∙◌, arith, inl, inr, sym}
use Rattle.std.specs.Prelude.{if◌then◌else◌, ◌==◌}
use Rattle.std.specs.Bool.{beq}
use Rattle.std.proofs.lemmas.Bool.{cases_lt, cond_both}
use Rattle.std.proofs.lemmas.Bool.Decides.{nat_tests}
use Rattle.std.proofs.lemmas.Nat.Bits.{bit_at_cat_low, bit_at_cat_high, same_from_bits_below, bit_at-lt}
use Rattle.std.proofs.Math.Nat.{pow-suc, pow-le-pow_right, zero-mul, mod-eq_of_lt}
use Rattle.std.proofs.lemmas.Nat.{one_shl, pow_pos}
use mir.Val.{bool_byte}
use Rattle.syn_npn.specs.Images.{differ, number_of, value_at}

pub number_of-lt : (n : ℕ) (test : ℕ → Bool) → number_of n test < 2 ^ n
number_of-lt zero test = omega arith
number_of-lt (suc n) test =
    let low = number_of-lt n test in
    let double = pow-suc 2 n in
    cond_both (test n) (2 ^ n) 0 (λ x. number_of n test + x < 2 ^ suc n) (λ _. omega arith) (λ _. omega arith)

placed : (b : Bool) (p r : ℕ) → r + (if b then p else 0) ≡ (if b then 1 else 0) * p + r
placed true p r = omega arith
placed false p r = omega arith

told : (b : Bool) → value_at (if b then 1 else 0) 0 ≡ b
told true = refl
told false = refl

value_at-placed_low : (b : Bool) (n r m : ℕ) → m < n → value_at (r + (if b then 2 ^ n else 0)) m ≡ value_at r m
value_at-placed_low b n r m l =
    ap (λ x. value_at x m) (placed b (2 ^ n) r) ∙ ap (λ x. x == 1) (bit_at_cat_low (if b then 1 else 0) n r m l)

value_at-placed_top : (b : Bool) (n r : ℕ) → r < 2 ^ n → value_at (r + (if b then 2 ^ n else 0)) n ≡ b
value_at-placed_top b n r l =
    let none : n - n ≡ 0 = omega arith in
    ap (λ x. value_at x n) (placed b (2 ^ n) r)
    ∙ ap (λ x. x == 1) (bit_at_cat_high (if b then 1 else 0) n r n l (omega arith))
    ∙ ap (value_at (if b then 1 else 0)) none
    ∙ told b

-- the number's bits are the test's answers
pub value_at-number_of : (n : ℕ) (test : ℕ → Bool) (m : ℕ) → m < n → value_at (number_of n test) m ≡ test m
value_at-number_of zero test m h = absurd (omega arith)
value_at-number_of (suc n) test m h =
    elim (cases_lt m n) [
      | inl l ↦ value_at-placed_low (test n) n (number_of n test) m l ∙ value_at-number_of n test m l
      | inr g ↦
          let e : m ≡ n = omega arith in
          ap (value_at (number_of (suc n) test)) e ∙ value_at-placed_top (test n) n (number_of n test) (number_of-lt n test) ∙ ap test (sym e)
    ]

pub differs : (a b : Bool) → not (beq a b) ≡ differ a b
differs true true = refl
differs true false = refl
differs false true = refl
differs false false = refl

shifted : (b : Bool) (n w : ℕ) → n < w → bool_byte b * 2 ^ n % 2 ^ w ≡ (if b then 2 ^ n else 0)
shifted true n w h = one_shl n w h
shifted false n w h = rw zero-mul (mod-eq_of_lt (pow_pos w))

two_pos : 0 < 2
two_pos = omega arith

-- one more bit: what a loop adds to the number so far
pub grown : (w n so_far : ℕ) (test : ℕ → Bool) (b : Bool) → n < w → so_far ≡ number_of n test → b ≡ test n → so_far + bool_byte b * 2 ^ n % 2 ^ w ≡ number_of (n + 1) test
grown w n so_far test b h e d =
    let bit = shifted b n w h ∙ ap (λ x. if x then 2 ^ n else 0) d in
    ap₂ (λ x y. x + y) e bit ∙ ap (λ k. number_of k test) (sym (add-one n))

pub grown-lt : (w n so_far : ℕ) (test : ℕ → Bool) (b : Bool) → n < w → so_far ≡ number_of n test → b ≡ test n → so_far + bool_byte b * 2 ^ n % 2 ^ w < 2 ^ w
grown-lt w n so_far test b h e d =
    let l : n + 1 ≤ w = omega arith in
    omega (arith, grown w n so_far test b h e d, number_of-lt (n + 1) test, pow-le-pow_right two_pos l)

-- two functions with the same values are equal
pub same_from_values : (f g : ℕ) → f < 2 ^ 16 → g < 2 ^ 16 → ((m : ℕ) → m < 16 → value_at f m ≡ value_at g m) → f ≡ g
same_from_values f g h k same = same_from_bits_below 16 f g h k (λ m l.
    let a = bit_at-lt f m in
    let b = bit_at-lt g m in
    let e = same m l in
    grind (arith, nat_tests))
