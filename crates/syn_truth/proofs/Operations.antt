-- What each operation leaves of a word at the minterm of a list of values.
use Rattle.std.proofs.Common.{◌≡◌, ℕ, suc, ◌+◌, ◌-◌, ◌*◌, ◌/◌, ◌%◌, ◌^◌, ◌<◌, ◌≤◌, min, max, cond, Bool, true, false, not, List, length, get_or, take, nat_eq, ◌&&◌, refl, sym, subst, ap, ap₂, ◌∙◌, arith, bit_and, bit_or}
use Rattle.std.proofs.Math.ListN.{set}
use Rattle.std.proofs.Math.Nat.{pow-le-pow_right, pow-suc}
use Rattle.std.proofs.lemmas.Nat.{or_lt, shl_below, shl_whole}
use Rattle.std.proofs.lemmas.List.{length-take-le}
use Rattle.std.proofs.lemmas.Nat.Bits.{bit_at_and, bit_at_or, bit_at_ones, bit_at_above, bit_at-lt}
use Rattle.std.specs.Int.{bit_at}
use Rattle.syn_truth.specs.Truth.{digit, minterm_of}
use Rattle.syn_truth.specs.Words.{IsMask}
use Rattle.syn_truth.proofs.Minterms.{minterm_below, bit_at-minterm_of, minterm_of-set, minterm_of-last}
use Rattle.syn_truth.proofs.Shifts.{bit_at_shl_low, bit_at_shl_high, kept_high, kept_low, moved_down, moved_up}

pub minterm_fits : (xs : List Bool) → length xs ≤ 7 → minterm_of xs < 128
minterm_fits xs h = omega (arith, minterm_below xs, pow-le-pow_right {n = 2} (omega arith) h)

-- the mask of all minterms changes none of them
pub bit_at_masked : (n w m : ℕ) → m < w → bit_at (bit_and n (2 ^ w - 1)) m ≡ bit_at n m
bit_at_masked n w m l =
    bit_at_and n (2 ^ w - 1) m ∙ ap (λ b. min (bit_at n m) b) (bit_at_ones w m l) ∙ omega (arith, bit_at-lt n m)

-- ---- values of bits
pub set_bit : (x : Bool) → nat_eq (digit x) 1 ≡ x
set_bit true = refl
set_bit false = refl

both_bits : (a b : ℕ) → a < 2 → b < 2 → nat_eq (min a b) 1 ≡ (nat_eq a 1 && nat_eq b 1)
both_bits a b h k = grind arith

other_bit : (a : ℕ) → a < 2 → nat_eq ((a + 1) % 2) 1 ≡ not (nat_eq a 1)
other_bit a h = grind arith

pub and_at : (a b m : ℕ) → nat_eq (bit_at (bit_and a b) m) 1 ≡ (nat_eq (bit_at a m) 1 && nat_eq (bit_at b m) 1)
and_at a b m = ap (λ x. nat_eq x 1) (bit_at_and a b m) ∙ both_bits _ _ (bit_at-lt a m) (bit_at-lt b m)

-- ---- cofactors: the part that stays and the part that moves
pick_true : (n m there p : ℕ) (x : Bool) → there + digit x * p ≡ m + 1 * p → max (min (bit_at n m) (digit x)) (min (bit_at n (p + m)) (1 - digit x)) ≡ bit_at n there
pick_true n m there p true e = let same : m ≡ there = omega arith in omega (arith, bit_at-lt n m) ∙ ap (bit_at n) same
pick_true n m there p false e = let same : p + m ≡ there = omega arith in omega (arith, bit_at-lt n (p + m)) ∙ ap (bit_at n) same

pick_false : (n m there p : ℕ) (x : Bool) → there + digit x * p ≡ m + 0 * p → max (min (bit_at n m) (1 - digit x)) (min (bit_at n (m - p)) (digit x)) ≡ bit_at n there
pick_false n m there p true e = let same : m - p ≡ there = omega arith in omega (arith, bit_at-lt n (m - p)) ∙ ap (bit_at n) same
pick_false n m there p false e = let same : m ≡ there = omega arith in omega (arith, bit_at-lt n m) ∙ ap (bit_at n) same

pick_chosen : (a b m : ℕ) (x : Bool) → max (min (bit_at a m) (1 - digit x)) (min (bit_at b m) (digit x)) ≡ bit_at (cond x b a) m
pick_chosen a b m true = omega (arith, bit_at-lt b m)
pick_chosen a b m false = omega (arith, bit_at-lt a m)

pick_flipped : (n m there p : ℕ) (x : Bool) → there + digit x * p ≡ m + digit (not x) * p → max (min (bit_at n (p + m)) (1 - digit x)) (min (bit_at n (m - p)) (digit x)) ≡ bit_at n there
pick_flipped n m there p true e = let same : m - p ≡ there = omega arith in omega (arith, bit_at-lt n (m - p)) ∙ ap (bit_at n) same
pick_flipped n m there p false e = let same : p + m ≡ there = omega arith in omega (arith, bit_at-lt n (p + m)) ∙ ap (bit_at n) same

module _ (n word i : ℕ) (xs : List Bool) (mask : IsMask word i) (within : i < length xs) (few : length xs ≤ 7) where
  fits : minterm_of xs < 128
  fits = minterm_fits xs few

  small : i < 7
  small = omega arith

  value : bit_at (minterm_of xs) i ≡ digit (get_or xs i false)
  value = bit_at-minterm_of xs i

  pub cofactor_true_at : bit_at (bit_or (bit_and n word) (bit_and n word / 2 ^ (2 ^ i))) (minterm_of xs) ≡ bit_at n (minterm_of (set xs i true))
  cofactor_true_at =
      bit_at_or (bit_and n word) (bit_and n word / 2 ^ (2 ^ i)) (minterm_of xs)
      ∙ ap₂ max (kept_high n word i (minterm_of xs) mask fits) (moved_down n word i (minterm_of xs) mask small fits)
      ∙ ap (λ d. max (min (bit_at n (minterm_of xs)) d) (min (bit_at n (2 ^ i + minterm_of xs)) (1 - d))) value
      ∙ pick_true n _ _ (2 ^ i) (get_or xs i false) (minterm_of-set xs i true within)

  pub cofactor_false_at : bit_at (bit_or (bit_and n (2 ^ 128 - 1 - word)) (bit_and n (2 ^ 128 - 1 - word) * 2 ^ (2 ^ i) % 2 ^ 128)) (minterm_of xs) ≡ bit_at n (minterm_of (set xs i false))
  cofactor_false_at =
      bit_at_or (bit_and n (2 ^ 128 - 1 - word)) (bit_and n (2 ^ 128 - 1 - word) * 2 ^ (2 ^ i) % 2 ^ 128) (minterm_of xs)
      ∙ ap₂ max (kept_low n word i (minterm_of xs) mask fits) (moved_up n word i (minterm_of xs) mask small fits)
      ∙ ap (λ d. max (min (bit_at n (minterm_of xs)) (1 - d)) (min (bit_at n (minterm_of xs - 2 ^ i)) d)) value
      ∙ pick_false n _ _ (2 ^ i) (get_or xs i false) (minterm_of-set xs i false within)

  pub flip_at : bit_at (bit_or (bit_and n word / 2 ^ (2 ^ i)) (bit_and n (2 ^ 128 - 1 - word) * 2 ^ (2 ^ i) % 2 ^ 128)) (minterm_of xs) ≡ bit_at n (minterm_of (set xs i (not (get_or xs i false))))
  flip_at =
      bit_at_or (bit_and n word / 2 ^ (2 ^ i)) (bit_and n (2 ^ 128 - 1 - word) * 2 ^ (2 ^ i) % 2 ^ 128) (minterm_of xs)
      ∙ ap₂ max (moved_down n word i (minterm_of xs) mask small fits) (moved_up n word i (minterm_of xs) mask small fits)
      ∙ ap (λ d. max (min (bit_at n (2 ^ i + minterm_of xs)) (1 - d)) (min (bit_at n (minterm_of xs - 2 ^ i)) d)) value
      ∙ pick_flipped n _ _ (2 ^ i) (get_or xs i false) (minterm_of-set xs i (not (get_or xs i false)) within)

  pub chosen_at : (other : ℕ) → bit_at (bit_or (bit_and n (2 ^ 128 - 1 - word)) (bit_and other word)) (minterm_of xs) ≡ bit_at (cond (get_or xs i false) other n) (minterm_of xs)
  chosen_at other =
      bit_at_or (bit_and n (2 ^ 128 - 1 - word)) (bit_and other word) (minterm_of xs)
      ∙ ap₂ max (kept_low n word i (minterm_of xs) mask fits) (kept_high other word i (minterm_of xs) mask fits)
      ∙ ap (λ d. max (min (bit_at n (minterm_of xs)) (1 - d)) (min (bit_at other (minterm_of xs)) d)) value
      ∙ pick_chosen n other (minterm_of xs) (get_or xs i false)

-- ---- one variable more: a copy of the table above itself
pick_half : (n m p : ℕ) (x : Bool) → m < p → n < 2 ^ p → m + digit x * p < 128 → bit_at (bit_or n (n * 2 ^ p % 2 ^ 128)) (m + digit x * p) ≡ bit_at n m
pick_half n m p true h k l =
    let back : m + 1 * p - p ≡ m = omega arith in
    bit_at_or n (n * 2 ^ p % 2 ^ 128) (m + 1 * p)
    ∙ ap₂ max (bit_at_above n p (m + 1 * p) k (omega arith)) (bit_at_shl_high n p 128 (m + 1 * p) l (omega arith) ∙ ap (bit_at n) back)
    ∙ omega (arith, bit_at-lt n m)
pick_half n m p false h k l =
    ap (bit_at (bit_or n (n * 2 ^ p % 2 ^ 128))) (omega arith)
    ∙ bit_at_or n (n * 2 ^ p % 2 ^ 128) m
    ∙ ap (max (bit_at n m)) (bit_at_shl_low n p 128 m (omega arith) h)
    ∙ omega (arith, bit_at-lt n m)

pub widen_at : (n k : ℕ) (xs : List Bool) → k < 7 → length xs ≡ suc k → n < 2 ^ (2 ^ k) → bit_at (bit_or n (n * 2 ^ (2 ^ k) % 2 ^ 128)) (minterm_of xs) ≡ bit_at n (minterm_of (take k xs))
widen_at n k xs h l small =
    let last : minterm_of xs ≡ minterm_of (take k xs) + digit (get_or xs k false) * 2 ^ k = minterm_of-last xs k l in
    let len : length (take k xs) ≡ k = length-take-le k xs (omega arith) in
    let low : minterm_of (take k xs) < 2 ^ k = omega (arith, minterm_below (take k xs), ap (λ n. 2 ^ n) len) in
    ap (bit_at (bit_or n (n * 2 ^ (2 ^ k) % 2 ^ 128))) last
    ∙ pick_half n (minterm_of (take k xs)) (2 ^ k) (get_or xs k false) low small (omega (arith, last, minterm_fits xs (omega arith)))

pub widen_below : (n k : ℕ) → k < 7 → n < 2 ^ (2 ^ k) → bit_or n (n * 2 ^ (2 ^ k) % 2 ^ 128) < 2 ^ (2 ^ suc k)
widen_below n k h small =
    let p : ℕ = 2 ^ k in
    let twice : p + p ≡ 2 ^ suc k = omega (arith, pow-suc 2 k) in
    let few : 2 ^ suc k ≤ 2 ^ 7 = pow-le-pow_right (omega arith) h in
    let wide : p + p ≤ 128 = omega (arith, twice, few) in
    let grown : 2 ^ p ≤ 2 ^ (p + p) = pow-le-pow_right (omega arith) (omega arith) in
    let moved : n * 2 ^ p ≡ n * 2 ^ p % 2 ^ 128 = sym (shl_whole n p p 128 small wide) in
    let low : n < 2 ^ (p + p) = omega (arith, small, grown) in
    subst (λ (w : ℕ). bit_or n (n * 2 ^ p % 2 ^ 128) < 2 ^ w) twice
    (subst (λ (a : ℕ). bit_or n a < 2 ^ (p + p)) moved (or_lt (p + p) n (n * 2 ^ p) low (shl_below n p p small)))
