-- Sums of powers of two: where numbers of a list fit under a height, they still do once the two least were joined.
use Rattle.std.proofs.Common.{◌≡◌, ℕ, ◌+◌, ◌-◌, ◌*◌, ◌^◌, ◌<◌, ◌≤◌, List, [], ◌∷◌, ap, ◌∙◌, arith, inl, inr, All}
use Rattle.std.specs.List.{sum_by}
use Rattle.std.proofs.lemmas.Bool.{cases_lt}
use Rattle.std.proofs.lemmas.List.Elements.{All-head, All-tail}
use Rattle.std.proofs.lemmas.List.Sums.{sum_by-cons}
use Rattle.std.proofs.lemmas.Nat.{pow-add}
use Rattle.std.proofs.Math.Nat.{pow-le-pow_right, mul-add, mul-le-mul_left, one-le-pow}
use Rattle.std.proofs.Math.Pow.{pow-lt}

pub power_positive : (n : ℕ) → 1 ≤ 2 ^ n
power_positive n = one-le-pow n 2 (omega arith)

pub power_rises : (i j : ℕ) → i ≤ j → 2 ^ i ≤ 2 ^ j
power_rises i j h = pow-le-pow_right {n = 2} (omega arith) h

pub below_by_power : (i j : ℕ) → 2 ^ i ≤ 2 ^ j → i ≤ j
below_by_power i j h = elim (cases_lt j i) [
  | inl lt ↦ absurd (let p : 2 ^ j < 2 ^ i = pow-lt lt in omega arith)
  | inr ge ↦ ge
]

pub power_double : (n : ℕ) → 2 ^ (n + 1) ≡ 2 ^ n + 2 ^ n
power_double n = let e : 2 ^ (n + 1) ≡ 2 ^ n * 2 ^ 1 = pow-add 2 n 1 in omega (arith, e)

power_split : (y d : ℕ) → y ≤ d → 2 ^ d ≡ 2 ^ y * 2 ^ (d - y)
power_split y d h = ap (λ k. 2 ^ k) (let e : d ≡ y + (d - y) = omega arith in e) ∙ pow-add 2 y (d - y)

-- numbers of at least y: their powers sum up to a multiple of the power of y
pub multiple : {X : Type 0} (level : X → ℕ) (xs : List X) (y : ℕ) → All (λ x. y ≤ level x) xs → (q : ℕ) × (sum_by (λ x. 2 ^ level x) xs ≡ 2 ^ y * q)
multiple level [] y h = (0, omega arith)
multiple {X} level (x ∷ xs) y h =
    let more = multiple level xs y (All-tail (λ (z : X). y ≤ level z) x xs h) in
    let here = power_split y (level x) (All-head (λ (z : X). y ≤ level z) x xs h) in
    let add = mul-add (2 ^ y) (2 ^ (level x - y)) more.0 in
    let whole = sum_by-cons (λ (z : X). 2 ^ level z) x xs in
    (2 ^ (level x - y) + more.0, omega (arith, whole, here, more.1, add))

-- the two least of some, x and y, are joined to one of at most y + 1
pub two_least : (x y z q d : ℕ) → x ≤ y → z ≤ y + 1 → 2 ^ x + (2 ^ y + 2 ^ y * q) ≤ 2 ^ d → 2 ^ z + 2 ^ y * q ≤ 2 ^ d
two_least x y z q d xy zy h = elim (cases_lt y d) [
  | inr ge ↦ absurd (let p = power_rises d y ge in let one = power_positive x in omega arith)
  | inl lt ↦
      let one = power_positive x in
      let whole : 2 ^ d ≡ 2 ^ y * 2 ^ (d - y) = power_split y d (omega arith) in
      let least : q + 2 ≤ 2 ^ (d - y) = elim (cases_lt (2 ^ (d - y)) (q + 2)) [
        | inr ge ↦ ge
        | inl small ↦ absurd (
            let up : 2 ^ y * 2 ^ (d - y) ≤ 2 ^ y * (q + 1) = mul-le-mul_left (2 ^ y) (omega arith) in
            let parts : 2 ^ y * (q + 1) ≡ 2 ^ y * q + 2 ^ y * 1 = mul-add (2 ^ y) q 1 in
            omega arith)
      ] in
      let up : 2 ^ y * (q + 2) ≤ 2 ^ y * 2 ^ (d - y) = mul-le-mul_left (2 ^ y) least in
      let parts : 2 ^ y * (q + 2) ≡ 2 ^ y * q + 2 ^ y * 2 = mul-add (2 ^ y) q 2 in
      let top : 2 ^ z ≤ 2 ^ (y + 1) = power_rises z (y + 1) zy in
      let twice = power_double y in
      omega arith
]
