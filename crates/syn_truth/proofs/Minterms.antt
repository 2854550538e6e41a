-- Lists of values as minterms.
use Rattle.std.proofs.Common.{◌≡◌, ℕ, zero, suc, ◌+◌, ◌*◌, ◌/◌, ◌%◌, ◌^◌, ◌<◌, Bool, true, false, List, [], ◌∷◌, length, get_or, take, nat_eq, refl, sym, ap, ap₂, ◌∙◌, arith}
use Rattle.std.proofs.Math.ListN.{set}
use Rattle.std.proofs.Math.Nat.{pow-suc}
use Rattle.std.proofs.lemmas.List.{get_or-set_other, length-set, set_comm}
use Rattle.std.proofs.lemmas.List.Edits.{swap_is}
use Rattle.std.proofs.lemmas.Nat.Bits.{bit_at_lowest, bit_at-suc, bit_at-zero}
use Rattle.std.specs.Int.{bit_at}
use Rattle.std.specs.List.{swap}
use Rattle.syn_truth.specs.Truth.{digit, minterm_of}

pub digit_below : (x : Bool) → digit x < 2
digit_below true = omega arith
digit_below false = omega arith

pub minterm_below : (xs : List Bool) → minterm_of xs < 2 ^ length xs
minterm_below [] = omega arith
minterm_below (x ∷ xs) = omega (arith, minterm_below xs, digit_below x, pow-suc 2 (length xs))

front : (d m : ℕ) → d < 2 → (d + 2 * m) % 2 ≡ d
front d m h = omega arith

rest : (d m : ℕ) → d < 2 → (d + 2 * m) / 2 ≡ m
rest d m h = omega arith

-- bit i of a minterm is the value of variable i
pub bit_at-minterm_of : (xs : List Bool) (i : ℕ) → bit_at (minterm_of xs) i ≡ digit (get_or xs i false)
bit_at-minterm_of [] i = bit_at-zero i
bit_at-minterm_of (x ∷ xs) zero = bit_at_lowest (minterm_of (x ∷ xs)) ∙ front (digit x) (minterm_of xs) (digit_below x)
bit_at-minterm_of (x ∷ xs) (suc i) =
    bit_at-suc (minterm_of (x ∷ xs)) i
    ∙ ap (λ n. bit_at n i) (rest (digit x) (minterm_of xs) (digit_below x))
    ∙ bit_at-minterm_of xs i

set_step : (a b p d e q : ℕ) → a + d * p ≡ b + e * p → q ≡ 2 * p → (x : ℕ) → (x + 2 * a) + d * q ≡ (x + 2 * b) + e * q
set_step a b p d e q h k x = grind arith

-- a change of variable i moves the minterm by 2 ^ i
pub minterm_of-set : (xs : List Bool) (i : ℕ) (v : Bool) → i < length xs → minterm_of (set xs i v) + digit (get_or xs i false) * 2 ^ i ≡ minterm_of xs + digit v * 2 ^ i
minterm_of-set [] i v l = absurd (omega arith)
minterm_of-set (x ∷ xs) zero v l = omega arith
minterm_of-set (x ∷ xs) (suc i) v l =
    set_step _ _ (2 ^ i) _ _ (2 ^ suc i) (minterm_of-set xs i v (omega arith)) (omega (arith, pow-suc 2 i)) (digit x)

-- ---- the list of values at a minterm
abbrev pub values_at : ℕ → ℕ → List Bool
values_at zero m = []
values_at (suc n) m = nat_eq (m % 2) 1 ∷ values_at n (m / 2)

pub length-values_at : (n m : ℕ) → length (values_at n m) ≡ n
length-values_at zero m = refl
length-values_at (suc n) m = ap suc (length-values_at n (m / 2))

low_digit : (d : ℕ) → d < 2 → digit (nat_eq d 1) ≡ d
low_digit zero h = refl
low_digit (suc zero) h = refl
low_digit (suc (suc d)) h = absurd (omega arith)

pub minterm_of-values_at : (n m : ℕ) → m < 2 ^ n → minterm_of (values_at n m) ≡ m
minterm_of-values_at zero m h = omega arith
minterm_of-values_at (suc n) m h =
    let half : m / 2 < 2 ^ n = omega (arith, pow-suc 2 n) in
    let low : digit (nat_eq (m % 2) 1) ≡ m % 2 = low_digit (m % 2) (omega arith) in
    let high : minterm_of (values_at n (m / 2)) ≡ m / 2 = minterm_of-values_at n (m / 2) half in
    omega (arith, low, high)

-- ---- the last variable, and two variables that change places
last_step : (a b p d q : ℕ) → a ≡ b + d * p → q ≡ 2 * p → (x : ℕ) → x + 2 * a ≡ (x + 2 * b) + d * q
last_step a b p d q h k x = grind arith

pub minterm_of-last : (xs : List Bool) (k : ℕ) → length xs ≡ suc k → minterm_of xs ≡ minterm_of (take k xs) + digit (get_or xs k false) * 2 ^ k
minterm_of-last [] k l = absurd (omega arith)
minterm_of-last (x ∷ []) zero l = omega arith
minterm_of-last (x ∷ y ∷ ys) zero l = absurd (omega arith)
minterm_of-last (x ∷ xs) (suc k) l =
    last_step _ _ (2 ^ k) _ (2 ^ suc k) (minterm_of-last xs k (omega arith)) (omega (arith, pow-suc 2 k)) (digit x)

pub minterm_of-swap : (xs : List Bool) (i j : ℕ) → i < j → j < length xs → minterm_of (swap xs i j) + digit (get_or xs i false) * 2 ^ i + digit (get_or xs j false) * 2 ^ j ≡ minterm_of xs + digit (get_or xs j false) * 2 ^ i + digit (get_or xs i false) * 2 ^ j
minterm_of-swap xs i j h l =
    let first : List Bool = set xs i (get_or xs j false) in
    let there : set first j (get_or xs i false) ≡ swap xs i j = swap_is xs i j false (omega arith) l in
    let stays : get_or first j false ≡ get_or xs j false = get_or-set_other xs i j (get_or xs j false) false (omega arith) in
    let one : minterm_of first + digit (get_or xs i false) * 2 ^ i ≡ minterm_of xs + digit (get_or xs j false) * 2 ^ i = minterm_of-set xs i (get_or xs j false) (omega arith) in
    let two : minterm_of (set first j (get_or xs i false)) + digit (get_or first j false) * 2 ^ j ≡ minterm_of first + digit (get_or xs i false) * 2 ^ j = minterm_of-set first j (get_or xs i false) (omega (arith, length-set xs i (get_or xs j false))) in
    let moved : minterm_of (swap xs i j) + digit (get_or xs j false) * 2 ^ j ≡ minterm_of first + digit (get_or xs i false) * 2 ^ j = ap₂ (λ a b. minterm_of a + digit b * 2 ^ j) (sym there) (sym stays) ∙ two in
    omega (arith, one, moved)

pub swap_turned : {X : Type 0} (xs : List X) (i j : ℕ) → i < j → swap xs i j ≡ swap xs j i
swap_turned [] i j h = refl
swap_turned (x ∷ xs) i j h = set_comm (x ∷ xs) i j (get_or (x ∷ xs) j x) (get_or (x ∷ xs) i x) (omega arith)
