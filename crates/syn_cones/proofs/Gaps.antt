-- Words of one variable more.
use Rattle.std.proofs.Common.{◌≡◌, ℕ, zero, suc, ◌+◌, ◌*◌, ◌/◌, ◌%◌, ◌<◌, ◌≤◌, nat_eq, Bool, true, List, [], ◌∷◌, length, bit_and, sym, ap, ap₂, ◌∙◌, arith}
use Rattle.std.specs.Int.{bit_at}
use Rattle.std.specs.Int.Bits.{mask_lt}
use Rattle.std.specs.List.{remove}
use Rattle.std.proofs.Math.Nat.{pow-le-pow_right}
use Rattle.std.proofs.lemmas.Bool.{eqb-true}
use Rattle.syn_truth.specs.Truth.{digit, minterm_of}
use Rattle.syn_truth.specs.Words.{value_in}
use Rattle.syn_truth.proofs.Minterms.{digit_below, minterm_below}
use Rattle.syn_truth.proofs.Operations.{bit_at_masked}
use Rattle.syn_truth.proofs.Shifts.{every, every_at}

-- a minterm without its bit i
abbrev pub gap : ℕ → ℕ → ℕ
gap zero m = m / 2
gap (suc i) m = m % 2 + 2 * gap i (m / 2)

pub minterm_of-remove : (xs : List Bool) (i : ℕ) → i < length xs → minterm_of (remove xs i) ≡ gap i (minterm_of xs)
minterm_of-remove [] i lt = absurd (omega arith)
minterm_of-remove (x ∷ xs) zero lt = omega (arith, digit_below x)
minterm_of-remove (x ∷ xs) (suc i) lt =
    let low : (digit x + 2 * minterm_of xs) % 2 ≡ digit x = omega (arith, digit_below x) in
    let high : (digit x + 2 * minterm_of xs) / 2 ≡ minterm_of xs = omega (arith, digit_below x) in
    ap (λ m. digit x + 2 * m) (minterm_of-remove xs i (omega arith))
    ∙ sym (ap₂ (λ a b. a + 2 * gap i b) low high)

-- a word of four variables has at each minterm the value that the other has without bit i
abbrev pub has_gap : (ℕ → ℕ) → ℕ → Bool
has_gap f i = every 256 (λ x. every 16 (λ m. nat_eq (bit_at (f x) m) (bit_at x (gap i m))))

gap_below : (i m : ℕ) → m < 16 → i < 4 → gap i m < 8
gap_below zero m l h = omega arith
gap_below (suc zero) m l h = omega arith
gap_below (suc (suc zero)) m l h = omega arith
gap_below (suc (suc (suc zero))) m l h = omega arith
gap_below (suc (suc (suc (suc i)))) m l h = absurd (omega arith)

pub gap_value : (f : ℕ → ℕ) (i word : ℕ) (xs : List Bool) → has_gap f i ≡ true → i < 4 → i < length xs → length xs ≤ 4 → value_in (f (bit_and word 255)) xs ≡ value_in word (remove xs i)
gap_value f i word xs computed small inside few =
    let m = minterm_of xs in
    let byte = bit_and word 255 in
    let low : m < 16 = omega (arith, minterm_below xs, pow-le-pow_right {n = 2} (omega arith) few) in
    let less : byte < 256 = mask_lt word 8 in
    ap (λ b. nat_eq b 1)
    (eqb-true _ _ (every_at 16 (λ k. nat_eq (bit_at (f byte) k) (bit_at byte (gap i k))) (every_at 256 (λ x. every 16 (λ k. nat_eq (bit_at (f x) k) (bit_at x (gap i k)))) computed byte less) m low)
    ∙ bit_at_masked word 8 (gap i m) (gap_below i m low small)
    ∙ ap (bit_at word) (sym (minterm_of-remove xs i inside)))
