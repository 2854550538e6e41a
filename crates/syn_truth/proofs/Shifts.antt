-- What masks and shifts leave of a word at one bit.
use Rattle.std.proofs.Common.{◌≡◌, ℕ, zero, suc, ◌+◌, ◌-◌, ◌*◌, ◌/◌, ◌%◌, ◌^◌, ◌<◌, ◌≤◌, min, Bool, true, ◌&&◌, eqb, ltb, ◌||◌, refl, sym, ap, ◌∙◌, inl, inr, arith, bit_and}
use Rattle.std.proofs.lemmas.Bool.{and_parts, or_cases, cases_eq, cases_lt, eqb-true, ltb-true}
use Rattle.std.proofs.lemmas.Nat.{shr-shr, and_mask, pow_pos}
use Rattle.std.proofs.lemmas.Nat.Bits.{bit_at_and, bit_at_not, bit_at_ones, bit_at_above, bit_at-zero, bit_at-lt, bit_at_cat_low, bit_at_cat_high}
use Rattle.std.specs.Int.{bit_at, w128}
use Rattle.syn_truth.specs.Words.{IsMask}

-- a test of each number below n, which computes where n is written out
abbrev pub every : ℕ → (ℕ → Bool) → Bool
every zero p = true
every (suc n) p = p n && every n p

pub every_at : (n : ℕ) (p : ℕ → Bool) → every n p ≡ true → (k : ℕ) → k < n → p k ≡ true
every_at zero p h k l = absurd (omega arith)
every_at (suc n) p h k l =
    let parts = and_parts (p n) (every n p) h in
    elim (cases_eq k n) [ inl e ↦ ap p e ∙ parts.0 | inr e ↦ every_at n p parts.1 k (omega arith) ]

-- a step up by 2 ^ i turns bit i, and leaves 7 bits only where that bit was 1
turns : (i : ℕ) → i < 7 → every 128 (λ m. eqb (bit_at (2 ^ i + m) i) (1 - bit_at m i) && (ltb (2 ^ i + m) 128 || eqb (bit_at m i) 1)) ≡ true
turns = every_at 7 (λ i. every 128 (λ m. eqb (bit_at (2 ^ i + m) i) (1 - bit_at m i) && (ltb (2 ^ i + m) 128 || eqb (bit_at m i) 1))) refl

-- ---- shifts
pub bit_at_shr : (n s m : ℕ) → bit_at (n / 2 ^ s) m ≡ bit_at n (s + m)
bit_at_shr n s m = ap (λ x. x % 2) (shr-shr n s m)

pub bit_at_mod : (n w m : ℕ) → m < w → bit_at (n % 2 ^ w) m ≡ bit_at n m
bit_at_mod n w m l =
    ap (λ x. bit_at x m) (sym (and_mask n w))
    ∙ bit_at_and n (2 ^ w - 1) m
    ∙ ap (λ b. min (bit_at n m) b) (bit_at_ones w m l)
    ∙ omega (arith, bit_at-lt n m)

pub bit_at_shl_high : (n s w m : ℕ) → m < w → s ≤ m → bit_at (n * 2 ^ s % 2 ^ w) m ≡ bit_at n (m - s)
bit_at_shl_high n s w m l h =
    bit_at_mod (n * 2 ^ s) w m l
    ∙ ap (λ x. bit_at x m) (omega arith)
    ∙ bit_at_cat_high n s 0 m (omega (arith, pow_pos s)) h

pub bit_at_shl_low : (n s w m : ℕ) → m < w → m < s → bit_at (n * 2 ^ s % 2 ^ w) m ≡ 0
bit_at_shl_low n s w m l h =
    bit_at_mod (n * 2 ^ s) w m l
    ∙ ap (λ x. bit_at x m) (omega arith)
    ∙ bit_at_cat_low n s 0 m h
    ∙ bit_at-zero m

-- ---- the mask of a variable, a step up, a step down, and its complement
turned : (i m : ℕ) → i < 7 → m < 128 → bit_at (2 ^ i + m) i ≡ 1 - bit_at m i
turned i m li lm =
    eqb-true _ _ (and_parts _ _ (every_at 128 (λ m. eqb (bit_at (2 ^ i + m) i) (1 - bit_at m i) && (ltb (2 ^ i + m) 128 || eqb (bit_at m i) 1)) (turns i li) m lm)).0

carries : (i m : ℕ) → i < 7 → m < 128 → 128 ≤ 2 ^ i + m → bit_at m i ≡ 1
carries i m li lm h =
    elim (or_cases _ _ (and_parts _ _ (every_at 128 (λ m. eqb (bit_at (2 ^ i + m) i) (1 - bit_at m i) && (ltb (2 ^ i + m) 128 || eqb (bit_at m i) 1)) (turns i li) m lm)).1)
    [ inl e ↦ let below : 2 ^ i + m < 128 = ltb-true _ _ e in absurd (omega (arith, below)) | inr e ↦ eqb-true _ _ e ]

mask_up : (word i m : ℕ) → IsMask word i → i < 7 → m < 128 → bit_at word (2 ^ i + m) ≡ 1 - bit_at m i
mask_up word i m k li lm =
    elim (cases_lt (2 ^ i + m) 128) [
      | inl l ↦ k.bit (2 ^ i + m) l ∙ turned i m li lm
      | inr l ↦ bit_at_above word 128 (2 ^ i + m) k.within l ∙ omega (arith, carries i m li lm l)
    ]

mask_down : (word i m : ℕ) → IsMask word i → i < 7 → m < 128 → 2 ^ i ≤ m → bit_at word (m - 2 ^ i) ≡ 1 - bit_at m i
mask_down word i m k li lm h =
    let back : 2 ^ i + (m - 2 ^ i) ≡ m = omega arith in
    let below : m - 2 ^ i < 128 = omega arith in
    let there : bit_at m i ≡ 1 - bit_at (m - 2 ^ i) i = ap (λ x. bit_at x i) (sym back) ∙ turned i (m - 2 ^ i) li below in
    k.bit (m - 2 ^ i) below ∙ omega (arith, there, bit_at-lt (m - 2 ^ i) i)

bit_at_below : (i m : ℕ) → m < 2 ^ i → bit_at m i ≡ 0
bit_at_below i m h = bit_at_above m i i h (omega arith)

pub complement : (word m : ℕ) → word < 2 ^ 128 → m < 128 → bit_at (2 ^ 128 - 1 - word) m ≡ 1 - bit_at word m
complement word m h l = bit_at_not w128 word m h l

-- ---- the four parts of which the operations are made
pub kept_high : (n word i m : ℕ) → IsMask word i → m < 128 → bit_at (bit_and n word) m ≡ min (bit_at n m) (bit_at m i)
kept_high n word i m k l = bit_at_and n word m ∙ ap (λ b. min (bit_at n m) b) (k.bit m l)

pub kept_low : (n word i m : ℕ) → IsMask word i → m < 128 → bit_at (bit_and n (2 ^ 128 - 1 - word)) m ≡ min (bit_at n m) (1 - bit_at m i)
kept_low n word i m k l =
    bit_at_and n (2 ^ 128 - 1 - word) m
    ∙ ap (λ b. min (bit_at n m) b) (complement word m k.within l ∙ ap (λ b. 1 - b) (k.bit m l))

pub moved_down : (n word i m : ℕ) → IsMask word i → i < 7 → m < 128 → bit_at (bit_and n word / 2 ^ (2 ^ i)) m ≡ min (bit_at n (2 ^ i + m)) (1 - bit_at m i)
moved_down n word i m k li lm =
    bit_at_shr (bit_and n word) (2 ^ i) m
    ∙ bit_at_and n word (2 ^ i + m)
    ∙ ap (λ b. min (bit_at n (2 ^ i + m)) b) (mask_up word i m k li lm)

pub moved_up : (n word i m : ℕ) → IsMask word i → i < 7 → m < 128 → bit_at (bit_and n (2 ^ 128 - 1 - word) * 2 ^ (2 ^ i) % 2 ^ 128) m ≡ min (bit_at n (m - 2 ^ i)) (bit_at m i)
moved_up n word i m k li lm =
    elim (cases_lt m (2 ^ i)) [
      | inl l ↦ bit_at_shl_low (bit_and n (2 ^ 128 - 1 - word)) (2 ^ i) 128 m lm l ∙ omega (arith, bit_at_below i m l)
      | inr l ↦
          bit_at_shl_high (bit_and n (2 ^ 128 - 1 - word)) (2 ^ i) 128 m lm l
          ∙ bit_at_and n (2 ^ 128 - 1 - word) (m - 2 ^ i)
          ∙ ap (λ b. min (bit_at n (m - 2 ^ i)) b)
          (complement word (m - 2 ^ i) k.within (omega arith)
          ∙ ap (λ b. 1 - b) (mask_down word i m k li lm l)
          ∙ omega (arith, bit_at-lt m i))
    ]
