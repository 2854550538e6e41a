-- Two variables that change places: minterms where only the lower one is true rise, those where only the higher one is true fall.
use Rattle.std.proofs.Common.{◌≡◌, ℕ, ◌+◌, ◌-◌, ◌*◌, ◌/◌, ◌%◌, ◌^◌, ◌<◌, ◌≤◌, min, max, Bool, true, false, ◌&&◌, ◌⊎◌, eqb, leb, ltb, ◌||◌, List, length, get_or, refl, sym, ap, ap₂, ◌∙◌, inl, inr, arith, bit_and, bit_or}
use Rattle.std.proofs.lemmas.Bool.{and_parts, or_cases, eqb-true, ltb-true, leb-true}
use Rattle.std.proofs.lemmas.Nat.{and_le_l, or_lt, pow_below}
use Rattle.std.proofs.lemmas.Nat.Bits.{bit_at_and, bit_at_or, bit_at_above, bit_at-lt}
use Rattle.std.specs.Int.{bit_at}
use Rattle.std.specs.List.{swap}
use Rattle.syn_truth.specs.Truth.{digit, minterm_of}
use Rattle.syn_truth.specs.Words.{IsMask}
use Rattle.syn_truth.proofs.Minterms.{bit_at-minterm_of, minterm_of-swap}
use Rattle.syn_truth.proofs.Shifts.{every, every_at, bit_at_shr, bit_at_shl_low, bit_at_shl_high, complement}
use Rattle.syn_truth.proofs.Operations.{minterm_fits}

-- 1 where variable a is true and variable b is not
abbrev only : ℕ → ℕ → ℕ → ℕ
only a b m = min (bit_at m a) (1 - bit_at m b)

abbrev distance : ℕ → ℕ → ℕ
distance low high = 2 ^ high - 2 ^ low

abbrev rises : ℕ → ℕ → ℕ → Bool
rises low high m =
    (leb high low || (ltb m (distance low high) && eqb (only high low m) 0))
    || (leb (distance low high) m && eqb (only low high (m - distance low high)) (only high low m))

abbrev falls : ℕ → ℕ → ℕ → Bool
falls low high m =
    (leb high low || (leb 128 (distance low high + m) && eqb (only low high m) 0))
    || (ltb (distance low high + m) 128 && eqb (only high low (distance low high + m)) (only low high m))

all_rise : (low : ℕ) → low < 7 → every 7 (λ high. every 128 (λ m. rises low high m)) ≡ true
all_rise = every_at 7 (λ low. every 7 (λ high. every 128 (λ m. rises low high m))) refl

all_fall : (low : ℕ) → low < 7 → every 7 (λ high. every 128 (λ m. falls low high m)) ≡ true
all_fall = every_at 7 (λ low. every 7 (λ high. every 128 (λ m. falls low high m))) refl

not_below : (a b : ℕ) → a < b → leb b a ≡ true → ⊥
not_below a b h o = let k : b ≤ a = leb-true b a o in omega arith

-- what the tables say of one minterm
module _ (low high m : ℕ) (rising : low < high) (few : high < 7) (fits : m < 128) where
  rise_case : ((m < distance low high) × (only high low m ≡ 0)) ⊎ ((distance low high ≤ m) × (only low high (m - distance low high) ≡ only high low m))
  rise_case =
      let tried : rises low high m ≡ true = every_at 128 (λ m. rises low high m) (every_at 7 (λ high. every 128 (λ m. rises low high m)) (all_rise low (omega arith)) high few) m fits in
      elim (or_cases _ _ tried) [
        | inl e ↦
            elim (or_cases (leb high low) _ e) [
              | inl o ↦ absurd (not_below low high rising o)
              | inr o ↦ let parts : (ltb m (distance low high) ≡ true) × (eqb (only high low m) 0 ≡ true) = and_parts _ _ o in inl (ltb-true _ _ parts.0, eqb-true _ _ parts.1)
            ]
        | inr e ↦ let parts : (leb (distance low high) m ≡ true) × (eqb (only low high (m - distance low high)) (only high low m) ≡ true) = and_parts _ _ e in inr (leb-true _ _ parts.0, eqb-true _ _ parts.1)
      ]

  fall_case : ((128 ≤ distance low high + m) × (only low high m ≡ 0)) ⊎ ((distance low high + m < 128) × (only high low (distance low high + m) ≡ only low high m))
  fall_case =
      let tried : falls low high m ≡ true = every_at 128 (λ m. falls low high m) (every_at 7 (λ high. every 128 (λ m. falls low high m)) (all_fall low (omega arith)) high few) m fits in
      elim (or_cases _ _ tried) [
        | inl e ↦
            elim (or_cases (leb high low) _ e) [
              | inl o ↦ absurd (not_below low high rising o)
              | inr o ↦ let parts : (leb 128 (distance low high + m) ≡ true) × (eqb (only low high m) 0 ≡ true) = and_parts _ _ o in inl (leb-true _ _ parts.0, eqb-true _ _ parts.1)
            ]
        | inr e ↦ let parts : (ltb (distance low high + m) 128 ≡ true) × (eqb (only high low (distance low high + m)) (only low high m) ≡ true) = and_parts _ _ e in inr (ltb-true _ _ parts.0, eqb-true _ _ parts.1)
      ]

pick_swapped : (n m there p q : ℕ) (a b : Bool) → p < q → there + digit a * p + digit b * q ≡ m + digit b * p + digit a * q → max (max (min (bit_at n m) (1 - max (min (digit a) (1 - digit b)) (min (digit b) (1 - digit a)))) (min (bit_at n (m - (q - p))) (min (digit b) (1 - digit a)))) (min (bit_at n ((q - p) + m)) (min (digit a) (1 - digit b))) ≡ bit_at n there
pick_swapped n m there p q true true h e = let same : m ≡ there = omega arith in omega (arith, bit_at-lt n m) ∙ ap (bit_at n) same
pick_swapped n m there p q false false h e = let same : m ≡ there = omega arith in omega (arith, bit_at-lt n m) ∙ ap (bit_at n) same
pick_swapped n m there p q true false h e = let same : (q - p) + m ≡ there = omega arith in omega (arith, bit_at-lt n ((q - p) + m)) ∙ ap (bit_at n) same
pick_swapped n m there p q false true h e = let same : m - (q - p) ≡ there = omega arith in omega (arith, bit_at-lt n (m - (q - p))) ∙ ap (bit_at n) same

only_bit : (word other i j m : ℕ) → IsMask word i → IsMask other j → m < 128 → bit_at (bit_and word (2 ^ 128 - 1 - other)) m ≡ only i j m
only_bit word other i j m k l h =
    bit_at_and word (2 ^ 128 - 1 - other) m
    ∙ ap₂ min (k.bit m h) (complement other m l.within h ∙ ap (λ b. 1 - b) (l.bit m h))

module _ (n word other low high : ℕ) (mask : IsMask word low) (mask_high : IsMask other high) (rising : low < high) (few : high < 7) where
  abbrev ups : ℕ
  ups = bit_and word (2 ^ 128 - 1 - other)

  abbrev downs : ℕ
  downs = bit_and other (2 ^ 128 - 1 - word)

  ups_within : ups < 2 ^ 128
  ups_within = omega (arith, and_le_l word (2 ^ 128 - 1 - other), mask.within)

  downs_within : downs < 2 ^ 128
  downs_within = omega (arith, and_le_l other (2 ^ 128 - 1 - word), mask_high.within)

  stayed : (m : ℕ) → m < 128 → bit_at (bit_and n (2 ^ 128 - 1 - bit_or ups downs)) m ≡ min (bit_at n m) (1 - max (only low high m) (only high low m))
  stayed m h =
      bit_at_and n (2 ^ 128 - 1 - bit_or ups downs) m
      ∙ ap (λ b. min (bit_at n m) b)
      (complement (bit_or ups downs) m (or_lt 128 ups downs ups_within downs_within) h
      ∙ ap (λ b. 1 - b)
      (bit_at_or ups downs m
      ∙ ap₂ max (only_bit word other low high m mask mask_high h) (only_bit other word high low m mask_high mask h)))

  rose : (m : ℕ) → m < 128 → bit_at (bit_and n ups * 2 ^ distance low high % 2 ^ 128) m ≡ min (bit_at n (m - distance low high)) (only high low m)
  rose m h =
      elim (rise_case low high m rising few h) [
        | inl e ↦ bit_at_shl_low (bit_and n ups) (distance low high) 128 m h e.0 ∙ omega (arith, e.1)
        | inr e ↦
            bit_at_shl_high (bit_and n ups) (distance low high) 128 m h e.0
            ∙ bit_at_and n ups (m - distance low high)
            ∙ ap (λ b. min (bit_at n (m - distance low high)) b) (only_bit word other low high (m - distance low high) mask mask_high (omega arith) ∙ e.1)
      ]

  fell : (m : ℕ) → m < 128 → bit_at (bit_and n downs / 2 ^ distance low high) m ≡ min (bit_at n (distance low high + m)) (only low high m)
  fell m h =
      bit_at_shr (bit_and n downs) (distance low high) m
      ∙ bit_at_and n downs (distance low high + m)
      ∙ ap (λ b. min (bit_at n (distance low high + m)) b)
      (elim (fall_case low high m rising few h) [
        | inl e ↦ bit_at_above downs 128 (distance low high + m) downs_within e.0 ∙ sym e.1
        | inr e ↦ only_bit other word high low (distance low high + m) mask_high mask e.0 ∙ e.1
      ])

  pub swap_at : (xs : List Bool) → high < length xs → length xs ≤ 7 → bit_at (bit_or (bit_or (bit_and n (2 ^ 128 - 1 - bit_or ups downs)) (bit_and n ups * 2 ^ distance low high % 2 ^ 128)) (bit_and n downs / 2 ^ distance low high)) (minterm_of xs) ≡ bit_at n (minterm_of (swap xs low high))
  swap_at xs l k =
      let m : ℕ = minterm_of xs in
      let h : minterm_of xs < 128 = minterm_fits xs k in
      bit_at_or (bit_or (bit_and n (2 ^ 128 - 1 - bit_or ups downs)) (bit_and n ups * 2 ^ distance low high % 2 ^ 128)) (bit_and n downs / 2 ^ distance low high) m
      ∙ ap₂ max
      (bit_at_or (bit_and n (2 ^ 128 - 1 - bit_or ups downs)) (bit_and n ups * 2 ^ distance low high % 2 ^ 128) m ∙ ap₂ max (stayed m h) (rose m h))
      (fell m h)
      ∙ ap₂ (λ a b. max (max (min (bit_at n m) (1 - max (min a (1 - b)) (min b (1 - a)))) (min (bit_at n (m - distance low high)) (min b (1 - a)))) (min (bit_at n (distance low high + m)) (min a (1 - b))))
      (bit_at-minterm_of xs low) (bit_at-minterm_of xs high)
      ∙ pick_swapped n m (minterm_of (swap xs low high)) (2 ^ low) (2 ^ high) (get_or xs low false) (get_or xs high false) (pow_below low high rising) (minterm_of-swap xs low high rising l)
