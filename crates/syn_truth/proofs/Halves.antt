-- The two words of a table: variable 7 chooses the word, the others the bit in it.
use Rattle.std.proofs.Common.{◌≡◌, ℕ, zero, suc, ◌+◌, ◌-◌, ◌*◌, ◌%◌, ◌^◌, ◌<◌, ◌≤◌, Bool, true, false, cond, ltb, not, ◌&&◌, min, List, [], ◌∷◌, length, get_or, take, nat_eq, bit_and, refl, sym, ap, ap₂, ◌∙◌, inl, inr, arith}
use Rattle.std.proofs.lemmas.Bool.{cases_lt, cond-true, cond-false, lt-ltb, le-ltb}
use Rattle.std.proofs.lemmas.List.{take_all, take-set, get_or_past, length-take, length-set, get_or-set_other, get_or-set_same, get_or-take, set-get_or}
use Rattle.std.proofs.Math.Nat.{pow-le-pow_right}
use Rattle.std.proofs.lemmas.Nat.Bits.{bit_at_ones, bit_at-zero, bit_at-lt}
use Rattle.std.proofs.lemmas.List.Edits.{swap_is}
use Rattle.std.proofs.Math.ListN.{set}
use Rattle.std.specs.List.{swap}
use Rattle.std.specs.Int.{bit_at}
use Rattle.syn_truth.specs.declared.Truth.{Truth}
use Rattle.syn_truth.specs.Truth.{AtEach, digit, minterm_of, value_at, value_of}
use Rattle.syn_truth.specs.Words.{AtEachWith, value_in}
use Rattle.syn_truth.proofs.Minterms.{minterm_below, minterm_of-last}
use Rattle.syn_truth.proofs.Operations.{minterm_fits, bit_at_masked, and_at}
use Rattle.syn_truth.proofs.Shifts.{complement}

pub word_at : (low high m t : ℕ) (x : Bool) → t < 128 → m ≡ t + digit x * 128 → bit_at (cond (ltb m 128) low high) (m % 128) ≡ bit_at (cond x high low) t
word_at low high m t false h e =
    let same : m % 128 ≡ t = omega (arith, h, e) in
    ap₂ bit_at (cond-true (ltb m 128) low high (lt-ltb m 128 (omega (arith, h, e)))) same
word_at low high m t true h e =
    let same : m % 128 ≡ t = omega (arith, h, e) in
    ap₂ bit_at (cond-false (ltb m 128) low high (le-ltb m 128 (omega (arith, h, e)))) same

-- ---- a list of at most 8 values
pub first_fits : (xs : List Bool) → length (take 7 xs) ≤ 7
first_fits xs = omega (arith, length-take 7 xs)

pub first_has : (xs : List Bool) (i : ℕ) → i < 7 → i < length xs → i < length (take 7 xs)
first_has xs i h l = omega (arith, length-take 7 xs)

pub split_minterm : (xs : List Bool) → length xs ≤ 8 → minterm_of xs ≡ minterm_of (take 7 xs) + digit (get_or xs 7 false) * 128
split_minterm xs h =
    elim (cases_lt (length xs) 8) [
      | inl l ↦
          let none : digit (get_or xs 7 false) ≡ 0 = ap digit (get_or_past xs 7 false (omega arith)) in
          let all : minterm_of (take 7 xs) ≡ minterm_of xs = ap minterm_of (take_all 7 xs (omega arith)) in
          omega (arith, none, all)
      | inr l ↦ minterm_of-last xs 7 (omega arith)
    ]

-- ---- values by words
pub by_word : (f : Truth) (xs : List Bool) → length xs ≡ f.vars → value_of f xs ≡ value_in (cond (get_or xs 7 false) f.high f.low) (take 7 xs)
unfolding value_of value_at
by_word f xs e =
    ap (λ b. nat_eq b 1)
    (word_at f.low f.high (minterm_of xs) (minterm_of (take 7 xs)) (get_or xs 7 false)
    (minterm_fits (take 7 xs) (first_fits xs)) (split_minterm xs (omega (arith, f.few))))

-- where there are at most 7 values, the low word has them all
pub only_word : (low high : ℕ) (xs : List Bool) → length xs ≤ 7 → value_in (cond (get_or xs 7 false) high low) (take 7 xs) ≡ value_in low xs
only_word low high xs h = ap₂ (λ x ys. value_in (cond x high low) ys) (get_or_past xs 7 false h) (take_all 7 xs h)

pub masked_word : (word high vars : ℕ) (xs : List Bool) → vars ≤ 7 → length xs ≡ vars → value_in (cond (get_or xs 7 false) high (bit_and word (2 ^ (2 ^ vars) - 1))) (take 7 xs) ≡ value_in word xs
masked_word word high vars xs h e =
    let below : minterm_of xs < 2 ^ vars = omega (arith, minterm_below xs, ap (λ n. 2 ^ n) e) in
    only_word (bit_and word (2 ^ (2 ^ vars) - 1)) high xs (omega arith)
    ∙ ap (λ b. nat_eq b 1) (bit_at_masked word (2 ^ vars) (minterm_of xs) below)

pub low_fits : (f : Truth) → f.low < 2 ^ 128
low_fits f =
    let least : min (2 ^ f.vars) 128 ≤ 128 = omega arith in
    let most : 2 ^ min (2 ^ f.vars) 128 ≤ 2 ^ 128 = pow-le-pow_right {n = 2} (omega arith) least in
    omega (arith, f.low_small, most)

pub high_fits : (f : Truth) → f.high < 2 ^ 128
high_fits f =
    let few : 2 ^ f.vars ≤ 2 ^ 8 = pow-le-pow_right {n = 2} (omega arith) f.few in
    let least : 2 ^ f.vars - 128 ≤ 128 = omega (arith, few) in
    let most : 2 ^ (2 ^ f.vars - 128) ≤ 2 ^ 128 = pow-le-pow_right {n = 2} (omega arith) least in
    omega (arith, f.high_small, most)

-- ---- what holds of each word holds of the chosen one
opposite : (b : ℕ) → b < 2 → nat_eq (1 - b) 1 ≡ not (nat_eq b 1)
opposite b h = grind arith

module _ (ys : List Bool) (few : length ys ≤ 7) where
  pub all_true : value_in (2 ^ 128 - 1) ys ≡ true
  all_true = ap (λ b. nat_eq b 1) (bit_at_ones 128 (minterm_of ys) (minterm_fits ys few))

  pub all_false : value_in 0 ys ≡ false
  all_false = ap (λ b. nat_eq b 1) (bit_at-zero (minterm_of ys))

  pub last_value : (x : Bool) → value_in (cond x (2 ^ 128 - 1) 0) ys ≡ x
  last_value true = all_true
  last_value false = all_false

  pub and_words : (x : Bool) (a b c d : ℕ) → value_in (cond x (bit_and b d) (bit_and a c)) ys ≡ (value_in (cond x b a) ys && value_in (cond x d c) ys)
  and_words true a b c d = and_at b d (minterm_of ys)
  and_words false a b c d = and_at a c (minterm_of ys)

  not_word : (a : ℕ) → a < 2 ^ 128 → value_in (2 ^ 128 - 1 - a) ys ≡ not (value_in a ys)
  not_word a h = ap (λ b. nat_eq b 1) (complement a (minterm_of ys) h (minterm_fits ys few)) ∙ opposite _ (bit_at-lt a (minterm_of ys))

  pub not_words : (x : Bool) (a b : ℕ) → a < 2 ^ 128 → b < 2 ^ 128 → value_in (cond x (2 ^ 128 - 1 - b) (2 ^ 128 - 1 - a)) ys ≡ not (value_in (cond x b a) ys)
  not_words true a b h k = not_word b k
  not_words false a b h k = not_word a h

  pub chosen_values : (y : Bool) (a b : ℕ) (v w : Bool) → value_in a ys ≡ v → value_in b ys ≡ w → value_in (cond y b a) ys ≡ cond y w v
  chosen_values true a b v w h k = k
  chosen_values false a b v w h k = h

pub one_word : (x : Bool) (a : ℕ) → cond x a a ≡ a
one_word true a = refl
one_word false a = refl

pub turned_words : (x : Bool) (a b : ℕ) → cond x a b ≡ cond (not x) b a
turned_words true a b = refl
turned_words false a b = refl

pub whole_width : (k : ℕ) → k ≤ 7 → min (2 ^ k) 128 ≡ 2 ^ k
whole_width k h =
    let few : 2 ^ k ≤ 2 ^ 7 = pow-le-pow_right (omega arith) h in
    omega (arith, few)

-- ---- an operation that stays within words
pub each_word : (x : Bool) (P : ℕ → ℕ → Type 0) (low high low' high' : ℕ) → P low low' → P high high' → P (cond x high low) (cond x high' low')
each_word true P low high low' high' l h = h
each_word false P low high low' high' l h = l

-- a change of the values that leaves variable 7, and sees it nowhere
pub record Stays (n i : ℕ) (change : List Bool → List Bool) : Type 0 where
  pub count : (xs : List Bool) → length xs ≡ n → length (change xs) ≡ n
  pub last : (xs : List Bool) → length xs ≡ n → get_or (change xs) 7 false ≡ get_or xs 7 false
  pub first : (xs : List Bool) → length xs ≡ n → take 7 (change xs) ≡ change (take 7 xs)

module _ (f : Truth) (i : ℕ) (change : List Bool → List Bool) (within : i < f.vars) (small : i < 7) (stays : Stays f.vars i change) where
  pub by_words : (low high : ℕ) → AtEachWith i (λ xs. value_in low xs ≡ value_in f.low (change xs)) → AtEachWith i (λ xs. value_in high xs ≡ value_in f.high (change xs)) → AtEach f.vars (λ xs. value_in (cond (get_or xs 7 false) high low) (take 7 xs) ≡ value_of f (change xs))
  by_words low high h k xs e =
      let has : i < length (take 7 xs) = first_has xs i small (omega (arith, e)) in
      each_word (get_or xs 7 false) (λ w v. value_in w (take 7 xs) ≡ value_in v (change (take 7 xs))) low high f.low f.high
      (h (take 7 xs) has (first_fits xs)) (k (take 7 xs) has (first_fits xs))
      ∙ sym (ap₂ (λ x ys. value_in (cond x f.high f.low) ys) (stays.last xs e) (stays.first xs e))
      ∙ sym (by_word f (change xs) (stays.count xs e))

take-set_all : (n : ℕ) (xs : List Bool) (i : ℕ) (v : Bool) → take n (set xs i v) ≡ set (take n xs) i v
take-set_all zero xs i v = refl
take-set_all (suc n) [] i v = refl
take-set_all (suc n) (x ∷ xs) zero v = refl
take-set_all (suc n) (x ∷ xs) (suc i) v = ap (λ ys. x ∷ ys) (take-set_all n xs i v)

pub set_stays : (n i : ℕ) (v : Bool) → i < 7 → Stays n i (λ xs. set xs i v)
set_stays n i v h = record {
  count = λ xs e. length-set xs i v ∙ e;
  last = λ xs e. get_or-set_other xs i 7 v false (omega arith);
  first = λ xs e. take-set_all 7 xs i v;
}

pub flip_stays : (n i : ℕ) → i < 7 → Stays n i (λ xs. set xs i (not (get_or xs i false)))
flip_stays n i h = record {
  count = λ xs e. length-set xs i (not (get_or xs i false)) ∙ e;
  last = λ xs e. get_or-set_other xs i 7 (not (get_or xs i false)) false (omega arith);
  first = λ xs e. take-set_all 7 xs i (not (get_or xs i false)) ∙ ap (λ v. set (take 7 xs) i (not v)) (sym (get_or-take 7 xs i false h));
}

-- two variables that change places, by two changes
swapped_sets : (xs : List Bool) (i j : ℕ) → i < length xs → j < length xs → swap xs i j ≡ set (set xs i (get_or xs j false)) j (get_or xs i false)
swapped_sets xs i j h k = sym (swap_is xs i j false h k)

pub length-swap : (xs : List Bool) (i j : ℕ) → i < length xs → j < length xs → length (swap xs i j) ≡ length xs
length-swap xs i j h k =
    ap length (swapped_sets xs i j h k) ∙ length-set (set xs i (get_or xs j false)) j (get_or xs i false) ∙ length-set xs i (get_or xs j false)

pub swap_stays : (n i j : ℕ) → i < j → j < 7 → j < n → Stays n j (λ xs. swap xs i j)
swap_stays n i j h small l = record {
  count = λ xs e. length-swap xs i j (omega arith) (omega arith) ∙ e;
  last = λ xs e.
      ap (λ ys. get_or ys 7 false) (swapped_sets xs i j (omega arith) (omega arith))
      ∙ get_or-set_other (set xs i (get_or xs j false)) j 7 (get_or xs i false) false (omega arith)
      ∙ get_or-set_other xs i 7 (get_or xs j false) false (omega arith);
  first = λ xs e.
      ap (take 7) (swapped_sets xs i j (omega arith) (omega arith))
      ∙ take-set_all 7 (set xs i (get_or xs j false)) j (get_or xs i false)
      ∙ ap (λ ys. set ys j (get_or xs i false)) (take-set_all 7 xs i (get_or xs j false))
      ∙ ap₂ (λ a b. set (set (take 7 xs) i a) j b) (sym (get_or-take 7 xs j false small)) (sym (get_or-take 7 xs i false (omega arith)))
      ∙ swap_is (take 7 xs) i j false (first_has xs i (omega arith) (omega arith)) (first_has xs j small (omega arith));
}

-- ---- variable 7
pub take-set_last : (xs : List Bool) (v : Bool) → take 7 (set xs 7 v) ≡ take 7 xs
take-set_last xs v = take-set xs 7 v

module _ (f : Truth) (full : f.vars ≡ 8) where
  pub set_last : (v : Bool) (xs : List Bool) → length xs ≡ f.vars → value_in (cond v f.high f.low) (take 7 xs) ≡ value_of f (set xs 7 v)
  set_last v xs e =
      sym (ap₂ (λ x ys. value_in (cond x f.high f.low) ys) (get_or-set_same xs 7 v false (omega (arith, e, full))) (take-set_last xs v))
      ∙ sym (by_word f (set xs 7 v) (length-set xs 7 v ∙ e))

  module _ (i : ℕ) (small : i < 7) (low high : ℕ)
      (lower : AtEachWith i (λ xs. value_in low xs ≡ cond (get_or xs i false) (value_in f.high (set xs i false)) (value_in f.low xs)))
      (higher : AtEachWith i (λ xs. value_in high xs ≡ cond (get_or xs i false) (value_in f.high xs) (value_in f.low (set xs i true)))) where
    unset : (ys : List Bool) (x : Bool) → get_or ys i false ≡ x → ys ≡ set ys i x
    unset ys x e = sym (set-get_or ys i false) ∙ ap (set ys i) e

    swapped_word : (ys : List Bool) (x y : Bool) → i < length ys → length ys ≤ 7 → get_or ys i false ≡ x → value_in (cond y high low) ys ≡ value_in (cond x f.high f.low) (set ys i y)
    swapped_word ys false false h l e = lower ys h l ∙ ap (λ v. cond v (value_in f.high (set ys i false)) (value_in f.low ys)) e ∙ ap (value_in f.low) (unset ys false e)
    swapped_word ys true false h l e = lower ys h l ∙ ap (λ v. cond v (value_in f.high (set ys i false)) (value_in f.low ys)) e
    swapped_word ys true true h l e = higher ys h l ∙ ap (λ v. cond v (value_in f.high ys) (value_in f.low (set ys i true))) e ∙ ap (value_in f.high) (unset ys true e)
    swapped_word ys false true h l e = higher ys h l ∙ ap (λ v. cond v (value_in f.high ys) (value_in f.low (set ys i true))) e

    pub swap_last : (xs : List Bool) → length xs ≡ f.vars → value_in (cond (get_or xs 7 false) high low) (take 7 xs) ≡ value_of f (swap xs i 7)
    swap_last xs e =
        let x : Bool = get_or xs i false in
        let y : Bool = get_or xs 7 false in
        let sets : swap xs i 7 ≡ set (set xs i (get_or xs 7 false)) 7 (get_or xs i false) = swapped_sets xs i 7 (omega (arith, e, full)) (omega (arith, e, full)) in
        let count : length (set xs i (get_or xs 7 false)) ≡ f.vars = length-set xs i (get_or xs 7 false) ∙ e in
        swapped_word (take 7 xs) x y (first_has xs i small (omega (arith, e, full))) (first_fits xs) (get_or-take 7 xs i false small)
        ∙ ap (value_in (cond x f.high f.low)) (sym (take-set_all 7 xs i y))
        ∙ set_last x (set xs i y) count
        ∙ ap (value_of f) (sym sets)
