-- The numbers of seats, counted over all seats.
use Rattle.std.proofs.Common.{◌≡◌, ◌≢◌, ℕ, zero, suc, ◌+◌, ◌<◌, ◌≤◌, List, [], ◌∷◌, ◌++◌, length, set, refl, sym, ap, ◌∙◌, subst, arith, inl, inr, length-append}
use Rattle.std.proofs.lemmas.Bool.{cases_lt, cases_eq}
use mathlib.Core.Option.{some, some-injective, some-ne-none}
use lib.ListN.{get_elem?}
use Rattle.syn_rows.specs.References.{hits, times, sum_below}
use Rattle.syn_core_laws.proofs.Counting.{hits_same, hits_other, times_append}
use Rattle.syn_table.specs.declared.Known.{Known}
use Rattle.syn_table.specs.declared.Opening.{Opening}
use Rattle.syn_table.specs.Numbers.{all_numbers}
use Rattle.syn_table.specs.Rule.{HasOwnNumber, IsTable}
use Rattle.syn_core_laws.specs.Cores.{Core}
use Rattle.syn_core_laws.specs.Openings.{empty_view}

-- ---- all numbers after a change of one seat, and with one seat more
pub numbers_set : (n : ℕ) (seats : List Known) (id : ℕ) (k w : Known) → get_elem? seats id ≡ some k → times n (all_numbers (set seats id w)) + times n k.numbers ≡ times n (all_numbers seats) + times n w.numbers
numbers_set n [] id k w e = absurd (some-ne-none k (sym e))
numbers_set n (x ∷ xs) zero k w e =
    let same : times n x.numbers ≡ times n k.numbers = ap (λ (y : Known). times n y.numbers) (some-injective x k e) in
    let new = times_append n w.numbers (all_numbers xs) in
    let old = times_append n x.numbers (all_numbers xs) in
    omega (arith, same, new, old)
numbers_set n (x ∷ xs) (suc id) k w e =
    let rest = numbers_set n xs id k w e in
    let new = times_append n x.numbers (all_numbers (set xs id w)) in
    let old = times_append n x.numbers (all_numbers xs) in
    omega (arith, rest, new, old)

pub numbers_last : (n : ℕ) (seats : List Known) (w : Known) → times n (all_numbers (seats ++ w ∷ [])) ≡ times n (all_numbers seats) + times n w.numbers
numbers_last n [] w = let all = times_append n w.numbers [] in omega (arith, all)
numbers_last n (x ∷ xs) w =
    let rest = numbers_last n xs w in
    let new = times_append n x.numbers (all_numbers (xs ++ w ∷ [])) in
    let old = times_append n x.numbers (all_numbers xs) in
    omega (arith, rest, new, old)

-- ---- one seat's numbers, and two seats', are among all
pub numbers_in : (n : ℕ) (seats : List Known) (id : ℕ) (k : Known) → get_elem? seats id ≡ some k → times n k.numbers ≤ times n (all_numbers seats)
numbers_in n [] id k e = absurd (some-ne-none k (sym e))
numbers_in n (x ∷ xs) zero k e =
    let same : times n x.numbers ≡ times n k.numbers = ap (λ (y : Known). times n y.numbers) (some-injective x k e) in
    omega (arith, same, times_append n x.numbers (all_numbers xs))
numbers_in n (x ∷ xs) (suc id) k e = omega (arith, numbers_in n xs id k e, times_append n x.numbers (all_numbers xs))

pub numbers_of_two : (n : ℕ) (seats : List Known) (i j : ℕ) (k m : Known) → i ≢ j → get_elem? seats i ≡ some k → get_elem? seats j ≡ some m → times n k.numbers + times n m.numbers ≤ times n (all_numbers seats)
numbers_of_two n [] i j k m ne ei ej = absurd (some-ne-none k (sym ei))
numbers_of_two n (x ∷ xs) zero zero k m ne ei ej = absurd (ne refl)
numbers_of_two n (x ∷ xs) zero (suc j) k m ne ei ej =
    let same : times n x.numbers ≡ times n k.numbers = ap (λ (y : Known). times n y.numbers) (some-injective x k ei) in
    omega (arith, same, times_append n x.numbers (all_numbers xs), numbers_in n xs j m ej)
numbers_of_two n (x ∷ xs) (suc i) zero k m ne ei ej =
    let same : times n x.numbers ≡ times n m.numbers = ap (λ (y : Known). times n y.numbers) (some-injective x m ej) in
    omega (arith, same, times_append n x.numbers (all_numbers xs), numbers_in n xs i k ei)
numbers_of_two n (x ∷ xs) (suc i) (suc j) k m ne ei ej = omega (arith, numbers_of_two n xs i j k m (λ e. ne (ap suc e)) ei ej, times_append n x.numbers (all_numbers xs))

-- ---- lengths
pub length_in : (seats : List Known) (id : ℕ) (k : Known) → get_elem? seats id ≡ some k → length k.numbers ≤ length (all_numbers seats)
length_in [] id k e = absurd (some-ne-none k (sym e))
length_in (x ∷ xs) zero k e =
    let same : length x.numbers ≡ length k.numbers = ap (λ (y : Known). length y.numbers) (some-injective x k e) in
    omega (arith, same, length-append x.numbers (all_numbers xs))
length_in (x ∷ xs) (suc id) k e = omega (arith, length_in xs id k e, length-append x.numbers (all_numbers xs))

pub lengths_of_two : (seats : List Known) (i j : ℕ) (k m : Known) → i ≢ j → get_elem? seats i ≡ some k → get_elem? seats j ≡ some m → length k.numbers + length m.numbers ≤ length (all_numbers seats)
lengths_of_two [] i j k m ne ei ej = absurd (some-ne-none k (sym ei))
lengths_of_two (x ∷ xs) zero zero k m ne ei ej = absurd (ne refl)
lengths_of_two (x ∷ xs) zero (suc j) k m ne ei ej =
    let same : length x.numbers ≡ length k.numbers = ap (λ (y : Known). length y.numbers) (some-injective x k ei) in
    omega (arith, same, length-append x.numbers (all_numbers xs), length_in xs j m ej)
lengths_of_two (x ∷ xs) (suc i) zero k m ne ei ej =
    let same : length x.numbers ≡ length m.numbers = ap (λ (y : Known). length y.numbers) (some-injective x m ej) in
    omega (arith, same, length-append x.numbers (all_numbers xs), length_in xs i k ei)
lengths_of_two (x ∷ xs) (suc i) (suc j) k m ne ei ej = omega (arith, lengths_of_two xs i j k m (λ e. ne (ap suc e)) ei ej, length-append x.numbers (all_numbers xs))

sum_plus : (k : ℕ) (f g h : ℕ → ℕ) → ((n : ℕ) → h n ≡ f n + g n) → sum_below k h ≡ sum_below k f + sum_below k g
sum_plus zero f g h each = refl
sum_plus (suc k) f g h each = omega (arith, sum_plus k f g h each, each k)

hits_past : (k x : ℕ) → k ≤ x → sum_below k (λ n. hits n x) ≡ 0
hits_past zero x le = refl
hits_past (suc k) x le = omega (arith, hits_past k x (omega arith), hits_other k x (λ e. omega arith))

hits_below : (k x : ℕ) → x < k → sum_below k (λ n. hits n x) ≡ 1
hits_below zero x lt = absurd (omega arith)
hits_below (suc k) x lt = elim (cases_eq x k) [
  | inl e ↦ let here : hits k x ≡ 1 = subst (λ y. hits k y ≡ 1) (sym e) (hits_same k) in omega (arith, here, hits_past k x (omega arith))
  | inr ne ↦ omega (arith, hits_below k x (omega arith), hits_other k x (λ e. ne (sym e)))
]

-- numbers below k make up the list's length
counted_below : (k : ℕ) (xs : List ℕ) → ((n : ℕ) → k ≤ n → times n xs ≡ 0) → length xs ≡ sum_below k (λ n. times n xs)
counted_below k [] none = sym (zeros k)
  where
    zeros : (k : ℕ) → sum_below k (λ n. times n []) ≡ 0
    zeros zero = refl
    zeros (suc k) = omega (arith, zeros k)
counted_below k (x ∷ xs) none = elim (cases_lt x k) [
  | inl lt ↦ omega (
    arith,
    counted_below k xs (λ n le. let all = none n le in omega (arith, all)),
    hits_below k x lt,
    sum_plus k (λ n. hits n x) (λ n. times n xs) (λ n. times n (x ∷ xs)) (λ n. refl),
  )
  | inr ge ↦ absurd (let all = none x ge in omega (arith, all, hits_same x))
]

few_below : (k : ℕ) (f : ℕ → ℕ) → ((n : ℕ) → n < k → f n ≡ 1) → sum_below k f ≡ k
few_below zero f one = refl
few_below (suc k) f one = omega (arith, few_below k f (λ n lt. one n (omega arith)), one k (omega arith))

-- a list that has each number below k once, and no other number, has k of them
pub all_counted : (k : ℕ) (xs : List ℕ) → ((n : ℕ) → n < k → times n xs ≡ 1) → ((n : ℕ) → k ≤ n → times n xs ≡ 0) → length xs ≡ k
all_counted k xs once none = counted_below k xs none ∙ few_below k (λ n. times n xs) once

-- where one seat has all numbers, each other one is spent
pub others_spent : (opening : Opening) (words : List ℕ) (seats : List Known) (c : Core) (id j : ℕ) (k x : Known) → IsTable opening words seats c → get_elem? seats id ≡ some k → length k.numbers ≡ 64
    → j ≢ id → get_elem? seats j ≡ some x → x.core ≡ empty_view 64
others_spent opening words seats c id j k x t at full ne there = elim (cases_lt x.core.number 64) [
  | inl lt ↦ absurd (
      let all : length (all_numbers seats) ≡ 64 = all_counted 64 (all_numbers seats) t.once t.below in
      let own : HasOwnNumber x = (t.tied j x there).own lt in
      let one = ap (λ (ns : List ℕ). length ns) own in
      let two = lengths_of_two seats j id x k ne there at in
      omega (arith, one, two, all, full)
      )
  | inr ge ↦ ((t.tied j x there).spent ge).1
]
