-- The minterms of a table give its function.
use Rattle.std.proofs.Common.{nat_lt, ◌≡◌, ℕ, zero, suc, ◌+◌, ◌^◌, ◌<◌, ◌≤◌, ◌||◌, nat_eq, Bool, true, false, List, ◌∷◌, filter, refl, sym, ap, ◌∙◌, eq-eqb, inl, inr, arith}
use Rattle.std.specs.List.{list_all}
use Rattle.std.proofs.lemmas.Bool.{cases_Bool, cases_lt, cond-true, cond-false, and_from, or_left, or_from, eqb-true, lt-ltb, false_from_ne_true}
use Rattle.syn_lists.specs.Numbers.{numbers_from}
use Rattle.syn_truth.specs.declared.Truth.{Truth}
use Rattle.syn_truth.specs.Truth.{AtEach, minterm_of, value_at, value_of}
use Rattle.syn_truth.proofs.Minterms.{minterm_below}
use Rattle.syn_lutnet.specs.LutData.{has_one, ones_value, ones_of, rising, OnesGiveTable}

has_none : (p : ℕ → Bool) (n a m : ℕ) → m < a → has_one (filter p (numbers_from a n)) m ≡ false
has_none p zero a m lt = refl
has_none p (suc n) a m lt =
    let others : List ℕ = filter p (numbers_from (a + 1) n) in
    let rest = has_none p n (a + 1) m (omega (arith, lt)) in
    let away : nat_eq a m ≡ false = false_from_ne_true (nat_eq a m) (λ e. omega (arith, lt, eqb-true a m e)) in
    elim (cases_Bool (p a)) [
      | inl e ↦ ap (λ (l : List ℕ). has_one l m) (cond-true (p a) (a ∷ others) others e) ∙ or_from (nat_eq a m) (has_one others m) away rest
      | inr e ↦ ap (λ (l : List ℕ). has_one l m) (cond-false (p a) (a ∷ others) others e) ∙ rest
    ]

has_from : (p : ℕ → Bool) (n a m : ℕ) → a ≤ m → m < a + n → has_one (filter p (numbers_from a n)) m ≡ p m
has_from p zero a m le lt = absurd (omega (arith, le, lt))
has_from p (suc n) a m le lt =
    let others : List ℕ = filter p (numbers_from (a + 1) n) in
    elim (cases_lt a m) [
      | inl less ↦
          let rest = has_from p n (a + 1) m (omega (arith, less)) (omega (arith, lt)) in
          let away : nat_eq a m ≡ false = false_from_ne_true (nat_eq a m) (λ e. omega (arith, less, eqb-true a m e)) in
          elim (cases_Bool (p a)) [
            | inl e ↦ ap (λ (l : List ℕ). has_one l m) (cond-true (p a) (a ∷ others) others e) ∙ ap (λ b. b || has_one others m) away ∙ rest
            | inr e ↦ ap (λ (l : List ℕ). has_one l m) (cond-false (p a) (a ∷ others) others e) ∙ rest
          ]
      | inr ge ↦
          let same : a ≡ m = omega (arith, le, ge) in
          elim (cases_Bool (p a)) [
            | inl e ↦ ap (λ (l : List ℕ). has_one l m) (cond-true (p a) (a ∷ others) others e) ∙ or_left (nat_eq a m) (has_one others m) (eq-eqb a m same) ∙ sym (ap p (sym same) ∙ e)
            | inr e ↦ ap (λ (l : List ℕ). has_one l m) (cond-false (p a) (a ∷ others) others e) ∙ has_none p n (a + 1) m (omega (arith, same)) ∙ sym (ap p (sym same) ∙ e)
          ]
    ]

ones_above : (p : ℕ → Bool) (n a b : ℕ) → b < a → list_all (nat_lt b) (filter p (numbers_from a n)) ≡ true
ones_above p zero a b lt = refl
ones_above p (suc n) a b lt =
    let others : List ℕ = filter p (numbers_from (a + 1) n) in
    let rest = ones_above p n (a + 1) b (omega (arith, lt)) in
    elim (cases_Bool (p a)) [
      | inl e ↦ ap (list_all (nat_lt b)) (cond-true (p a) (a ∷ others) others e) ∙ and_from (nat_lt b a) (list_all (nat_lt b) others) (lt-ltb b a lt) rest
      | inr e ↦ ap (list_all (nat_lt b)) (cond-false (p a) (a ∷ others) others e) ∙ rest
    ]

ones_rise : (p : ℕ → Bool) (n a : ℕ) → rising (filter p (numbers_from a n)) ≡ true
ones_rise p zero a = refl
ones_rise p (suc n) a =
    let others : List ℕ = filter p (numbers_from (a + 1) n) in
    let rest = ones_rise p n (a + 1) in
    elim (cases_Bool (p a)) [
      | inl e ↦ ap rising (cond-true (p a) (a ∷ others) others e) ∙ and_from (list_all (nat_lt a) others) (rising others) (ones_above p n (a + 1) a (omega arith)) rest
      | inr e ↦ ap rising (cond-false (p a) (a ∷ others) others e) ∙ rest
    ]

ones_small : (p : ℕ → Bool) (n a high : ℕ) → a + n ≤ high → list_all (λ m. nat_lt m high) (filter p (numbers_from a n)) ≡ true
ones_small p zero a high le = refl
ones_small p (suc n) a high le =
    let others : List ℕ = filter p (numbers_from (a + 1) n) in
    let rest = ones_small p n (a + 1) high (omega (arith, le)) in
    elim (cases_Bool (p a)) [
      | inl e ↦ ap (list_all (λ m. nat_lt m high)) (cond-true (p a) (a ∷ others) others e) ∙ and_from (nat_lt a high) (list_all (λ m. nat_lt m high) others) (lt-ltb a high (omega (arith, le))) rest
      | inr e ↦ ap (list_all (λ m. nat_lt m high)) (cond-false (p a) (a ∷ others) others e) ∙ rest
    ]

ones_value_is : (t : Truth) → AtEach t.vars (λ xs. ones_value (ones_of t) xs ≡ value_of t xs)
unfolding value_of
ones_value_is t xs e =
    let most : minterm_of xs < 2 ^ t.vars = omega (arith, minterm_below xs, ap (λ n. 2 ^ n) e) in
    has_from (value_at t) (2 ^ t.vars) 0 (minterm_of xs) (omega arith) (omega (arith, most))

pub ones_give : OnesGiveTable
ones_give t = record { rise = ones_rise (value_at t) (2 ^ t.vars) 0; small = ones_small (value_at t) (2 ^ t.vars) 0 (2 ^ t.vars) (omega arith); values = ones_value_is t }
