-- Marks by number.
use Rattle.std.proofs.Common.{◌≡◌, ℕ, ◌<◌, ◌||◌, not, nat_eq, Bool, true, false, List, [], ◌∷◌, ◌++◌, refl, sym, ap, ap₂, ◌∙◌, subst, inl, inr, append_assoc, cond}
use Rattle.std.proofs.lemmas.Bool.{cases_Bool, cond-true, cond-false, or_left, or_right, not_from_false, not_from_true}
use Rattle.std.proofs.lemmas.Bool.{eqb-true}
use Rattle.std.proofs.lemmas.List.Elements.{filter_agree}
use Rattle.syn_netlist.specs.Marks.{first_numbers}
use Rattle.syn_lists.specs.Numbers.{has_number, without_numbers}
use Rattle.syn_lists.proofs.Once.{has_number-append}

or_none : (b : Bool) → (b || false) ≡ b
or_none true = refl
or_none false = refl

-- taking away one number's repeats twice

without-without : (xs ys zs : List ℕ) → without_numbers xs (without_numbers ys zs) ≡ without_numbers (xs ++ ys) zs
without-without xs ys [] = refl
without-without xs ys (z ∷ zs) = elim (cases_Bool (has_number ys z)) [
  | inl e ↦
      ap (without_numbers xs) (cond-false (not (has_number ys z)) (z ∷ without_numbers ys zs) (without_numbers ys zs) (not_from_true (has_number ys z) e)) ∙ without-without xs ys zs
      ∙ sym (cond-false (not (has_number (xs ++ ys) z)) (z ∷ without_numbers (xs ++ ys) zs) (without_numbers (xs ++ ys) zs) (not_from_true (has_number (xs ++ ys) z) (has_number-append xs ys z ∙ or_right (has_number xs z) (has_number ys z) e)))
  | inr e ↦
      ap (without_numbers xs) (cond-true (not (has_number ys z)) (z ∷ without_numbers ys zs) (without_numbers ys zs) (not_from_false (has_number ys z) e))
      ∙ ap₂ (λ b (l : List ℕ). cond (not b) (z ∷ l) l) (sym (has_number-append xs ys z ∙ ap (λ b. has_number xs z || b) e ∙ or_none (has_number xs z))) (without-without xs ys zs)
]

-- what is there, then what is first in the rest
abbrev pub firsts_after : List ℕ → List ℕ → List ℕ
firsts_after found rest = found ++ without_numbers found (first_numbers rest)

-- the numbers after one was added where it is new
abbrev pub with_number : List ℕ → ℕ → List ℕ
with_number found n = cond (has_number found n) found (found ++ n ∷ [])

without_known : (found : List ℕ) (n : ℕ) (ns : List ℕ) → has_number found n ≡ true → without_numbers (found ++ n ∷ []) ns ≡ without_numbers found ns
without_known found n ns h = filter_agree (λ x. not (has_number (found ++ n ∷ []) x)) (λ x. not (has_number found x)) (λ x. ap not (agree x)) ns
  where
    agree : (x : ℕ) → has_number (found ++ n ∷ []) x ≡ has_number found x
    agree x = elim (cases_Bool (nat_eq n x)) [
      | inl e ↦ let there = subst (λ k. has_number found k ≡ true) (eqb-true n x e) h in has_number-append found (n ∷ []) x ∙ or_left (has_number found x) (nat_eq n x || false) there ∙ sym there
      | inr e ↦ has_number-append found (n ∷ []) x ∙ ap (λ b. has_number found x || (b || false)) e ∙ or_none (has_number found x)
    ]

pub firsts_more : (found : List ℕ) (n : ℕ) (rest : List ℕ) → firsts_after (with_number found n) rest ≡ firsts_after found (n ∷ rest)
firsts_more found n rest = elim (cases_Bool (has_number found n)) [
  | inl e ↦
      ap (λ (f : List ℕ). firsts_after f rest) (cond-true (has_number found n) found (found ++ n ∷ []) e)
      ∙ ap (λ (l : List ℕ). found ++ l) (sym (cond-false (not (has_number found n)) (n ∷ without_numbers found (without_numbers (n ∷ []) (first_numbers rest))) (without_numbers found (without_numbers (n ∷ []) (first_numbers rest))) (not_from_true (has_number found n) e)
      ∙ without-without found (n ∷ []) (first_numbers rest) ∙ without_known found n (first_numbers rest) e))
  | inr e ↦
      ap (λ (f : List ℕ). firsts_after f rest) (cond-false (has_number found n) found (found ++ n ∷ []) e)
      ∙ append_assoc found (n ∷ []) (without_numbers (found ++ n ∷ []) (first_numbers rest))
      ∙ ap (λ (l : List ℕ). found ++ l) (sym (cond-true (not (has_number found n)) (n ∷ without_numbers found (without_numbers (n ∷ []) (first_numbers rest))) (without_numbers found (without_numbers (n ∷ []) (first_numbers rest))) (not_from_false (has_number found n) e)
      ∙ ap (λ (l : List ℕ). n ∷ l) (without-without found (n ∷ []) (first_numbers rest))))
]

pub firsts_none : (ns : List ℕ) → firsts_after [] ns ≡ first_numbers ns
firsts_none ns = without_none (first_numbers ns)
  where
    without_none : (ns : List ℕ) → without_numbers [] ns ≡ ns
    without_none [] = refl
    without_none (n ∷ ns) = ap (λ (l : List ℕ). n ∷ l) (without_none ns)
