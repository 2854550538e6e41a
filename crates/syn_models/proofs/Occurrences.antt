-- How often a word stands in a list. No word stands twice where each stands at most once.
use Rattle.std.proofs.Common.{◌≡◌, ℕ, ◌+◌, ◌≤◌, not, Bool, true, false, List, [], ◌∷◌, ◌++◌, bytes_eq, refl, ap, subst, inl, inr, arith}
use Rattle.std.proofs.lemmas.Bool.{and_parts, and_from, or_cases, or_parts, cases_Bool, both_ways, not-true, not_from_false, false_from_ne_true}
use Rattle.syn_netlist.specs.Words.{has_word, distinct}
use Rattle.syn_netlist.proofs.Sets.{same_word, word_same}

abbrev pub bit : Bool → ℕ
bit true = 1
bit false = 0

abbrev pub occ : List ℕ → List (List ℕ) → ℕ
occ w [] = 0
occ w (x ∷ xs) = bit (bytes_eq x w) + occ w xs

pub bit-le : (b : Bool) → bit b ≤ 1
bit-le true = omega arith
bit-le false = omega arith

pub bit-on : (b : Bool) → b ≡ true → bit b ≡ 1
bit-on b e = ap bit e

pub bit-off : (b : Bool) → b ≡ false → bit b ≡ 0
bit-off b e = ap bit e

pub occ-append : (w : List ℕ) (xs ys : List (List ℕ)) → occ w (xs ++ ys) ≡ occ w xs + occ w ys
occ-append w [] ys = omega arith
occ-append w (x ∷ xs) ys = omega (arith, occ-append w xs ys)

pub occ_none : (w : List ℕ) (xs : List (List ℕ)) → has_word xs w ≡ false → occ w xs ≡ 0
occ_none w [] h = refl
occ_none w (x ∷ xs) h = let parts = or_parts (bytes_eq x w) (has_word xs w) h in omega (arith, bit-off (bytes_eq x w) parts.0, occ_none w xs parts.1)

pub occ_some : (w : List ℕ) (xs : List (List ℕ)) → has_word xs w ≡ true → 1 ≤ occ w xs
occ_some w [] h = absurd (both_ways false refl h)
occ_some w (x ∷ xs) h = elim (or_cases (bytes_eq x w) (has_word xs w) h) [
  | inl e ↦ omega (arith, bit-on (bytes_eq x w) e)
  | inr t ↦ omega (arith, occ_some w xs t)
]

pub none_occ : (w : List ℕ) (xs : List (List ℕ)) → occ w xs ≡ 0 → has_word xs w ≡ false
none_occ w xs e = false_from_ne_true (has_word xs w) (λ h. let s = occ_some w xs h in absurd (omega arith))

pub occ_once : (w : List ℕ) (xs : List (List ℕ)) → distinct xs ≡ true → occ w xs ≤ 1
occ_once w [] d = omega arith
occ_once w (x ∷ xs) d =
    let parts = and_parts (not (has_word xs x)) (distinct xs) d in
    elim (cases_Bool (bytes_eq x w)) [
      | inl e ↦ omega (arith, bit-on (bytes_eq x w) e, occ_none w xs (subst (λ (k : List ℕ). has_word xs k ≡ false) (same_word x w e) (not-true (has_word xs x) parts.0)))
      | inr e ↦ omega (arith, bit-off (bytes_eq x w) e, occ_once w xs parts.1)
    ]

pub once_occ : (xs : List (List ℕ)) → ((w : List ℕ) → occ w xs ≤ 1) → distinct xs ≡ true
once_occ [] h = refl
once_occ (x ∷ xs) h = and_from (not (has_word xs x)) (distinct xs)
    (not_from_false (has_word xs x) (none_occ x xs (let a = h x in let b : bit (bytes_eq x x) ≡ 1 = bit-on (bytes_eq x x) (word_same x) in omega arith)))
    (once_occ xs (λ w. let a = h w in omega arith))
