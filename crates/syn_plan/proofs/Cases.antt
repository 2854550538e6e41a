-- The cases of factoring: what each says of the two cofactors, and that what it builds is the function.
use Rattle.std.proofs.Common.{◌≡◌, ℕ, suc, ◌+◌, ◌*◌, ◌/◌, ◌<◌, Bool, true, false, not, ◌&&◌, cond, List, [], ◌∷◌, length, get_or, refl, sym, ap, ap₂, ◌∙◌, arith}
use Rattle.std.proofs.lemmas.Bool.{and_parts, cond_both}
use Rattle.std.proofs.lemmas.List.{set-get_or}
use Rattle.std.specs.Bool.{beq}
use Rattle.syn_truth.specs.Truth.{AtEach}
use Rattle.syn_truth.proofs.Each.{each_at, same_from_test}
use Rattle.syn_plan.specs.declared.PLit.{PLit}
use Rattle.syn_plan.specs.declared.factors.Split.{Split}
use Rattle.syn_plan.specs.declared.factors.Split.TheVariants.{Plain, Complemented, AndHigh, AndLow, OrLow, OrHigh, Exclusive, Choice}
use Rattle.syn_plan.specs.Gates.{index_of, literal_of, complement_of, values_after}
use Rattle.syn_plan.specs.Factoring.{Built, with_gate, joined, split_of, cofactor_of, is_constant, is_complement}
use Rattle.syn_plan.proofs.Builds.{IsBuilt, after, literal_built, complement_built, gate_built, built_then, built_as, choice_of, choice_built, literal_value-even, literal_value-complement_of, index_of-complement_of, get_or-values_after}

-- ---- what a case tells
pub constant_at : (n : ℕ) (f : List Bool → Bool) (v : Bool) → is_constant n f v ≡ true → AtEach n (λ xs. f xs ≡ v)
constant_at n f v h xs e = same_from_test (f xs) v (each_at n (λ xs. beq (f xs) v) h xs e)

pub complement_at : (n : ℕ) (f g : List Bool → Bool) → is_complement n f g ≡ true → AtEach n (λ xs. f xs ≡ not (g xs))
complement_at n f g h xs e = same_from_test (f xs) (not (g xs)) (each_at n (λ xs. beq (f xs) (not (g xs))) h xs e)

abbrev pub Tells : ℕ → (List Bool → Bool) → (List Bool → Bool) → Split → Type 0
Tells n low high Plain = AtEach n (λ xs. low xs ≡ false) × AtEach n (λ xs. high xs ≡ true)
Tells n low high Complemented = AtEach n (λ xs. low xs ≡ true) × AtEach n (λ xs. high xs ≡ false)
Tells n low high AndHigh = AtEach n (λ xs. low xs ≡ false)
Tells n low high AndLow = AtEach n (λ xs. high xs ≡ false)
Tells n low high OrLow = AtEach n (λ xs. low xs ≡ true)
Tells n low high OrHigh = AtEach n (λ xs. high xs ≡ true)
Tells n low high Exclusive = AtEach n (λ xs. low xs ≡ not (high xs))
Tells n low high Choice = Unit {0}

module _ (n : ℕ) (low high : List Bool → Bool) where
  abbrev P : Split → Type 0
  P s = Tells n low high s

  pub split_tells : Tells n low high (split_of n low high)
  split_tells =
      cond_both (is_constant n low false && is_constant n high true) Plain _ P (λ h. (constant_at n low false (and_parts _ _ h).0, constant_at n high true (and_parts _ _ h).1)) (λ _.
      cond_both (is_constant n low true && is_constant n high false) Complemented _ P (λ h. (constant_at n low true (and_parts _ _ h).0, constant_at n high false (and_parts _ _ h).1)) (λ _.
      cond_both (is_constant n low false) AndHigh _ P (constant_at n low false) (λ _.
      cond_both (is_constant n high false) AndLow _ P (constant_at n high false) (λ _.
      cond_both (is_constant n low true) OrLow _ P (constant_at n low true) (λ _.
      cond_both (is_constant n high true) OrHigh _ P (constant_at n high true) (λ _.
      cond_both (is_complement n low high) Exclusive Choice P (complement_at n low high) (λ _. tt)))))))

-- ---- a function by its two cofactors
pick : (f : List Bool → Bool) (x : ℕ) (xs : List Bool) (b : Bool) → cond b (cofactor_of f x true xs) (cofactor_of f x false xs) ≡ cofactor_of f x b xs
pick f x xs true = refl
pick f x xs false = refl

by_cofactors : (f : List Bool → Bool) (x : ℕ) (xs : List Bool) → cond (get_or xs x false) (cofactor_of f x true xs) (cofactor_of f x false xs) ≡ f xs
by_cofactors f x xs = pick f x xs (get_or xs x false) ∙ ap f (set-get_or xs x false)

not_twice : (b : Bool) → b ≡ not (not b)
not_twice true = refl
not_twice false = refl

-- the formula of each case
plain_is : (x low high : Bool) → low ≡ false → high ≡ true → x ≡ cond x high low
plain_is true low high e h = sym h
plain_is false low high e h = sym e

complemented_is : (x low high : Bool) → low ≡ true → high ≡ false → not x ≡ cond x high low
complemented_is true low high e h = sym h
complemented_is false low high e h = sym e

and_high_is : (x low high : Bool) → low ≡ false → (x && high) ≡ cond x high low
and_high_is true low high e = refl
and_high_is false low high e = sym e

and_low_is : (x low high : Bool) → high ≡ false → (not x && low) ≡ cond x high low
and_low_is true low high e = sym e
and_low_is false low high e = refl

or_low_is : (x low high : Bool) → low ≡ true → not (x && not high) ≡ cond x high low
or_low_is true low true e = refl
or_low_is true low false e = refl
or_low_is false low high e = sym e

or_high_is : (x low high : Bool) → high ≡ true → not (not x && not low) ≡ cond x high low
or_high_is true low high e = sym e
or_high_is false true high e = refl
or_high_is false false high e = refl

choice_is : (x low high : Bool) → choice_of x high low ≡ cond x high low
choice_is true low true = refl
choice_is true low false = refl
choice_is false true high = refl
choice_is false false high = refl

-- ---- the gates of each case
-- how many gates a case takes, where each cofactor takes at most m
abbrev pub cost_of : Split → ℕ → ℕ
cost_of Plain m = 0
cost_of Complemented m = 0
cost_of AndHigh m = m + 1
cost_of AndLow m = m + 1
cost_of OrLow m = m + 1
cost_of OrHigh m = m + 1
cost_of Exclusive m = m + 3
cost_of Choice m = m + m + 3

module _ (n x m : ℕ) (f : List Bool → Bool) (low high : List (PLit × PLit) → Built) (within : x < n)
    (low_built : (gates : List (PLit × PLit)) → IsBuilt n gates (low gates) (cofactor_of f x false) m)
    (high_built : (gates : List (PLit × PLit)) → IsBuilt n gates (high gates) (cofactor_of f x true) m)
    (gates : List (PLit × PLit)) where
  abbrev leaf : PLit
  leaf = literal_of (1 + x)

  leaf_there : (more : List (PLit × PLit)) → index_of leaf < 1 + n + length more
  leaf_there more = omega arith

  leaf_value : (more : List (PLit × PLit)) (xs : List Bool) → length xs ≡ n → after more xs leaf ≡ get_or xs x false
  leaf_value more xs e =
      let index : (2 * (1 + x)) / 2 ≡ suc x = omega arith in
      literal_value-even (values_after (false ∷ xs) more) (2 * (1 + x)) (omega arith)
      ∙ ap (λ i. get_or (values_after (false ∷ xs) more) i false) index
      ∙ get_or-values_after (false ∷ xs) more (suc x) (omega arith)

  not_leaf_value : (more : List (PLit × PLit)) (xs : List Bool) → length xs ≡ n → after more xs (complement_of leaf) ≡ not (get_or xs x false)
  not_leaf_value more xs e = literal_value-complement_of (values_after (false ∷ xs) more) leaf ∙ ap not (leaf_value more xs e)

  pub joined_built : (s : Split) → Tells n (cofactor_of f x false) (cofactor_of f x true) s → IsBuilt n gates (joined n s leaf low high gates) f (cost_of s m)
  joined_built Plain t =
      built_as n gates _ _ f 0 0 (literal_built n gates leaf (leaf_there gates))
      (λ xs e. leaf_value gates xs e ∙ plain_is (get_or xs x false) _ _ (t.0 xs e) (t.1 xs e) ∙ by_cofactors f x xs)
      (omega arith)
  joined_built Complemented t =
      built_as n gates _ _ f 0 0 (complement_built n gates (record { gates = gates; out = leaf }) _ 0 (literal_built n gates leaf (leaf_there gates)))
      (λ xs e. ap not (leaf_value gates xs e) ∙ complemented_is (get_or xs x false) _ _ (t.0 xs e) (t.1 xs e) ∙ by_cofactors f x xs)
      (omega arith)
  joined_built AndHigh t =
      built_as n gates _ _ f (m + 1) (m + 1)
      (built_then n gates (high gates) _ _ _ m 1 (high_built gates) (gate_built n (high gates).gates leaf (high gates).out))
      (λ xs e. ap₂ (λ a b. a && b) (leaf_value (high gates).gates xs e) ((high_built gates).value xs e)
      ∙ and_high_is (get_or xs x false) _ _ (t xs e) ∙ by_cofactors f x xs)
      (omega arith)
  joined_built AndLow t =
      built_as n gates _ _ f (m + 1) (m + 1)
      (built_then n gates (low gates) _ _ _ m 1 (low_built gates) (gate_built n (low gates).gates (complement_of leaf) (low gates).out))
      (λ xs e. ap₂ (λ a b. a && b) (not_leaf_value (low gates).gates xs e) ((low_built gates).value xs e)
      ∙ and_low_is (get_or xs x false) _ _ (t xs e) ∙ by_cofactors f x xs)
      (omega arith)
  joined_built OrLow t =
      built_as n gates _ _ f (m + 1) (m + 1)
      (built_then n gates (high gates) _ _ _ m 1 (high_built gates)
      (complement_built n (high gates).gates (with_gate n (high gates).gates leaf (complement_of (high gates).out)) _ 1 (gate_built n (high gates).gates leaf (complement_of (high gates).out))))
      (λ xs e. ap₂ (λ a b. not (a && b)) (leaf_value (high gates).gates xs e)
      (literal_value-complement_of (values_after (false ∷ xs) (high gates).gates) (high gates).out ∙ ap not ((high_built gates).value xs e))
      ∙ or_low_is (get_or xs x false) _ _ (t xs e) ∙ by_cofactors f x xs)
      (omega arith)
  joined_built OrHigh t =
      built_as n gates _ _ f (m + 1) (m + 1)
      (built_then n gates (low gates) _ _ _ m 1 (low_built gates)
      (complement_built n (low gates).gates (with_gate n (low gates).gates (complement_of leaf) (complement_of (low gates).out)) _ 1 (gate_built n (low gates).gates (complement_of leaf) (complement_of (low gates).out))))
      (λ xs e. ap₂ (λ a b. not (a && b)) (not_leaf_value (low gates).gates xs e)
      (literal_value-complement_of (values_after (false ∷ xs) (low gates).gates) (low gates).out ∙ ap not ((low_built gates).value xs e))
      ∙ or_high_is (get_or xs x false) _ _ (t xs e) ∙ by_cofactors f x xs)
      (omega arith)
  joined_built Exclusive t =
      built_as n gates _ _ f (m + 3) (m + 3)
      (built_then n gates (low gates) _ _ _ m 3 (low_built gates)
      (choice_built n (low gates).gates leaf (complement_of (low gates).out) (low gates).out
      (leaf_there (low gates).gates)
      (omega (arith, index_of-complement_of [] (low gates).out, (low_built gates).there))
      (low_built gates).there))
      (λ xs e. ap (λ v. choice_of v (after (low gates).gates xs (complement_of (low gates).out)) (after (low gates).gates xs (low gates).out)) (leaf_value (low gates).gates xs e)
      ∙ ap₂ (λ a b. choice_of (get_or xs x false) a b)
      (literal_value-complement_of (values_after (false ∷ xs) (low gates).gates) (low gates).out ∙ ap not ((low_built gates).value xs e ∙ t xs e) ∙ sym (not_twice (cofactor_of f x true xs)))
      ((low_built gates).value xs e)
      ∙ choice_is (get_or xs x false) _ _ ∙ by_cofactors f x xs)
      (omega arith)
  joined_built Choice t =
      built_as n gates _ _ f (m + m + 3) (m + m + 3)
      (built_then n gates (high (low gates).gates) _ _ _ (m + m) 3
      (built_then n gates (low gates) _ _ _ m m (low_built gates) (high_built (low gates).gates))
      (choice_built n (high (low gates).gates).gates leaf (high (low gates).gates).out (low gates).out
      (leaf_there (high (low gates).gates).gates)
      (high_built (low gates).gates).there
      (omega (arith, (low_built gates).there, (high_built (low gates).gates).longer))))
      (λ xs e. ap (λ v. choice_of v (after (high (low gates).gates).gates xs (high (low gates).gates).out) (after (high (low gates).gates).gates xs (low gates).out)) (leaf_value (high (low gates).gates).gates xs e)
      ∙ ap₂ (λ a b. choice_of (get_or xs x false) a b)
      ((high_built (low gates).gates).value xs e)
      ((high_built (low gates).gates).kept (low gates).out (low_built gates).there xs e ∙ (low_built gates).value xs e)
      ∙ choice_is (get_or xs x false) _ _ ∙ by_cofactors f x xs)
      (omega arith)
