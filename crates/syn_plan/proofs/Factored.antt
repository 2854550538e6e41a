-- What factoring builds is the function, in few gates.
use Rattle.std.proofs.Common.{◌≡◌, ℕ, suc, ◌+◌, ◌-◌, ◌^◌, ◌≤◌, Bool, true, false, not, ◌&&◌, cond, ltb, List, [], ◌∷◌, length, refl, sym, ap, ap₂, ◌∙◌, inl, inr, arith}
use Rattle.std.proofs.Math.ListN.{set}
use Rattle.std.proofs.Math.Nat.{pow-le-pow_right}
use Rattle.std.proofs.lemmas.List.{length-set}
use Rattle.std.proofs.lemmas.Bool.{and_parts, cases_Bool, cond_both, ltb-true}
use mathlib.Core.Path.{fun_ext}
use Rattle.std.specs.Bool.{beq}
use Rattle.std.specs.Prelude.{if◌then◌else◌}
use Rattle.std.specs.List.{list_all}
use Rattle.syn_truth.specs.Truth.{AtEach}
use Rattle.syn_truth.proofs.Each.{each_same, some_from}
use Rattle.syn_plan.specs.declared.PLit.{PLit}
use Rattle.syn_plan.specs.declared.factors.Split.{Split}
use Rattle.syn_plan.specs.declared.factors.Split.TheVariants.{Plain, Complemented, AndHigh, AndLow, OrLow, OrHigh, Exclusive, Choice}
use Rattle.syn_plan.specs.Gates.{literal_of}
use Rattle.syn_plan.specs.Factoring.{Built, joined, split_of, cofactor_of, is_constant, depends_on, factored_after, Covers, most_gates}
use Rattle.syn_plan.proofs.Builds.{IsBuilt, literal_built, built_as, get_or-values_after}
use Rattle.syn_plan.proofs.Cases.{cost_of, split_tells, joined_built, constant_at}
use Rattle.syn_plan.proofs.Covered.{covers_none, covers_rest, covers_cofactor, case_cost}

constant_built : (n : ℕ) (gates : List (PLit × PLit)) (c : Bool) → IsBuilt n gates (record { gates = gates; out = record { 0 = cond c 1 0 } }) (λ xs. c) 0
constant_built n gates true =
    built_as n gates _ _ _ 0 0 (literal_built n gates (record { 0 = 1 }) (omega arith))
    (λ xs e. ap not (get_or-values_after (false ∷ xs) gates 0 (omega arith))) (omega arith)
constant_built n gates false =
    built_as n gates _ _ _ 0 0 (literal_built n gates (record { 0 = 0 }) (omega arith))
    (λ xs e. get_or-values_after (false ∷ xs) gates 0 (omega arith)) (omega arith)

false_from_differs : (b : Bool) → beq b true ≡ false → false ≡ b
false_from_differs true e = sym e
false_from_differs false e = refl

-- a function that depends on nothing has the value that the test on 1 tells
pub constant_value : (n : ℕ) (f : List Bool → Bool) → Covers n [] f → AtEach n (λ xs. is_constant n f true ≡ f xs)
constant_value n f h xs e =
    elim (cases_Bool (is_constant n f true)) [
      | inl t ↦ t ∙ sym (constant_at n f true t xs e)
      | inr t ↦
          let at : (ys : List Bool) × (length ys ≡ n) × (beq (f ys) true ≡ false) = some_from n (λ ys. beq (f ys) true) t in
          t ∙ false_from_differs (f at.0) at.2 ∙ covers_none n f h at.0 xs at.1 e
    ]

most_grows : (k : ℕ) → most_gates k ≤ most_gates (suc k)
most_grows k =
    let grown : 2 ^ (k - 1) ≤ 2 ^ (suc k - 1) = pow-le-pow_right (omega arith) (omega arith) in
    omega (arith, grown)

pub is_factored : (n : ℕ) (order : List ℕ) (f : List Bool → Bool) (gates : List (PLit × PLit)) → list_all (λ i. ltb i n) order ≡ true → Covers n order f → IsBuilt n gates (factored_after n order f gates) f (most_gates (length order))
unfolding factored_after
is_factored n [] f gates r h =
    built_as n gates _ _ f 0 0 (constant_built n gates (is_constant n f true)) (constant_value n f h) (omega arith)
is_factored n (x ∷ order) f gates r h =
    let parts : (ltb x n ≡ true) × (list_all (λ i. ltb i n) order ≡ true) = and_parts _ _ r in
    cond_both (depends_on n f x) _ _ (λ b. IsBuilt n gates b f (most_gates (suc (length order))))
    (λ d. built_as n gates _ f f (cost_of (split_of n (cofactor_of f x false) (cofactor_of f x true)) (most_gates (length order))) (most_gates (suc (length order)))
    (joined_built n x (most_gates (length order)) f (factored_after n order (cofactor_of f x false)) (factored_after n order (cofactor_of f x true)) (ltb-true x n parts.0)
    (λ more. is_factored n order (cofactor_of f x false) more parts.1 (covers_cofactor n x order f false h))
    (λ more. is_factored n order (cofactor_of f x true) more parts.1 (covers_cofactor n x order f true h))
    gates
    (split_of n (cofactor_of f x false) (cofactor_of f x true))
    (split_tells n (cofactor_of f x false) (cofactor_of f x true)))
    (λ xs e. refl)
    (case_cost n x order f h d))
    (λ d. built_as n gates _ f f (most_gates (length order)) (most_gates (suc (length order)))
    (is_factored n order f gates parts.1 (covers_rest n x order f h d))
    (λ xs e. refl)
    (most_grows (length order)))

cond-same : {X : Type 0} (b c : Bool) (x y z w : X) → b ≡ c → x ≡ z → y ≡ w → cond b x y ≡ cond c z w
cond-same b c x y z w e h k = ap (λ t. cond t x y) e ∙ ap₂ (λ s t. cond c s t) h k

abbrev record_of : List (PLit × PLit) → PLit → Built
record_of gates out = record { gates = gates; out = out }

-- ---- factoring sees only the values of a function
module _ (n : ℕ) (f g : List Bool → Bool) (same : AtEach n (λ xs. f xs ≡ g xs)) where
  is_constant-same : (v : Bool) → is_constant n f v ≡ is_constant n g v
  is_constant-same v = each_same n (λ xs. beq (f xs) v) (λ xs. beq (g xs) v) (λ xs e. ap (λ b. beq b v) (same xs e))

  cofactor_of-same : (x : ℕ) (v : Bool) → AtEach n (λ xs. cofactor_of f x v xs ≡ cofactor_of g x v xs)
  cofactor_of-same x v xs e = same (set xs x v) (length-set xs x v ∙ e)

  depends_on-same : (x : ℕ) → depends_on n f x ≡ depends_on n g x
  depends_on-same x =
      ap not (each_same n (λ xs. beq (f (set xs x true)) (f (set xs x false))) (λ xs. beq (g (set xs x true)) (g (set xs x false)))
      (λ xs e. ap₂ beq (cofactor_of-same x true xs e) (cofactor_of-same x false xs e)))

-- the case by its tests
abbrev pub split_by : Bool → Bool → Bool → Bool → Bool → Split
split_by low_zero low_one high_zero high_one opposite =
    if low_zero && high_one then Plain
    else if low_one && high_zero then Complemented
    else if low_zero then AndHigh
    else if high_zero then AndLow
    else if low_one then OrLow
    else if high_one then OrHigh
    else if opposite then Exclusive
    else Choice

pub split_by-same : (a b c d e a' b' c' d' e' : Bool) → a ≡ a' → b ≡ b' → c ≡ c' → d ≡ d' → e ≡ e' → split_by a b c d e ≡ split_by a' b' c' d' e'
split_by-same a b c d e a' b' c' d' e' p q r s t =
    ap (λ x. split_by x b c d e) p ∙ ap (λ x. split_by a' x c d e) q ∙ ap (λ x. split_by a' b' x d e) r ∙ ap (λ x. split_by a' b' c' x e) s ∙ ap (λ x. split_by a' b' c' d' x) t

pub split_of-same : (n : ℕ) (low high low' high' : List Bool → Bool) → AtEach n (λ xs. low xs ≡ low' xs) → AtEach n (λ xs. high xs ≡ high' xs) → split_of n low high ≡ split_of n low' high'
split_of-same n low high low' high' h k =
    split_by-same _ _ _ _ _ _ _ _ _ _
    (is_constant-same n low low' h false) (is_constant-same n low low' h true)
    (is_constant-same n high high' k false) (is_constant-same n high high' k true)
    (each_same n (λ xs. beq (low xs) (not (high xs))) (λ xs. beq (low' xs) (not (high' xs))) (λ xs e. ap₂ (λ a b. beq a (not b)) (h xs e) (k xs e)))

joined-same : (n : ℕ) (s : Split) (x : PLit) (low high low' high' : List (PLit × PLit) → Built) → ((gates : List (PLit × PLit)) → low gates ≡ low' gates) → ((gates : List (PLit × PLit)) → high gates ≡ high' gates) → (gates : List (PLit × PLit)) → joined n s x low high gates ≡ joined n s x low' high' gates
joined-same n s x low high low' high' h k gates = ap₂ (λ a b. joined n s x a b gates) (fun_ext h) (fun_ext k)

pub factored_after-same : (n : ℕ) (order : List ℕ) (f g : List Bool → Bool) → AtEach n (λ xs. f xs ≡ g xs) → (gates : List (PLit × PLit)) → factored_after n order f gates ≡ factored_after n order g gates
unfolding factored_after
factored_after-same n [] f g same gates =
    ap (λ c. record_of gates (record { 0 = cond c 1 0 })) (is_constant-same n f g same true)
factored_after-same n (x ∷ order) f g same gates =
    let low : AtEach n (λ xs. cofactor_of f x false xs ≡ cofactor_of g x false xs) = cofactor_of-same n f g same x false in
    let high : AtEach n (λ xs. cofactor_of f x true xs ≡ cofactor_of g x true xs) = cofactor_of-same n f g same x true in
    cond-same _ _ _ _ _ _
    (depends_on-same n f g same x)
    (ap (λ s. joined n s (literal_of (1 + x)) (factored_after n order (cofactor_of f x false)) (factored_after n order (cofactor_of f x true)) gates)
    (split_of-same n _ _ _ _ low high)
    ∙ joined-same n (split_of n (cofactor_of g x false) (cofactor_of g x true)) (literal_of (1 + x)) _ _ _ _
    (λ more. factored_after-same n order (cofactor_of f x false) (cofactor_of g x false) low more)
    (λ more. factored_after-same n order (cofactor_of f x true) (cofactor_of g x true) high more)
    gates)
    (factored_after-same n order f g same gates)
