-- Functions that depend on no variable that an order does not name.
use Rattle.std.proofs.Common.{◌≡◌, ℕ, zero, suc, ◌-◌, ◌*◌, ◌^◌, ◌<◌, ◌≤◌, Bool, true, false, not, ◌&&◌, eqb, List, [], ◌∷◌, length, replicate, refl, sym, ap, ◌∙◌, subst, inl, inr, arith}
use Rattle.std.proofs.Math.ListN.{set}
use Rattle.std.proofs.Math.Nat.{pow-suc}
use Rattle.std.proofs.lemmas.Nat.{pow_pos}
use Rattle.std.proofs.lemmas.Bool.{and_from, and_left, cond-true, cond-false, or_cases, cases_eq, eqb-true, not-false, not_from_true, false≢true, true_from_ne_false, false_from_ne_true}
use Rattle.std.proofs.lemmas.List.{set-set, set_comm, length-set, length-replicate}
use Rattle.std.specs.Bool.{beq}
use Rattle.std.specs.List.{list_any}
use Rattle.syn_truth.specs.Truth.{AtEach}
use Rattle.syn_truth.proofs.Each.{each_at, each_from, same_from_test, same_test}
use Rattle.syn_plan.specs.declared.factors.Split.{Split}
use Rattle.syn_plan.specs.declared.factors.Split.TheVariants.{Plain, Complemented, AndHigh, AndLow, OrLow, OrHigh, Exclusive, Choice}
use Rattle.syn_plan.specs.Factoring.{split_of, cofactor_of, is_constant, depends_on, Covers, most_gates}
use Rattle.syn_plan.proofs.Cases.{cost_of, constant_at}

-- a variable on which f does not depend may be set to anything
pub unchanged : (n : ℕ) (f : List Bool → Bool) (i : ℕ) → depends_on n f i ≡ false → AtEach n (λ xs. f (set xs i true) ≡ f (set xs i false))
unchanged n f i h xs e =
    same_from_test (f (set xs i true)) (f (set xs i false))
    (each_at n (λ ys. beq (f (set ys i true)) (f (set ys i false))) (not-false _ h) xs e)

pub depends_from : (n : ℕ) (f : List Bool → Bool) (i : ℕ) → (AtEach n (λ xs. f (set xs i true) ≡ f (set xs i false)) → ⊥) → depends_on n f i ≡ true
depends_from n f i h =
    true_from_ne_false (depends_on n f i) (λ e. h (unchanged n f i e))

pub independent_from : (n : ℕ) (f : List Bool → Bool) (i : ℕ) → AtEach n (λ xs. f (set xs i true) ≡ f (set xs i false)) → depends_on n f i ≡ false
independent_from n f i h =
    not_from_true _ (each_from n (λ ys. beq (f (set ys i true)) (f (set ys i false))) (λ xs e. same_test _ _ (h xs e)))

-- ---- a function that depends on no variable is constant
head_free : (n : ℕ) (f : List Bool → Bool) → AtEach (suc n) (λ xs. f (set xs 0 true) ≡ f (set xs 0 false)) → (x y : Bool) (xs : List Bool) → length xs ≡ n → f (x ∷ xs) ≡ f (y ∷ xs)
head_free n f h true true xs e = refl
head_free n f h false false xs e = refl
head_free n f h true false xs e = h (true ∷ xs) (ap suc e)
head_free n f h false true xs e = sym (h (true ∷ xs) (ap suc e))

pub one_value : (n : ℕ) (f : List Bool → Bool) → ((i : ℕ) → i < n → AtEach n (λ xs. f (set xs i true) ≡ f (set xs i false))) → (xs ys : List Bool) → length xs ≡ n → length ys ≡ n → f xs ≡ f ys
one_value zero f h [] [] e k = refl
one_value zero f h [] (y ∷ ys) e k = absurd (omega arith)
one_value zero f h (x ∷ xs) ys e k = absurd (omega arith)
one_value (suc n) f h [] ys e k = absurd (omega arith)
one_value (suc n) f h (x ∷ xs) [] e k = absurd (omega arith)
one_value (suc n) f h (x ∷ xs) (y ∷ ys) e k =
    head_free n f (h 0 (omega arith)) x y xs (omega arith)
    ∙ one_value n (λ zs. f (y ∷ zs)) (λ i l zs m. h (suc i) (omega arith) (y ∷ zs) (ap suc m)) xs ys (omega arith) (omega arith)

-- ---- covers
pub covers_none : (n : ℕ) (f : List Bool → Bool) → Covers n [] f → (xs ys : List Bool) → length xs ≡ n → length ys ≡ n → f xs ≡ f ys
covers_none n f h =
    one_value n f (λ i l. unchanged n f i (false_from_ne_true _ (λ d. false≢true (h i l d))))

pub covers_rest : (n x : ℕ) (order : List ℕ) (f : List Bool → Bool) → Covers n (x ∷ order) f → depends_on n f x ≡ false → Covers n order f
covers_rest n x order f h e i l d =
    elim (or_cases (eqb x i) (list_any (λ y. eqb y i) order) (h i l d))
    [ inl k ↦ absurd (false≢true (sym e ∙ ap (depends_on n f) (eqb-true x i k) ∙ d)) | inr k ↦ k ]

apart : (v : Bool) → v ≡ not v → ⊥
apart true e = false≢true (sym e)
apart false e = false≢true e

own_variable : (n x : ℕ) (f : List Bool → Bool) (v : Bool) → depends_on n (cofactor_of f x v) x ≡ false
own_variable n x f v = independent_from n (cofactor_of f x v) x (λ xs e. ap f (set-set xs x true v ∙ sym (set-set xs x false v)))

pub other_variable : (n x i : ℕ) (f : List Bool → Bool) (v : Bool) → (x ≡ i → ⊥) → depends_on n f i ≡ false → depends_on n (cofactor_of f x v) i ≡ false
other_variable n x i f v ne h =
    independent_from n (cofactor_of f x v) i (λ xs e.
    ap f (set_comm xs i x true v (λ k. ne (sym k)))
    ∙ unchanged n f i h (set xs x v) (length-set xs x v ∙ e)
    ∙ ap f (sym (set_comm xs i x false v (λ k. ne (sym k)))))

-- a cofactor depends on no more variables, and not on its own
pub covers_cofactor : (n x : ℕ) (order : List ℕ) (f : List Bool → Bool) (v : Bool) → Covers n (x ∷ order) f → Covers n order (cofactor_of f x v)
covers_cofactor n x order f v h i l d =
    elim (cases_eq x i) [
      | inl e ↦ absurd (false≢true (sym (own_variable n x f v) ∙ ap (depends_on n (cofactor_of f x v)) e ∙ d))
      | inr e ↦
          elim (or_cases (eqb x i) (list_any (λ y. eqb y i) order) (h i l (true_from_ne_false _ (λ k. false≢true (sym (other_variable n x i f v e k) ∙ d)))))
          [ inl k ↦ absurd (e (eqb-true x i k)) | inr k ↦ k ]
    ]

-- ---- the last variable: the function is that variable or its complement
constant_tests : (n : ℕ) (f : List Bool → Bool) (v : Bool) → AtEach n (λ xs. f xs ≡ v) → (is_constant n f v ≡ true) × (is_constant n f (not v) ≡ false)
constant_tests n f v h = (
  each_from n (λ xs. beq (f xs) v) (λ xs e. same_test (f xs) v (h xs e)),
  false_from_ne_true _ (λ k. apart v (sym (h (replicate n false) (length-replicate n false)) ∙ constant_at n f (not v) k (replicate n false) (length-replicate n false))),
)

last_case : (n : ℕ) (low high : List Bool → Bool) (a b : Bool) → AtEach n (λ xs. low xs ≡ a) → AtEach n (λ xs. high xs ≡ b) → (a ≡ b → ⊥) → cost_of (split_of n low high) 0 ≡ 0
last_case n low high true true h k d = absurd (d refl)
last_case n low high false false h k d = absurd (d refl)
last_case n low high false true h k d =
    ap (λ s. cost_of s 0)
    (cond-true (is_constant n low false && is_constant n high true) Plain _
    (and_from _ _ (constant_tests n low false h).0 (constant_tests n high true k).0))
last_case n low high true false h k d =
    ap (λ s. cost_of s 0)
    (cond-false (is_constant n low false && is_constant n high true) Plain _
    (and_left (is_constant n low false) (is_constant n high true) (constant_tests n low true h).1)
    ∙ cond-true (is_constant n low true && is_constant n high false) Complemented _
    (and_from _ _ (constant_tests n low true h).0 (constant_tests n high false k).0))

last_variable : (n x : ℕ) (f : List Bool → Bool) → Covers n (x ∷ []) f → depends_on n f x ≡ true → cost_of (split_of n (cofactor_of f x false) (cofactor_of f x true)) 0 ≡ 0
last_variable n x f h d =
    let low : AtEach n (λ xs. cofactor_of f x false xs ≡ cofactor_of f x false (replicate n false)) =
    λ xs e. covers_none n (cofactor_of f x false) (covers_cofactor n x [] f false h) xs (replicate n false) e (length-replicate n false) in
    let high : AtEach n (λ xs. cofactor_of f x true xs ≡ cofactor_of f x true (replicate n false)) =
    λ xs e. covers_none n (cofactor_of f x true) (covers_cofactor n x [] f true h) xs (replicate n false) e (length-replicate n false) in
    last_case n (cofactor_of f x false) (cofactor_of f x true) _ _ low high
    (λ same. false≢true (sym (independent_from n f x (λ xs e. high xs e ∙ sym same ∙ sym (low xs e))) ∙ d))

-- ---- the cost of a case
costs : (m p : ℕ) → 1 ≤ p → m ≡ 3 * p - 3 → (s : Split) → cost_of s m ≤ 3 * (2 * p) - 3
costs m p h e Plain = omega arith
costs m p h e Complemented = omega arith
costs m p h e AndHigh = omega arith
costs m p h e AndLow = omega arith
costs m p h e OrLow = omega arith
costs m p h e OrHigh = omega arith
costs m p h e Exclusive = omega arith
costs m p h e Choice = omega arith

more_costs : (k : ℕ) (s : Split) → cost_of s (most_gates (suc k)) ≤ most_gates (suc (suc k))
more_costs k s =
    let one : suc k - 1 ≡ k = omega arith in
    let two : suc (suc k) - 1 ≡ suc k = omega arith in
    let double : 2 * 2 ^ k ≡ 2 ^ suc k = omega (arith, pow-suc 2 k) in
    let most : 3 * (2 * 2 ^ k) - 3 ≡ most_gates (suc (suc k)) = ap (λ q. 3 * q - 3) double ∙ ap (λ e. 3 * 2 ^ e - 3) (sym two) in
    subst (λ (q : ℕ). cost_of s (most_gates (suc k)) ≤ q) most
    (costs (most_gates (suc k)) (2 ^ k) (pow_pos k) (ap (λ e. 3 * 2 ^ e - 3) one) s)

pub case_cost : (n x : ℕ) (order : List ℕ) (f : List Bool → Bool) → Covers n (x ∷ order) f → depends_on n f x ≡ true → cost_of (split_of n (cofactor_of f x false) (cofactor_of f x true)) (most_gates (length order)) ≤ most_gates (suc (length order))
case_cost n x [] f h d = omega (arith, last_variable n x f h d)
case_cost n x (y ∷ order) f h d = more_costs (length order) (split_of n (cofactor_of f x false) (cofactor_of f x true))

-- what is covered is seen by the values of the function alone
pub covers_same : (n : ℕ) (order : List ℕ) (f g : List Bool → Bool) → AtEach n (λ xs. f xs ≡ g xs) → Covers n order g → Covers n order f
covers_same n order f g same h i l d =
    h i l (depends_from n g i (λ k. false≢true (sym (independent_from n f i (λ xs e. same (set xs i true) (length-set xs i true ∙ e) ∙ k xs e ∙ sym (same (set xs i false) (length-set xs i false ∙ e)))) ∙ d)))
