-- The least image and the first transform that gives it are the class and its transform.
use Rattle.std.proofs.Common.{◌≡◌, ◌≢◌, ℕ, zero, suc, ◌%◌, ◌/◌, ◌<◌, ◌≤◌, ◌==◌, min, if◌then◌else◌, Bool, true, false, refl, sym, ap, ◌∙◌, subst, arith, inl, inr}
use Rattle.std.proofs.lemmas.Bool.{both_ways, cases_lt, eqb-true, eq-eqb}
use Rattle.syn_npn.specs.declared.Transform.{Transform}
use Rattle.syn_npn.specs.Images.{is_permutation}
use Rattle.syn_npn.specs.Permutations.{image_at, neg_at, perm_at, permutation_at}
use Rattle.syn_npn.specs.Transforms.{IsCanon}
use Rattle.syn_npn.proofs.Computed.{every_at}
use Rattle.syn_npn.proofs.Ordering.{IsCanon-from_places}
use Rattle.syn_npn.proofs.Unique.{one_canon}
use Rattle.syn_function_plans.specs.Classes.{class_of, first_to, least_to, transform_of}
use Rattle.syn_function_plans.specs.Laws.{ClassOfFunction}

least_to-le : (n : ℕ) (g : ℕ → ℕ) (k : ℕ) → k ≤ n → least_to n g ≤ g k
unfolding least_to
least_to-le zero g k le = let e : k ≡ 0 = omega arith in subst (λ j. g 0 ≤ g j) (sym e) (omega arith)
least_to-le (suc n) g k le = elim (cases_lt k (suc n)) [
  | inl lt ↦ let low = least_to-le n g k (omega arith) in omega arith
  | inr ge ↦ let e : k ≡ suc n = omega arith in subst (λ j. min (least_to n g) (g (suc n)) ≤ g j) (sym e) (omega arith)
]

-- the least is one of them
least_to-is : (n : ℕ) (g : ℕ → ℕ) → (k : ℕ) × (k ≤ n) × (g k ≡ least_to n g)
unfolding least_to
least_to-is zero g = (0, omega arith, refl)
least_to-is (suc n) g = elim (cases_lt (g (suc n)) (least_to n g)) [
  | inl lt ↦ (suc n, omega arith, omega arith)
  | inr ge ↦ let at = least_to-is n g in (at.0, let le = at.1 in omega arith, at.2 ∙ (let same : least_to n g ≡ min (least_to n g) (g (suc n)) = omega arith in same))
]

first_to-le : (n : ℕ) (g : ℕ → ℕ) (c : ℕ) → first_to n g c ≤ n
unfolding first_to
first_to-le zero g c = omega arith
first_to-le (suc n) g c = by (g (first_to n g c) == c) (first_to-le n g c)
  where
    by : (b : Bool) → first_to n g c ≤ n → (if b then first_to n g c else suc n) ≤ suc n
    by true le = omega arith
    by false le = omega arith

first_to-is : (n : ℕ) (g : ℕ → ℕ) (c k : ℕ) → k ≤ n → g k ≡ c → g (first_to n g c) ≡ c
unfolding first_to
first_to-is zero g c k le e = let same : 0 ≡ k = omega arith in ap g same ∙ e
first_to-is (suc n) g c k le e = by (g (first_to n g c) == c) refl (λ low. first_to-is n g c k low e)
  where
    by : (b : Bool) → (g (first_to n g c) == c) ≡ b → (k ≤ n → g (first_to n g c) ≡ c) → g (if b then first_to n g c else suc n) ≡ c
    by true is before = eqb-true (g (first_to n g c)) c is
    by false is before = elim (cases_lt k (suc n)) [
      | inl lt ↦ absurd (both_ways (g (first_to n g c) == c) is (eq-eqb (g (first_to n g c)) c (before (omega arith))))
      | inr ge ↦ let same : suc n ≡ k = omega arith in ap g same ∙ e
    ]

first_to-before : (n : ℕ) (g : ℕ → ℕ) (c j : ℕ) → j < first_to n g c → g j ≢ c
unfolding first_to
first_to-before zero g c j lt = absurd (omega arith)
first_to-before (suc n) g c j lt = by (g (first_to n g c) == c) refl (first_to-before n g c j) lt
  where
    by : (b : Bool) → (g (first_to n g c) == c) ≡ b → (j < first_to n g c → g j ≢ c) → j < (if b then first_to n g c else suc n) → g j ≢ c
    by true is before low = before low
    by false is before low = λ e. both_ways (g (first_to n g c) == c) is (eq-eqb (g (first_to n g c)) c (first_to-is n g c j (omega arith) e))

permutes_at : (j : ℕ) → j < 24 → is_permutation (permutation_at j) ≡ true
unfolding permutation_at
permutes_at j lt = every_at 24 (λ k. is_permutation (permutation_at k)) refl j lt

-- the transform at a place
at_place : ℕ → Transform
at_place k = record { perm = perm_at k; flips = k % 16; neg = neg_at k; permutes = permutes_at (k / 16 % 24) (omega arith); few = omega arith }

computed_canon : (f : ℕ) → IsCanon f (class_of f) (at_place (transform_of f))
unfolding at_place class_of transform_of
computed_canon f = IsCanon-from_places f (class_of f) (transform_of f) (at_place (transform_of f)) refl refl refl (sym is)
    (λ k lt. least_to-le 767 (image_at f) k (omega arith))
    (λ k lt.
    let low = least_to-le 767 (image_at f) k (let le = first_to-le 767 (image_at f) (class_of f) in omega arith) in
    let ne = first_to-before 767 (image_at f) (class_of f) k lt in
    strict (class_of f) (image_at f k) low ne)
  where
    is : image_at f (transform_of f) ≡ class_of f
    is = let at = least_to-is 767 (image_at f) in first_to-is 767 (image_at f) (class_of f) at.0 at.1 at.2

    strict : (c d : ℕ) → c ≤ d → d ≢ c → c < d
    strict c d le ne = elim (cases_lt c d) [ inl lt ↦ lt | inr ge ↦ absurd (ne (omega arith)) ]

pub class_of_function : ClassOfFunction
unfolding at_place
class_of_function f c t canon =
    let one = one_canon f c (class_of f) t (at_place (transform_of f)) canon (computed_canon f) in
    (one.0, record { perm = ap (λ (u : Transform). u.perm) one.1; flips = ap (λ (u : Transform). u.flips) one.1; neg = ap (λ (u : Transform). u.neg) one.1 })
