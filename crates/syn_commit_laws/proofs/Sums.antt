-- Sums over the numbers below a bound.
use Rattle.std.proofs.Common.{◌≡◌, ◌≢◌, ℕ, zero, suc, ◌+◌, ◌<◌, ◌≤◌, ◌==◌, Bool, true, false, if◌then◌else◌, refl, ap, arith, inl, inr, eq-zero-or-pos}
use Rattle.std.proofs.lemmas.Bool.{cases_eq, eq-eqb, ne_eqb}
use Rattle.syn_rows.specs.References.{sum_below}
use Rattle.syn_core_laws.proofs.Counting.{sum_change}

pub sum_le : (n : ℕ) (f g : ℕ → ℕ) → ((i : ℕ) → i < n → f i ≤ g i) → sum_below n f ≤ sum_below n g
sum_le zero f g each = omega arith
sum_le (suc n) f g each =
    let front : sum_below n f ≤ sum_below n g = sum_le n f g (λ i lt. each i (omega arith)) in
    let here : f n ≤ g n = each n (omega arith) in
    omega arith

-- terms that are no greater, and no smaller in sum, are equal
pub sums_equal : (n : ℕ) (f g : ℕ → ℕ) → ((i : ℕ) → i < n → g i ≤ f i) → sum_below n f ≤ sum_below n g → (i : ℕ) → i < n → f i ≡ g i
sums_equal zero f g each le i lt = absurd (omega arith)
sums_equal (suc n) f g each le i lt =
    let front : sum_below n g ≤ sum_below n f = sum_le n g f (λ k l. each k (omega arith)) in
    let here : g n ≤ f n = each n (omega arith) in
    elim (cases_eq i n) [
      | inl e ↦
          let one : f i ≡ f n = ap f e in
          let two : g i ≡ g n = ap g e in
          omega arith
      | inr ne ↦ sums_equal n f g (λ k l. each k (omega arith)) (omega arith) i (omega arith)
    ]

-- a sum that isn't 0 has a term that isn't 0
pub sum_some : (n : ℕ) (f : ℕ → ℕ) → 1 ≤ sum_below n f → (i : ℕ) × (i < n) × (1 ≤ f i)
sum_some zero f h = absurd (omega arith)
sum_some (suc n) f h = elim (eq-zero-or-pos (f n)) [
  | inl none ↦
      let front : (i : ℕ) × (i < n) × (1 ≤ f i) = sum_some n f (omega arith) in
      let less : front.0 < n = front.1 in
      (front.0, omega arith, front.2)
  | inr more ↦ (n, omega arith, more)
]

-- one term is another
pub sum_but : (n k : ℕ) (f g : ℕ → ℕ) → k < n → g k ≡ 0 → sum_below n (λ i. if i == k then f i else g i) ≡ f k + sum_below n g
sum_but n k f g lt none =
    let change : sum_below n (λ i. if i == k then f i else g i) + g k ≡ sum_below n g + (if k == k then f k else g k) =
    sum_change n k (λ i. if i == k then f i else g i) g lt (λ i ne. ap (λ b. if b then f i else g i) (ne_eqb i k ne)) in
    let here : (if k == k then f k else g k) ≡ f k = ap (λ b. if b then f k else g k) (eq-eqb k k refl) in
    omega arith

-- a sum over a set with one number more
pub sum_more : (n k : ℕ) (f : ℕ → ℕ) (s t : ℕ → Bool) → k < n → s k ≡ false → t k ≡ true → ((i : ℕ) → i ≢ k → t i ≡ s i)
    → sum_below n (λ i. if t i then f i else 0) ≡ sum_below n (λ i. if s i then f i else 0) + f k
sum_more n k f s t lt was is others =
    let change : sum_below n (λ i. if t i then f i else 0) + (if s k then f k else 0) ≡ sum_below n (λ i. if s i then f i else 0) + (if t k then f k else 0) =
    sum_change n k (λ i. if t i then f i else 0) (λ i. if s i then f i else 0) lt (λ i ne. ap (λ b. if b then f i else 0) (others i ne)) in
    let one : (if s k then f k else 0) ≡ 0 = ap (λ b. if b then f k else 0) was in
    let two : (if t k then f k else 0) ≡ f k = ap (λ b. if b then f k else 0) is in
    omega arith

pub sum_none : (n : ℕ) (f : ℕ → ℕ) → ((i : ℕ) → f i ≡ 0) → sum_below n f ≡ 0
sum_none zero f each = refl
sum_none (suc n) f each = let front : sum_below n f ≡ 0 = sum_none n f each in omega (arith, each n)
