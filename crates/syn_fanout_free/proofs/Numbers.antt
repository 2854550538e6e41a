-- Sums over the numbers below a bound.
use Rattle.std.proofs.Common.{◌≡◌, ℕ, zero, suc, ◌+◌, ◌-◌, ◌<◌, ◌≤◌, ◌==◌, ◌&&◌, Bool, true, false, List, [], ◌∷◌, length, if◌then◌else◌, refl, sym, ap, ap₂, ◌∙◌, arith, inl, inr}
use Rattle.std.proofs.lemmas.Bool.{cases_eq, eq-eqb, ne_eqb}
use Rattle.syn_rows.specs.declared.Row.{Row}
use Rattle.syn_rows.specs.Rows.{row_at}
use Rattle.syn_rows.specs.Reach.{is_and, ands_from, ands_in}
use Rattle.syn_rows.specs.References.{sum_below}
use Rattle.syn_fanout_free.specs.Freed.{count_below}

-- 1 for what holds, else 0
abbrev pub one_if : Bool → ℕ
one_if b = if b then 1 else 0

pub one_if-le : (b : Bool) → one_if b ≤ 1
one_if-le true = omega arith
one_if-le false = omega arith

-- one balance at each number makes one balance of the whole
pub count_balance : (k : ℕ) (f g h j : ℕ → Bool) → ((p : ℕ) → one_if (f p) + one_if (g p) ≡ one_if (h p) + one_if (j p)) → count_below k f + count_below k g ≡ count_below k h + count_below k j
count_balance zero f g h j each = refl
count_balance (suc k) f g h j each = omega (arith, count_balance k f g h j each, each k)

-- two sums with the same terms; a sum of sums; a sum of nothing; one term alone
pub sum_same : (k : ℕ) (f g : ℕ → ℕ) → ((p : ℕ) → p < k → f p ≡ g p) → sum_below k f ≡ sum_below k g
sum_same zero f g each = refl
sum_same (suc k) f g each = omega (arith, sum_same k f g (λ p lt. each p (omega arith)), each k (omega arith))

pub sum_none : (k : ℕ) (f : ℕ → ℕ) → ((p : ℕ) → p < k → f p ≡ 0) → sum_below k f ≡ 0
sum_none zero f each = refl
sum_none (suc k) f each = omega (arith, sum_none k f (λ p lt. each p (omega arith)), each k (omega arith))

pub sum_both : (k : ℕ) (f g h : ℕ → ℕ) → ((p : ℕ) → f p ≡ g p + h p) → sum_below k f ≡ sum_below k g + sum_below k h
sum_both zero f g h each = refl
sum_both (suc k) f g h each = omega (arith, sum_both k f g h each, each k)

pub sum_le : (k : ℕ) (f g : ℕ → ℕ) → ((p : ℕ) → f p ≤ g p) → sum_below k f ≤ sum_below k g
sum_le zero f g each = omega arith
sum_le (suc k) f g each = omega (arith, sum_le k f g each, each k)

pub term_le_sum : (k : ℕ) (f : ℕ → ℕ) (p : ℕ) → p < k → f p ≤ sum_below k f
term_le_sum zero f p lt = absurd (omega arith)
term_le_sum (suc k) f p lt = elim (cases_eq p k) [
  | inl e ↦ omega (arith, ap f e)
  | inr ne ↦ omega (arith, term_le_sum k f p (omega arith))
]

-- a sum of which one term alone is left
pub sum_one : (k : ℕ) (f : ℕ → ℕ) (n : ℕ) → n < k → sum_below k (λ p. if p == n then f p else 0) ≡ f n
sum_one zero f n lt = absurd (omega arith)
sum_one (suc k) f n lt = elim (cases_eq n k) [
  | inl e ↦
      let here : (if k == n then f k else 0) ≡ f k = ap (λ t. if t then f k else 0) (eq-eqb k n (sym e)) in
      let rest : sum_below k (λ p. if p == n then f p else 0) ≡ 0 = sum_none k (λ p. if p == n then f p else 0) (λ p below. ap (λ t. if t then f p else 0) (ne_eqb p n (λ same. omega arith))) in
      omega (arith, here, rest, ap f e)
  | inr ne ↦
      let here : (if k == n then f k else 0) ≡ 0 = ap (λ t. if t then f k else 0) (ne_eqb k n (λ same. ne (sym same))) in
      omega (arith, here, sum_one k f n (omega arith))
]

-- a sum up to a greater bound, where the rest adds nothing; a sum in two parts
pub sum_apart : (e k : ℕ) (f : ℕ → ℕ) → sum_below (k + e) f ≡ sum_below k f + sum_below e (λ i. f (k + i))
sum_apart zero k f = let same : k + zero ≡ k = omega arith in ap (λ t. sum_below t f) same ∙ omega arith
sum_apart (suc e) k f =
    let next : k + suc e ≡ suc (k + e) = omega arith in
    ap (λ t. sum_below t f) next ∙ omega (arith, sum_apart e k f)

pub count_beyond : (k l : ℕ) (f : ℕ → Bool) → k ≤ l → ((p : ℕ) → k ≤ p → f p ≡ false) → count_below l f ≡ count_below k f
count_beyond k l f le none =
    let whole : l ≡ k + (l - k) = omega arith in
    let rest : sum_below (l - k) (λ i. one_if (f (k + i))) ≡ 0 = sum_none (l - k) (λ i. one_if (f (k + i))) (λ i lt. ap one_if (none (k + i) (omega arith))) in
    ap (λ t. count_below t f) whole ∙ omega (arith, sum_apart (l - k) k (λ p. one_if (f p)), rest)

pub count_same : (k : ℕ) (f g : ℕ → Bool) → ((p : ℕ) → f p ≡ g p) → count_below k f ≡ count_below k g
count_same k f g each = sum_same k (λ p. one_if (f p)) (λ p. one_if (g p)) (λ p lt. ap one_if (each p))

pub count-le : (k : ℕ) (f : ℕ → Bool) → count_below k f ≤ k
count-le zero f = omega arith
count-le (suc k) f = omega (arith, count-le k f, one_if-le (f k))

-- numbers below a bound have a bound
pub highest : (rank : ℕ → ℕ) (k p : ℕ) → p < k → rank p < suc (sum_below k rank)
highest rank k p lt = omega (arith, term_le_sum k rank p lt)

-- the ANDs of a set, as a sum over the nodes
sum_front : (k : ℕ) (f : ℕ → ℕ) → sum_below (suc k) f ≡ f 0 + sum_below k (λ i. f (suc i))
sum_front k f =
    let same : sum_below k (λ i. f (1 + i)) ≡ sum_below k (λ i. f (suc i)) = sum_same k (λ i. f (1 + i)) (λ i. f (suc i)) (λ i lt. let e : 1 + i ≡ suc i = omega arith in ap f e) in
    ap (λ t. sum_below t f) (let e : suc k ≡ 1 + k = omega arith in e) ∙ omega (arith, sum_apart k 1 f, same)

ands_from_count : (rows : List Row) (set : ℕ → Bool) (n : ℕ) → ands_from n set rows ≡ count_below (length rows) (λ p. is_and (row_at rows p) && set (n + p))
ands_from_count [] set n = refl
ands_from_count (row ∷ rows) set n =
    let here : n ≡ n + 0 = omega arith in
    let rest : count_below (length rows) (λ p. is_and (row_at rows p) && set (n + 1 + p)) ≡ count_below (length rows) (λ p. is_and (row_at rows p) && set (n + suc p)) =
    count_same (length rows) (λ p. is_and (row_at rows p) && set (n + 1 + p)) (λ p. is_and (row_at rows p) && set (n + suc p))
    (λ p. let e : n + 1 + p ≡ n + suc p = omega arith in ap (λ t. is_and (row_at rows p) && set t) e) in
    ap₂ (λ a b. one_if (is_and row && set a) + b) here (ands_from_count rows set (n + 1) ∙ rest)
    ∙ sym (sum_front (length rows) (λ p. one_if (is_and (row_at (row ∷ rows) p) && set (n + p))))

pub ands_count : (rows : List Row) (set : ℕ → Bool) → ands_in set rows ≡ count_below (length rows) (λ p. is_and (row_at rows p) && set p)
ands_count rows set = ands_from_count rows set 0
    ∙ count_same (length rows) (λ p. is_and (row_at rows p) && set (0 + p)) (λ p. is_and (row_at rows p) && set p) (λ p. let e : 0 + p ≡ p = omega arith in ap (λ t. is_and (row_at rows p) && set t) e)
