-- The number of ANDs of a set of nodes: of one with a node more, and of one that has another's ANDs.
use Rattle.std.proofs.Common.{◌≡◌, ℕ, zero, suc, ◌+◌, ◌≤◌, ◌&&◌, if◌then◌else◌, Bool, true, false, List, [], ◌∷◌, refl, sym, ap, ap₂, ◌∙◌, arith}
use Rattle.syn_rows.specs.declared.Row.{Row}
use Rattle.syn_rows.specs.declared.Row.TheVariants.{Free, Source, And, Alias}
use Rattle.syn_rows.specs.Rows.{row_at}
use Rattle.syn_rows.specs.Reach.{is_and, ands_from}
use Rattle.syn_rows.specs.References.{and_count}

abbrev counted : Row → Bool → ℕ
counted row b = if is_and row && b then 1 else 0

counted_all : (row : Row) → counted row true ≡ and_count row
counted_all Free = refl
counted_all Source = refl
counted_all (And a b) = refl
counted_all (Alias a) = refl

counted_none : (row : Row) → counted row false ≡ 0
counted_none Free = refl
counted_none Source = refl
counted_none (And a b) = refl
counted_none (Alias a) = refl

counted_less : (row : Row) (b c : Bool) → (is_and row ≡ true → b ≡ true → c ≡ true) → counted row b ≤ counted row c
counted_less Free b c h = omega arith
counted_less Source b c h = omega arith
counted_less (And x y) false c h = omega arith
counted_less (And x y) true c h = let one : counted (And x y) c ≡ 1 = ap (counted (And x y)) (h refl refl) in omega (arith, one)
counted_less (Alias a) b c h = omega arith

ands_agree : (n : ℕ) (s t : ℕ → Bool) → ((k : ℕ) → n ≤ k → s k ≡ t k) → (rows : List Row) → ands_from n s rows ≡ ands_from n t rows
ands_agree n s t h [] = refl
ands_agree n s t h (row ∷ rows) = ap₂ (λ (b : Bool) (k : ℕ). counted row b + k) (h n (omega arith)) (ands_agree (n + 1) s t (λ k le. h k (omega arith)) rows)

-- one node more counts as much as its row
pub ands_more : (n k i : ℕ) (s t : ℕ → Bool) (rows : List Row) → k ≡ n + i → ((m : ℕ) → (m ≡ k → ⊥) → s m ≡ t m) → s k ≡ false → t k ≡ true → ands_from n t rows ≡ ands_from n s rows + and_count (row_at rows i)
ands_more n k i s t [] e same was now = refl
ands_more n k zero s t (row ∷ rows) e same was now =
    let here : k ≡ n = omega arith in
    let with : counted row (t n) ≡ and_count row = ap (counted row) (ap t (sym here) ∙ now) ∙ counted_all row in
    let without : counted row (s n) ≡ 0 = ap (counted row) (ap s (sym here) ∙ was) ∙ counted_none row in
    let rest : ands_from (n + 1) s rows ≡ ands_from (n + 1) t rows = ands_agree (n + 1) s t (λ m le. same m (λ z. omega arith)) rows in
    omega (arith, with, without, rest)
ands_more n k (suc i) s t (row ∷ rows) e same was now =
    let head : counted row (s n) ≡ counted row (t n) = ap (counted row) (same n (λ z. omega arith)) in
    let rest : ands_from (n + 1) t rows ≡ ands_from (n + 1) s rows + and_count (row_at rows i) = ands_more (n + 1) k i s t rows (omega arith) same was now in
    omega (arith, head, rest)

-- a set that has the ANDs of another has no fewer
pub ands_fewer : (n : ℕ) (s t : ℕ → Bool) (rows : List Row) → ((k i : ℕ) → k ≡ n + i → is_and (row_at rows i) ≡ true → s k ≡ true → t k ≡ true) → ands_from n s rows ≤ ands_from n t rows
ands_fewer n s t [] h = omega arith
ands_fewer n s t (row ∷ rows) h =
    let head : counted row (s n) ≤ counted row (t n) = counted_less row (s n) (t n) (λ a b. h n 0 (omega arith) a b) in
    let rest : ands_from (n + 1) s rows ≤ ands_from (n + 1) t rows = ands_fewer (n + 1) s t rows (λ k i e a b. h k (suc i) (omega arith) a b) in
    omega (arith, head, rest)
