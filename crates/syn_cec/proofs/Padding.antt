-- Values at all minterms of the sources are values at all lists of source values.
use Rattle.std.proofs.Common.{◌≡◌, ℕ, zero, suc, ◌+◌, ◌<◌, Bool, true, false, All, List, [], ◌∷◌, length, get_or, refl, sym, ap, ap₂, ◌∙◌, subst, arith, inl, inr}
use Rattle.std.proofs.lemmas.Bool.{cases_lt}
use Rattle.std.proofs.lemmas.List.Elements.{All-head, All-tail}
use Rattle.syn_rows.specs.declared.Lit.{Lit}
use Rattle.syn_rows.specs.declared.Row.{Row}
use Rattle.syn_rows.specs.Rows.{node_of}
use Rattle.syn_rows.specs.Values.{OneValuation, given_by, rows_function, value_in, values_of}
use Rattle.syn_rows.proofs.Folds.{lit_value-same, one_valuation_is}
use Rattle.syn_truth.specs.Truth.{AtEach, minterm_of}
use Rattle.syn_hashed.specs.Hashed.{IsHashed}
use Rattle.syn_hashed.proofs.Orders.{hashed_in_order}
use Rattle.syn_graph.specs.declared.Graph.{Graph}
use Rattle.syn_fraig.proofs.Tabled.{open_low}
use Rattle.syn_cec.specs.Compared.{SameAt}

-- lists of as many values with one minterm are one list
pub one_list : (xs ys : List Bool) → length xs ≡ length ys → minterm_of xs ≡ minterm_of ys → xs ≡ ys
one_list [] [] long same = refl
one_list [] (y ∷ ys) long same = absurd (omega arith)
one_list (x ∷ xs) [] long same = absurd (omega arith)
one_list (true ∷ xs) (true ∷ ys) long same = ap (λ (bs : List Bool). true ∷ bs) (one_list xs ys (omega arith) (omega arith))
one_list (true ∷ xs) (false ∷ ys) long same = absurd (omega arith)
one_list (false ∷ xs) (true ∷ ys) long same = absurd (omega arith)
one_list (false ∷ xs) (false ∷ ys) long same = ap (λ (bs : List Bool). false ∷ bs) (one_list xs ys (omega arith) (omega arith))

-- what holds of the lists of minterms below a number, and of one of it, holds of those below the next
pub below_next : (first second : Graph) (count p : ℕ) (values : List Bool) → length values ≡ count → minterm_of values ≡ p → SameAt first second values
    → ((xs : List Bool) → length xs ≡ count → minterm_of xs < p → SameAt first second xs) → (xs : List Bool) → length xs ≡ count → minterm_of xs < p + 1 → SameAt first second xs
below_next first second count p values long at same below xs is lt = elim (cases_lt (minterm_of xs) p) [
  | inl low ↦ below xs is low
  | inr ge ↦ subst (SameAt first second) (one_list values xs (long ∙ sym is) (omega arith)) same
]

-- so many values: those of a list, false past its end
padded : ℕ → List Bool → List Bool
padded zero bits = []
padded (suc count) [] = false ∷ padded count []
padded (suc count) (b ∷ bits) = b ∷ padded count bits

length-padded : (count : ℕ) (bits : List Bool) → length (padded count bits) ≡ count
unfolding padded
length-padded zero bits = refl
length-padded (suc count) [] = ap suc (length-padded count [])
length-padded (suc count) (b ∷ bits) = ap suc (length-padded count bits)

padded_at : (count : ℕ) (bits : List Bool) (i : ℕ) → i < count → get_or (padded count bits) i false ≡ get_or bits i false
unfolding padded
padded_at zero bits i lt = absurd (omega arith)
padded_at (suc count) [] zero lt = refl
padded_at (suc count) [] (suc i) lt = padded_at count [] i (omega arith)
padded_at (suc count) (b ∷ bits) zero lt = refl
padded_at (suc count) (b ∷ bits) (suc i) lt = padded_at count bits i (omega arith)

given_padded : (count : ℕ) (bits : List Bool) (n : ℕ) → n < count + 1 → given_by (padded count bits) n ≡ given_by bits n
given_padded count bits zero lt = refl
given_padded count bits (suc i) lt = padded_at count bits i (omega arith)

value_padded : (count : ℕ) (rows : List Row) → IsHashed count rows → (bits : List Bool) (n : ℕ) → n < length rows
    → value_in (values_of (given_by (padded count bits)) rows) n ≡ value_in (values_of (given_by bits) rows) n
value_padded count rows h bits n lt = other.2 u one.0 (λ m inside is. one.1 m inside is ∙ given_padded count bits m (open_low count rows m h inside is)) n lt
  where
    u : ℕ → Bool
    u = value_in (values_of (given_by (padded count bits)) rows)

    one : OneValuation rows (given_by (padded count bits))
    one = one_valuation_is rows (given_by (padded count bits)) (hashed_in_order count rows h) refl

    other : OneValuation rows (given_by bits)
    other = one_valuation_is rows (given_by bits) (hashed_in_order count rows h) refl

-- what lies past the sources' values counts for nothing
function_padded : (count : ℕ) (rows : List Row) (lits : List Lit) → IsHashed count rows → All (λ l. node_of l < length rows) lits → (bits : List Bool)
    → rows_function rows lits (padded count bits) ≡ rows_function rows lits bits
function_padded count rows [] h within bits = refl
function_padded count rows (l ∷ ls) h within bits =
    ap₂ (λ (b : Bool) (bs : List Bool). b ∷ bs)
    (lit_value-same (value_in (values_of (given_by (padded count bits)) rows)) (value_in (values_of (given_by bits) rows)) l
    (value_padded count rows h bits (node_of l) (All-head (λ x. node_of x < length rows) l ls within)))
    (function_padded count rows ls h (All-tail (λ x. node_of x < length rows) l ls within) bits)

-- graphs that are the same at each list of values of their sources are the same
pub same_at_all : (first second : Graph) → second.source_count ≡ first.source_count → AtEach first.source_count (SameAt first second) → (bits : List Bool) → SameAt first second bits
same_at_all first second sources all bits =
    sym (function_padded first.source_count first.rows first.observed first.graph.hashed first.graph.within bits)
    ∙ all (padded first.source_count bits) (length-padded first.source_count bits)
    ∙ function_padded first.source_count second.rows second.observed (subst (λ (k : ℕ). IsHashed k second.rows) sources second.graph.hashed) second.graph.within bits
