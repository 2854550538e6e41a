-- Pairs of literals that have one value, and the graphs whose values they have.
use Rattle.std.proofs.Common.{◌≡◌, ℕ, zero, suc, ◌+◌, ◌-◌, ◌<◌, ◌≤◌, ◌++◌, Bool, false, List, length, get_or, refl, sym, ap, ◌∙◌, subst, inl, inr, arith}
use Rattle.std.proofs.lemmas.Bool.{cases_lt}
use Rattle.std.proofs.lemmas.List.{ext_get_or, get_or-append_right, get_or-map, get_or_append_left, length-map}
use Rattle.syn_rows.specs.declared.Lit.{Lit}
use Rattle.syn_rows.specs.declared.Row.{Row}
use Rattle.syn_rows.specs.Joining.{constant}
use Rattle.syn_rows.specs.Values.{Fits, given_by, lit_value, rows_function, value_in, values_of}
use Rattle.syn_rows.proofs.Folds.{one_valuation_is}
use Rattle.syn_hashed.proofs.Orders.{hashed_in_order}
use Rattle.syn_graph.specs.declared.Graph.{Graph}
use Rattle.syn_fraig.specs.Merging.{SameBy}
use Rattle.syn_cec.specs.declared.equality.Equality.{Equality}
use Rattle.syn_cec.specs.declared.equality.Equality.TheVariants.{Equivalent, Undecided}
use Rattle.syn_cec.specs.Compared.{IsCompared, SameAt}

-- the first half of a list is the second half
pub halves : (k : ℕ) (xs ys : List Bool) → length xs ≡ k → length ys ≡ k → ((j : ℕ) → j < k → get_or (xs ++ ys) j false ≡ get_or (xs ++ ys) (k + j) false) → xs ≡ ys
halves k xs ys lx ly same = ext_get_or false xs ys (lx ∙ sym ly) (λ j lt.
    sym (get_or_append_left xs ys false j lt)
    ∙ same j (omega (arith, lt, lx))
    ∙ get_or-append_right xs ys k (k + j) false lx (omega arith)
    ∙ (let e : k + j - k ≡ j = omega arith in ap (λ (i : ℕ). get_or ys i false) e))

-- in a graph that observes what two do the literals of the first have the values of those of the second
pub equivalent : (first second both : Graph) → length second.observed ≡ length first.observed → length both.observed ≡ length first.observed + length second.observed
    → ((bits : List Bool) → rows_function both.rows both.observed bits ≡ rows_function first.rows first.observed bits ++ rows_function second.rows second.observed bits)
    → ((j : ℕ) → j < length first.observed → SameBy both.rows (get_or both.observed j constant) (get_or both.observed (length first.observed + j) constant))
    → (bits : List Bool) → SameAt first second bits
equivalent first second both same_count pairs values same bits =
    halves (length first.observed) (rows_function first.rows first.observed bits) (rows_function second.rows second.observed bits)
    (length-map first.observed (lit_value (value_in (values_of (given_by bits) first.rows))))
    (length-map second.observed (lit_value (value_in (values_of (given_by bits) second.rows))) ∙ same_count)
    (λ j lt. subst (λ (vs : List Bool). get_or vs j false ≡ get_or vs (length first.observed + j) false) (values bits) (at j lt))
  where
    u : ℕ → Bool
    u = value_in (values_of (given_by bits) both.rows)

    fits : Fits both.rows u
    fits = (one_valuation_is both.rows (given_by bits) (hashed_in_order both.source_count both.rows both.graph.hashed) refl).0

    at : (j : ℕ) → j < length first.observed → get_or (rows_function both.rows both.observed bits) j false ≡ get_or (rows_function both.rows both.observed bits) (length first.observed + j) false
    at j lt =
        get_or-map (lit_value u) both.observed j constant false (omega (arith, lt, pairs))
        ∙ same j lt u fits
        ∙ sym (get_or-map (lit_value u) both.observed (length first.observed + j) constant false (omega (arith, lt, pairs, same_count)))

-- one pair more
pub pairs_more : (rows : List Row) (lits : List Lit) (count place : ℕ) → SameBy rows (get_or lits place constant) (get_or lits (count + place) constant)
    → ((j : ℕ) → j < place → SameBy rows (get_or lits j constant) (get_or lits (count + j) constant)) → (j : ℕ) → j < place + 1 → SameBy rows (get_or lits j constant) (get_or lits (count + j) constant)
pairs_more rows lits count place here before j lt = elim (cases_lt j place) [
  | inl low ↦ before j low
  | inr ge ↦ let same : place ≡ j = omega arith in subst (λ (k : ℕ). SameBy rows (get_or lits k constant) (get_or lits (count + k) constant)) same here
]

-- the pairs, where the lists have other names
pub pairs_are : (rows now : List Row) (lits observed : List Lit) (n count : ℕ) → rows ≡ now → lits ≡ observed → n ≡ count
    → ((j : ℕ) → j < n → SameBy rows (get_or lits j constant) (get_or lits (n + j) constant)) → (j : ℕ) → j < count → SameBy now (get_or observed j constant) (get_or observed (count + j) constant)
pairs_are rows now lits observed n count same_rows same_lits same_count all =
    subst (λ (rs : List Row). (j : ℕ) → j < count → SameBy rs (get_or observed j constant) (get_or observed (count + j) constant)) same_rows
    (subst (λ (ls : List Lit). (j : ℕ) → j < count → SameBy rows (get_or ls j constant) (get_or ls (count + j) constant)) same_lits
    (subst (λ (k : ℕ). (j : ℕ) → j < k → SameBy rows (get_or lits j constant) (get_or lits (k + j) constant)) same_count all))

-- what graphs come to of which so many places were left
pub left_open_is : (first second : Graph) (left : ℕ) (e : Equality) → (left ≡ 0 → e ≡ Equivalent) → (0 < left → e ≡ Undecided left) → left ≤ length first.observed → 12 < first.source_count
    → (left ≡ 0 → (bits : List Bool) → SameAt first second bits) → IsCompared first second e
left_open_is first second zero e none some few many same = subst (IsCompared first second) (sym (none refl)) (same refl)
left_open_is first second (suc left) e none some few many same = subst (IsCompared first second) (sym (some (omega arith))) (omega arith, few, many)
