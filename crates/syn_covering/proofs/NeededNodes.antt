-- Nodes that need LUTs exist: the marks of a sweep from the last node down, as lists.
use Rattle.std.proofs.Common.{◌≡◌, ℕ, zero, suc, ◌+◌, ◌<◌, ◌≤◌, ◌&&◌, ◌||◌, Bool, true, false, List, [], ◌∷◌, length, map, replicate, refl, sym, ap, ap₂, ◌∙◌, subst, inl, inr, arith}
use Rattle.std.proofs.lemmas.Bool.{cases_lt}
use Rattle.std.proofs.lemmas.List.{get_or_past}
use Rattle.syn_rows.specs.declared.Lit.{Lit}
use Rattle.syn_rows.specs.declared.Row.{Row}
use Rattle.syn_rows.specs.declared.Row.TheVariants.{Free}
use Rattle.syn_rows.specs.Rows.{node_of, row_at}
use Rattle.syn_rows.specs.Reach.{is_and}
use Rattle.syn_rows.specs.Values.{value_in}
use Rattle.syn_rows.specs.Nodes.{has_node}
use Rattle.syn_covering.specs.Cuts.{AreLutCuts}
use Rattle.syn_covering.specs.Mappings.{NeededExist}
use Rattle.syn_covering.specs.Needs.{IsSwept, marked_from}
use Rattle.syn_covering.proofs.Swept.{none_marked, swept_start, swept_step}
use Rattle.syn_covering.proofs.Assembled.{marked_in, marked_needed}

-- a test's values at the first so many numbers

abbrev table : (ℕ → Bool) → ℕ → List Bool
table f zero = []
table f (suc n) = f 0 ∷ table (λ m. f (suc m)) n

length-table : (f : ℕ → Bool) (n : ℕ) → length (table f n) ≡ n
length-table f zero = refl
length-table f (suc n) = ap suc (length-table (λ m. f (suc m)) n)

table_at : (f : ℕ → Bool) (n m : ℕ) → m < n → value_in (table f n) m ≡ f m
table_at f zero m lt = absurd (omega (arith, lt))
table_at f (suc n) zero lt = refl
table_at f (suc n) (suc m) lt = table_at (λ j. f (suc j)) n m (omega (arith, lt))

-- they are the test, where it holds of none but these
table_is : (f : ℕ → Bool) (n : ℕ) → ((m : ℕ) → n ≤ m → f m ≡ false) → (m : ℕ) → value_in (table f n) m ≡ f m
table_is f n none m = elim (cases_lt m n) [
  | inl lt ↦ table_at f n m lt
  | inr ge ↦ get_or_past (table f n) m false (omega (arith, ge, length-table f n)) ∙ sym (none m ge)
]

not_both : (b : Bool) → (b && false) ≡ false
not_both true = refl
not_both false = refl

past_and : (rows : List Row) (m : ℕ) → length rows ≤ m → is_and (row_at rows m) ≡ false
past_and rows m ge = ap is_and (get_or_past rows m Free ge)

module _ (k : ℕ) (cut : ℕ → List ℕ) (rows : List Row) (lits : List Lit) (fit : AreLutCuts k rows cut) where
  abbrev observed : ℕ → Bool
  observed m = has_node (map node_of lits) m && is_and (row_at rows m)

  start : IsSwept cut rows lits (table observed (length rows)) (length rows)
  start = swept_start cut rows lits (replicate (length rows) false) (table observed (length rows)) refl (length-table observed (length rows))
      (λ m. table_is observed (length rows) (λ j ge. ap (λ b. has_node (map node_of lits) j && b) (past_and rows j ge) ∙ not_both (has_node (map node_of lits) j)) m
      ∙ sym (ap (λ b. b || observed m) (none_marked (length rows) m)))

  abbrev more : List Bool → ℕ → ℕ → Bool
  more marks n m = value_in marks m || (value_in marks n && (has_node (cut n) m && is_and (row_at rows m)))

  none_past : (marks : List Bool) (n : ℕ) → length marks ≡ length rows → (m : ℕ) → length rows ≤ m → more marks n m ≡ false
  none_past marks n long m ge =
      ap₂ (λ a b. a || (value_in marks n && (has_node (cut n) m && b))) (get_or_past marks m false (omega (arith, ge, long))) (past_and rows m ge)
      ∙ ap (λ b. value_in marks n && b) (not_both (has_node (cut n) m)) ∙ not_both (value_in marks n)

  swept : (left from : ℕ) → from + left ≡ length rows → (marks : List Bool) × IsSwept cut rows lits marks from
  swept zero from at = (table observed (length rows), subst (IsSwept cut rows lits (table observed (length rows))) (let s : length rows ≡ from = omega (arith, at) in s) start)
  swept (suc left) from at =
      let before = swept left (from + 1) (omega (arith, at)) in (
        table (more before.0 from) (length rows),
        swept_step cut rows lits before.0 (table (more before.0 from) (length rows)) from (from + 1) refl before.1 (marked_in k cut rows lits before.0 (from + 1) fit before.1 from)
            (length-table (more before.0 from) (length rows) ∙ sym before.1.count) (table_is (more before.0 from) (length rows) (none_past before.0 from before.1.count)),
      )

pub needed_exist : NeededExist
needed_exist k cut rows lits fit =
    let all = swept k cut rows lits fit (length rows) 0 (omega arith) in
    (marked_from 0 all.0, marked_needed cut rows lits all.0 all.1)
