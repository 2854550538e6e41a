-- The literals of a plan have its values in the rows with its new ones behind them.
use Rattle.std.proofs.Common.{◌≡◌, ℕ, ◌+◌, ◌<◌, Bool, true, false, All, List, [], ◌∷◌, ◌++◌, length, map, get_or, refl, sym, ap, ◌∙◌, subst, arith, inl, inr}
use Rattle.std.proofs.lemmas.Bool.{cases_lt}
use Rattle.std.proofs.lemmas.List.{get_or_append_left, get_or-append-add, get_or_past, get_or-map, length-map}
use Rattle.syn_rows.specs.declared.Lit.{Lit}
use Rattle.syn_rows.specs.declared.Row.{Row}
use Rattle.syn_rows.specs.declared.Row.TheVariants.{Free, Source, And, Alias}
use Rattle.syn_rows.specs.Rows.{node_of, row_at}
use Rattle.syn_rows.specs.Joining.{constant}
use Rattle.syn_rows.specs.Values.{lit_value, RowFits, value_in, values_of}
use Rattle.syn_hashed.specs.Hashed.{is_gate, IsHashed}
use Rattle.syn_hashed.specs.Growing.{Extends, value_by}
use Rattle.syn_hashed.proofs.Rising.{gate_value, literal_kept, source_value}
use Rattle.syn_plan.specs.declared.PLit.{PLit}
use Rattle.syn_plan.specs.Gates.{literal_value, values_after}
use Rattle.syn_gain.specs.Placing.{literal_for}
use Rattle.syn_gain.specs.Searching.{Searched, search_gates, state}
use Rattle.syn_gain.proofs.Values.{FitsNew, Matches, begun_match, gates_match, pick_value}

-- hashed rows fit their values
hashed_fit : (count : ℕ) (rows : List Row) → IsHashed count rows → (given : ℕ → Bool) (n : ℕ) → RowFits (value_in (values_of given rows)) n (row_at rows n)
hashed_fit count rows h given n = by_row (row_at rows n) refl
  where
    inside : (row : Row) → row_at rows n ≡ row → (Free ≡ row → ⊥) → n < length rows
    inside row e other = elim (cases_lt n (length rows)) [
      | inl lt ↦ lt
      | inr ge ↦ absurd (other (sym (get_or_past rows n Free ge) ∙ e))
    ]

    no_alias : (a : Lit) → row_at rows n ≡ Alias a → ⊥
    no_alias a e = elim (cases_lt n (count + 1)) [
      | inl front ↦ (let source : row_at rows n ≡ Source = h.front n front in cc)
      | inr after ↦
          let gate : is_gate n (row_at rows n) ≡ true = h.gates n (omega (arith, after)) (inside (Alias a) e (λ s. cc)) in
          let none : is_gate n (row_at rows n) ≡ false = ap (is_gate n) e in
          cc
    ]

    by_row : (row : Row) → row_at rows n ≡ row → RowFits (value_in (values_of given rows)) n row
    by_row Free e = tt
    by_row Source e = tt
    by_row (And a b) e = gate_value count rows h given n a b (inside (And a b) e (λ s. cc)) e
    by_row (Alias a) e = absurd (no_alias a e)

pub plan_value : (count : ℕ) (rows extra new : List Row) (given : ℕ → Bool) (leaves : List Lit) (gates : List (PLit × PLit)) (out : PLit)
    → new ≡ rows ++ extra → IsHashed count new → given 0 ≡ false → All (λ l. node_of l < length rows) leaves
    → extra ≡ (search_gates rows (length rows) (state (constant ∷ leaves) []) gates).extra
    → value_by given new (literal_for (search_gates rows (length rows) (state (constant ∷ leaves) []) gates).literals out) ≡ literal_value (values_after (false ∷ map (value_by given rows) leaves) gates) out
plan_value count rows extra new given leaves gates out is h given_0 there extra_is =
    pick_value w all.literals (values_after (false ∷ map (value_by given rows) leaves) gates) out
    (gates_match w rows (length rows) gates (state (constant ∷ leaves) []) (false ∷ map (value_by given rows) leaves) at_0 below behind
    (begun_match w leaves (map (value_by given rows) leaves) at_0 leaves_match))
  where
    w : ℕ → Bool
    w = value_in (values_of given new)

    all : Searched
    all = search_gates rows (length rows) (state (constant ∷ leaves) []) gates

    at_0 : w 0 ≡ false
    at_0 = source_value count new h given 0 (omega arith) ∙ given_0

    below : (n : ℕ) → n < length rows → RowFits w n (row_at rows n)
    below n lt = subst (RowFits w n) (ap (λ (l : List Row). row_at l n) is ∙ get_or_append_left rows extra Free n lt) (hashed_fit count new h given n)

    behind : FitsNew w (length rows) all.extra
    behind i =
        subst (RowFits w (length rows + i)) (ap (λ (l : List Row). row_at l (length rows + i)) is ∙ get_or-append-add rows extra i Free ∙ ap (λ (l : List Row). row_at l i) extra_is)
        (hashed_fit count new h given (length rows + i))

    grown : Extends rows new
    grown = record { more = extra; is = is }

    leaves_match : Matches w leaves (map (value_by given rows) leaves)
    leaves_match = record {
      count = sym (length-map leaves (value_by given rows));
      each = λ i. elim (cases_lt i (length leaves)) [
        | inl lt ↦ literal_kept given rows new grown (get_or leaves i constant) (there i constant lt) ∙ sym (get_or-map (value_by given rows) leaves i constant false lt)
        | inr ge ↦ ap (lit_value w) (get_or_past leaves i constant ge) ∙ at_0 ∙ sym (get_or_past (map (value_by given rows) leaves) i false (omega (arith, ge, length-map leaves (value_by given rows))))
      ];
    }
