-- Hashed rows with one row more.
use Rattle.std.proofs.Common.{◌≡◌, ℕ, true, List, [], ◌∷◌, ◌++◌, length, sym, ap, ◌∙◌, subst, arith, inl, inr}
use Rattle.std.proofs.lemmas.List.{length_push, get_or_append_left, get_or_push}
use Rattle.std.proofs.lemmas.Bool.{cases_lt}
use Rattle.syn_rows.specs.declared.Row.{Row}
use Rattle.syn_rows.specs.declared.Row.TheVariants.{Free}
use Rattle.syn_rows.specs.Rows.{row_at}
use Rattle.syn_hashed.specs.Hashed.{is_gate, IsHashed}

-- a pair that isn't there yet, as a new row
pub hashed_push : (count : ℕ) (rows : List Row) (row : Row) → IsHashed count rows → is_gate (length rows) row ≡ true → ((n : ℕ) → row_at rows n ≡ row → ⊥) → IsHashed count (rows ++ row ∷ [])
hashed_push count rows row h gate fresh = record {
  there = omega (arith, h.there, length_push rows row);
  front = λ n lt. get_or_append_left rows (row ∷ []) Free n (omega (arith, h.there)) ∙ h.front n lt;
  gates = λ n after lt. elim (cases_lt n (length rows)) [
    | inl inside ↦ subst (λ r. is_gate n r ≡ true) (sym (get_or_append_left rows (row ∷ []) Free n inside)) (h.gates n after inside)
    | inr ge ↦
        let here : n ≡ length rows = omega (arith, length_push rows row) in
        subst (λ r. is_gate n r ≡ true) (sym (get_or_push rows row Free n (sym here))) (ap (λ k. is_gate k row) here ∙ gate)
  ];
  once = λ m n after less lt same. elim (cases_lt n (length rows)) [
    | inl inside ↦
        h.once m n after less inside
        (sym (get_or_append_left rows (row ∷ []) Free m (omega arith)) ∙ same ∙ get_or_append_left rows (row ∷ []) Free n inside)
    | inr ge ↦
        let here : n ≡ length rows = omega (arith, length_push rows row) in
        fresh m (sym (get_or_append_left rows (row ∷ []) Free m (omega arith)) ∙ same ∙ get_or_push rows row Free n (sym here))
  ];
}
