-- What fits rows that grow.
use Rattle.std.proofs.Common.{◌≡◌, ℕ, Bool, false, List, length, sym, ap, ◌∙◌, subst, inl, inr}
use Rattle.std.proofs.lemmas.Bool.{cases_lt}
use Rattle.std.proofs.lemmas.List.{get_or_append_left, get_or_past}
use Rattle.syn_rows.specs.declared.Row.{Row}
use Rattle.syn_rows.specs.declared.Row.TheVariants.{Free}
use Rattle.syn_rows.specs.Rows.{row_at}
use Rattle.syn_rows.specs.Values.{Fits, RowFits, value_in, values_of}
use Rattle.syn_rows.proofs.Folds.{one_valuation_is}
use Rattle.syn_sat.specs.declared.clauses.Clauses.{Clauses}
use Rattle.syn_hashed.specs.Hashed.{IsHashed}
use Rattle.syn_hashed.specs.Growing.{Extends}
use Rattle.syn_hashed.proofs.Orders.{hashed_in_order}
use Rattle.syn_fraig.specs.Sweeping.{AreTrueBy}

-- the computed values of hashed rows fit
pub computed_fit : (count : ℕ) (rows : List Row) → IsHashed count rows → (given : ℕ → Bool) → given 0 ≡ false → Fits rows (value_in (values_of given rows))
computed_fit count rows h given zero = (one_valuation_is rows given (hashed_in_order count rows h) zero).0

-- what fits grown rows fits the rows before
pub fits_less : (old new : List Row) (v : ℕ → Bool) → Extends old new → Fits new v → Fits old v
fits_less old new v e f = record {
  constant = f.constant;
  each = λ n. elim (cases_lt n (length old)) [
    | inl lt ↦ subst (RowFits v n) (ap (λ (rs : List Row). row_at rs n) e.is ∙ get_or_append_left old e.more Free n lt) (f.each n)
    | inr ge ↦ subst (RowFits v n) (sym (get_or_past old n Free ge)) tt
  ];
}

pub still_true : (old new : List Row) (clauses : Clauses) → Extends old new → AreTrueBy old clauses → AreTrueBy new clauses
still_true old new clauses e true_by v f = true_by v (fits_less old new v e f)
