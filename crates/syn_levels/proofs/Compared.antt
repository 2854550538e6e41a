-- Levels of a graph and of new rows, as the comparison of a root's levels takes them.
use Rattle.std.proofs.Common.{◌≡◌, ℕ, ◌<◌, nat_le, List, ◌++◌, length, get_or, refl, sym, ap, ap₂, ◌∙◌, arith, [], ◌∷◌}
use Rattle.syn_rows.specs.declared.Row.{Row}
use Rattle.syn_rows.specs.Rows.{fold_rows}
use Rattle.syn_rows.specs.Levels.{level_in, levels_of, row_level}
use Rattle.syn_hashed.proofs.LevelLaws.{length-levels}
use Rattle.syn_gain.specs.Replacements.{Replacement, new_root_by, new_rows_by}
use Rattle.syn_levels.specs.Levels.{keeps_level, level_with}

fold-append : {A : Type 0} (step : (ℕ → A) → ℕ → Row → A) (d : A) (done : List A) (rows more : List Row) → fold_rows step d done (rows ++ more) ≡ fold_rows step d (fold_rows step d done rows) more
fold-append step d done [] more = refl
fold-append step d done (row ∷ rows) more = fold-append step d (done ++ step (λ n. get_or done n d) (length done) row ∷ []) rows more

-- the root has a level in the list
pub root_listed : (rows : List Row) (levels : List ℕ) (root : ℕ) → levels ≡ levels_of rows → root < length rows → root < length levels
root_listed rows levels root is there = omega (arith, ap length is, length-levels rows)

-- what was compared
pub compared : (rows : List Row) (r : Replacement) (levels new : List ℕ) (extra : List Row) (row : Row) (level own : ℕ)
    → levels ≡ levels_of rows → levels ++ new ≡ fold_rows row_level 0 levels extra → extra ≡ new_rows_by rows r → row ≡ new_root_by rows r
    → level ≡ row_level (level_in (levels ++ new)) r.root row → own ≡ level_in levels r.root → nat_le level own ≡ keeps_level rows r
compared rows r levels new extra row level own is all same_extra same_row here was =
    ap₂ nat_le
    (here ∙ ap (λ (xs : List ℕ). row_level (level_in xs) r.root row) with_new ∙ ap (row_level (level_with rows r) r.root) same_row)
    (was ∙ ap (λ (xs : List ℕ). level_in xs r.root) is)
  where
    with_new : levels ++ new ≡ levels_of (rows ++ new_rows_by rows r)
    with_new = all ∙ ap₂ (fold_rows row_level 0) is same_extra ∙ sym (fold-append row_level 0 [] rows (new_rows_by rows r))
