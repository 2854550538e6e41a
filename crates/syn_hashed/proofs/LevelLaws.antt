-- Levels while rows grow.
use Rattle.std.proofs.Common.{◌≡◌, ℕ, ◌+◌, ◌<◌, ◌≤◌, max, List, [], ◌∷◌, ◌++◌, length, get_or, refl, ap, ◌∙◌, arith, inl, inr}
use Rattle.syn_rows.specs.declared.Lit.{Lit}
use Rattle.syn_rows.specs.declared.Row.{Row}
use Rattle.syn_rows.specs.declared.Row.TheVariants.{And}
use Rattle.syn_rows.specs.Rows.{node_of, row_at, fold_rows}
use Rattle.syn_rows.specs.Levels.{row_level, level_in, levels_of}
use Rattle.syn_rows.proofs.Folds.{length-fold, fold_kept, one_levels_is}
use Rattle.syn_hashed.specs.Hashed.{IsHashed}
use Rattle.syn_hashed.specs.Growing.{Extends, IsJoin, level_by}
use Rattle.syn_hashed.proofs.Orders.{hashed_in_order}

pub length-levels : (rows : List Row) → length (levels_of rows) ≡ length rows
length-levels rows = omega (arith, length-fold row_level 0 [] rows)

fold-append : {A : Type 0} (step : (ℕ → A) → ℕ → Row → A) (d : A) (done : List A) (rows more : List Row) → fold_rows step d done (rows ++ more) ≡ fold_rows step d (fold_rows step d done rows) more
fold-append step d done [] more = refl
fold-append step d done (row ∷ rows) more = fold-append step d (done ++ step (λ n. get_or done n d) (length done) row ∷ []) rows more

-- the levels of one row more
pub levels-push : (rows : List Row) (row : Row) → levels_of (rows ++ row ∷ []) ≡ levels_of rows ++ row_level (level_in (levels_of rows)) (length (levels_of rows)) row ∷ []
levels-push rows row = fold-append row_level 0 [] rows (row ∷ [])

-- older nodes keep their levels
pub level_kept : (old new : List Row) → Extends old new → (n : ℕ) → n < length old → level_in (levels_of new) n ≡ level_in (levels_of old) n
level_kept old new e n lt =
    ap (λ (rows : List Row). level_in (levels_of rows) n) e.is
    ∙ ap (λ (levels : List ℕ). level_in levels n) (fold-append row_level 0 [] old e.more)
    ∙ fold_kept row_level 0 (levels_of old) e.more n 0 (omega (arith, length-levels old))

pub level_step : (count : ℕ) (rows : List Row) → IsHashed count rows → (n : ℕ) → level_in (levels_of rows) n ≡ row_level (level_in (levels_of rows)) n (row_at rows n)
level_step count rows h n = (one_levels_is rows (hashed_in_order count rows h)).0 n

pub source_level : (count : ℕ) (rows : List Row) → IsHashed count rows → (n : ℕ) → n < count + 1 → level_in (levels_of rows) n ≡ 0
source_level count rows h n lt = level_step count rows h n ∙ ap (row_level (level_in (levels_of rows)) n) (h.front n lt)

pub gate_level : (count : ℕ) (rows : List Row) → IsHashed count rows → (n : ℕ) (a b : Lit) → row_at rows n ≡ And a b → level_in (levels_of rows) n ≡ max (level_by rows a) (level_by rows b) + 1
gate_level count rows h n a b e = level_step count rows h n ∙ ap (row_level (level_in (levels_of rows)) n) e

-- a joined literal is at most one above the higher of the two
pub join_level : (count : ℕ) (rows : List Row) → IsHashed count rows → (a b l : Lit) → IsJoin rows a b l → level_by rows l ≤ max (level_by rows a) (level_by rows b) + 1
join_level count rows h a b l (inl e) = let s : level_by rows l ≡ level_by rows a = ap (level_by rows) e in omega (arith, s)
join_level count rows h a b l (inr (inl e)) = let s : level_by rows l ≡ level_by rows b = ap (level_by rows) e in omega (arith, s)
join_level count rows h a b l (inr (inr (inl e))) =
    let at : node_of l ≡ 0 = omega arith in
    let s : level_by rows l ≡ 0 = ap (level_in (levels_of rows)) at ∙ source_level count rows h 0 (omega arith) in
    omega (arith, s)
join_level count rows h a b l (inr (inr (inr (inl e)))) = let s : level_by rows l ≡ max (level_by rows a) (level_by rows b) + 1 = gate_level count rows h (node_of l) a b e in omega (arith, s)
join_level count rows h a b l (inr (inr (inr (inr e)))) = let s : level_by rows l ≡ max (level_by rows b) (level_by rows a) + 1 = gate_level count rows h (node_of l) b a e in omega (arith, s)
