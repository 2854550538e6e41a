-- The levels of new rows behind those of a graph.
use Rattle.std.proofs.Common.{◌≡◌, ℕ, suc, ◌+◌, ◌^◌, ◌<◌, ◌≤◌, All, List, [], ◌∷◌, ◌++◌, length, get_or, drop, sym, ap, ◌∙◌, arith}
use Rattle.std.proofs.Math.Seq.{drop-cons}
use Rattle.std.proofs.lemmas.List.{append_assoc, length_push}
use Rattle.std.proofs.lemmas.List.Elements.{All-push, All-same}
use Rattle.syn_rows.specs.declared.Row.{Row}
use Rattle.syn_rows.specs.Rows.{fold_rows}
use Rattle.syn_rows.specs.Levels.{level_in, row_level}

-- with the level of one row more, the rest makes the same of it
pub level_put : (levels new more : List ℕ) (extra : List Row) (i : ℕ) (d : Row) (level : ℕ) (all : List ℕ) → i < length extra
    → level ≡ row_level (level_in (levels ++ new)) (length (levels ++ new)) (get_or extra i d) → more ≡ new ++ level ∷ []
    → fold_rows row_level 0 (levels ++ new) (drop i extra) ≡ all → fold_rows row_level 0 (levels ++ more) (drop (i + 1) extra) ≡ all
level_put levels new more extra i d level all lt is put left =
    ap (λ k. fold_rows row_level 0 (levels ++ more) (drop k extra)) next
    ∙ ap (λ (xs : List ℕ). fold_rows row_level 0 (levels ++ xs) (drop (suc i) extra)) put
    ∙ ap (λ (xs : List ℕ). fold_rows row_level 0 xs (drop (suc i) extra)) (sym (append_assoc levels new (level ∷ [])))
    ∙ ap (λ l. fold_rows row_level 0 (levels ++ new ++ l ∷ []) (drop (suc i) extra)) is
    ∙ sym (ap (fold_rows row_level 0 (levels ++ new)) (drop-cons extra i d lt)) ∙ left
  where
    next : i + 1 ≡ suc i
    next = omega arith

-- no level of so many new rows is above so many of the graph's
pub low_put : (new more : List ℕ) (level : ℕ) → more ≡ new ++ level ∷ [] → All (λ l. l ≤ 2 ^ 32 + length new) new → level ≤ 2 ^ 32 + length new + 1 → All (λ l. l ≤ 2 ^ 32 + length more) more
low_put new more level put low here =
    All-same (λ l. l ≤ 2 ^ 32 + length more) more (new ++ level ∷ []) put
    (All-push (λ l. l ≤ 2 ^ 32 + length more) new level (λ k d lt. omega (arith, low k d lt, long)) (omega (arith, here, long)))
  where
    long : length more ≡ length new + 1
    long = ap length put ∙ length_push new level
