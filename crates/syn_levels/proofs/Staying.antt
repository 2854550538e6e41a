-- A replacement that keeps its root's level raises no level.
use Rattle.std.proofs.Common.{◌≡◌, ◌⊎◌, ℕ, zero, suc, ◌+◌, ◌-◌, ◌<◌, ◌≤◌, List, ◌++◌, length, sym, ap, ◌∙◌, subst, arith, inl, inr}
use Rattle.std.proofs.lemmas.Bool.{cases_eq, cases_lt, leb-true}
use Rattle.std.proofs.lemmas.List.{get_or_append_left, get_or-append-add}
use Rattle.syn_rows.specs.declared.Row.{Row}
use Rattle.syn_rows.specs.declared.Row.TheVariants.{Free, Source, And, Alias}
use Rattle.syn_rows.specs.Rows.{row_at, AllRefs, InOrder}
use Rattle.syn_rows.specs.Levels.{HasLevels, level_in, levels_of, row_level}
use Rattle.syn_rows.proofs.Folds.{AllRefs-weaker, one_levels_is, row_level-local}
use Rattle.syn_fanout_free.specs.Saved.{replaced}
use Rattle.syn_fanout_free.proofs.Replaced.{at_root, at_old, at_extra}
use Rattle.syn_gain.specs.Laws.{IsBefore}
use Rattle.syn_gain.specs.Replacements.{new_root_by, new_rows_by}
use Rattle.syn_gain.proofs.Bounds.{placed_is_before}
use Rattle.syn_gain.proofs.Owning.{IsBelow, new_is_extra}
use Rattle.syn_levels.specs.Laws.{LevelsStay}

-- a row over lower nodes gives a lower level
row_level-rises : (f g : ℕ → ℕ) (n : ℕ) (row : Row) → AllRefs (λ m. f m ≤ g m) row → row_level f n row ≤ row_level g n row
row_level-rises f g n Free h = omega arith
row_level-rises f g n Source h = omega arith
row_level-rises f g n (And a b) h = omega (arith, h.0, h.1)
row_level-rises f g n (Alias a) h = h

-- rows in order, and new ones behind them
with_new : (rows extra : List Row) → InOrder rows → ((i : ℕ) → AllRefs (λ m. m < length rows + i) (row_at extra i)) → InOrder (rows ++ extra)
with_new rows extra order new n = elim (cases_lt n (length rows)) [
  | inl lt ↦ subst (AllRefs (λ m. m < n)) (sym (get_or_append_left rows extra Free n lt)) (order n)
  | inr ge ↦
      let back : length rows + (n - length rows) ≡ n = omega arith in
      subst (λ k. AllRefs (λ m. m < k) (row_at (rows ++ extra) k)) back
      (subst (AllRefs (λ m. m < length rows + (n - length rows))) (sym (get_or-append-add rows extra (n - length rows) Free)) (new (n - length rows)))
]

-- a node before the root or a new one
below_or_new : (root first next m : ℕ) → IsBefore root first next m → (m < root) ⊎ (first ≤ m)
below_or_new root first next m (inl low) = inl low
below_or_new root first next m (inr new) = inr new.0

before_new : (root first i m : ℕ) → root < first → IsBefore root first (first + i) m → m < first + i
before_new root first i m there (inl low) = omega arith
before_new root first i m there (inr new) = new.1

-- A new row of a root and new rows behind the others, with the levels afterwards, and with those over the rows and the new ones.
record IsChange (rows : List Row) (root : ℕ) (row : Row) (extra : List Row) (level with : ℕ → ℕ) : Type 0 where
  order : InOrder rows
  there : root < length rows
  refs : AllRefs (IsBefore root (length rows) (length rows + length extra)) row
  each : (i : ℕ) → AllRefs (IsBefore root (length rows) (length rows + i)) (row_at extra i)
  levels : HasLevels (replaced rows root row extra) level
  with_levels : HasLevels (rows ++ extra) with

-- what lies before the root, and what is new, has one level in both
fresh_level : (rows : List Row) (root : ℕ) (row : Row) (extra : List Row) (level with : ℕ → ℕ) → IsChange rows root row extra level with
    → (k m : ℕ) → m < k → (m < root) ⊎ (length rows ≤ m) → level m ≡ with m
fresh_level rows root row extra level with c zero m lt side = absurd (omega arith)
fresh_level rows root row extra level with c (suc k) m lt (inl low) =
    let inside : m < length rows = omega (arith, c.there) in
    c.levels m ∙ ap (row_level level m) (at_old rows root row extra m inside (λ e. absurd (omega arith)))
    ∙ row_level-local level with m (row_at rows m)
    (AllRefs-weaker (λ j. j < m) (λ j. level j ≡ with j) (λ j less. fresh_level rows root row extra level with c k j (omega arith) (inl (omega arith))) (row_at rows m) (c.order m))
    ∙ sym (c.with_levels m ∙ ap (row_level with m) (get_or_append_left rows extra Free m inside))
fresh_level rows root row extra level with c (suc k) m lt (inr high) =
    let i : ℕ = m - length rows in
    let back : length rows + i ≡ m = omega arith in
    c.levels m ∙ ap (row_level level m) (ap (row_at (replaced rows root row extra)) (sym back) ∙ at_extra rows root row extra i)
    ∙ row_level-local level with m (row_at extra i)
    (AllRefs-weaker (IsBefore root (length rows) (length rows + i)) (λ j. level j ≡ with j)
    (λ j before. fresh_level rows root row extra level with c k j (let less = before_new root (length rows) i j c.there before in omega arith) (below_or_new root (length rows) (length rows + i) j before)) (row_at extra i) (c.each i))
    ∙ sym (c.with_levels m ∙ ap (row_level with m) (ap (row_at (rows ++ extra)) (sym back) ∙ get_or-append-add rows extra i Free))

-- the root has the level that its new row gives it over the rows and the new ones
root_level : (rows : List Row) (root : ℕ) (row : Row) (extra : List Row) (level with : ℕ → ℕ) → IsChange rows root row extra level with → level root ≡ row_level with root row
root_level rows root row extra level with c =
    c.levels root ∙ ap (row_level level root) (at_root rows root row extra c.there)
    ∙ row_level-local level with root row
    (AllRefs-weaker (IsBefore root (length rows) (length rows + length extra)) (λ j. level j ≡ with j)
    (λ j before. fresh_level rows root row extra level with c (suc j) j (omega arith) (below_or_new root (length rows) (length rows + length extra) j before)) row c.refs)

-- where that is at most the level that it had, no node's level rises
none_rises : (rows : List Row) (root : ℕ) (row : Row) (extra : List Row) (level with own : ℕ → ℕ) → IsChange rows root row extra level with
    → HasLevels rows own → row_level with root row ≤ own root → (k n : ℕ) → n < k → n < length rows → level n ≤ own n
none_rises rows root row extra level with own c has low zero n lt inside = absurd (omega arith)
none_rises rows root row extra level with own c has low (suc k) n lt inside = elim (cases_eq n root) [
  | inl e ↦ subst (λ m. level m ≤ own m) (sym e) (let is = root_level rows root row extra level with c in omega (arith, is, low))
  | inr ne ↦
      let here : level n ≡ row_level level n (row_at rows n) = c.levels n ∙ ap (row_level level n) (at_old rows root row extra n inside ne) in
      let was : own n ≡ row_level own n (row_at rows n) = has n in
      let lower : row_level level n (row_at rows n) ≤ row_level own n (row_at rows n) =
      row_level-rises level own n (row_at rows n)
      (AllRefs-weaker (λ m. m < n) (λ m. level m ≤ own m) (λ m less. none_rises rows root row extra level with own c has low k m (omega arith) (omega arith)) (row_at rows n) (c.order n)) in
      omega (arith, here, was, lower)
]

pub levels_stay : LevelsStay
levels_stay rows r order positive there low keeps level has n lt =
    none_rises rows r.root (new_root_by rows r) extra level with (level_in (levels_of rows)) change (one_levels_is rows order).0
    (leb-true (row_level with r.root (new_root_by rows r)) (level_in (levels_of rows) r.root) keeps) (suc n) n (omega arith) lt
  where
    extra : List Row
    extra = new_rows_by rows r

    with : ℕ → ℕ
    with = level_in (levels_of (rows ++ new_rows_by rows r))

    below : IsBelow r
    below = record { positive = positive; low = low }

    change : IsChange rows r.root (new_root_by rows r) (new_rows_by rows r) level (level_in (levels_of (rows ++ new_rows_by rows r)))
    change =
        let before = placed_is_before rows r.root r.count r.leaves r.gates r.out positive low in
        record {
          order = order;
          there = there;
          refs = before.1;
          each = before.0.rows_before;
          levels = has;
          with_levels = (one_levels_is (rows ++ new_rows_by rows r) (with_new rows (new_rows_by rows r) order (new_is_extra rows r below there).each)).0;
        }
