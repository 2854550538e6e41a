-- The fan-outs, listed from the last row down.
use Rattle.std.proofs.Common.{◌≡◌, ℕ, suc, ◌<◌, ◌≤◌, ◌⊎◌, true, false, List, length, get_or, replicate, refl, sym, ap, ◌∙◌, subst, inl, inr, arith}
use Rattle.std.proofs.lemmas.Bool.{cases_eq}
use Rattle.std.proofs.lemmas.List.{get_or-replicate, length-replicate}
use Rattle.syn_rows.specs.declared.Row.{Row}
use Rattle.syn_rows.specs.Rows.{row_at}
use Rattle.syn_resub.specs.FanOuts.{AreListedFrom, IsFirstOver, NoneOver, is_over}

-- a row that is not over d doesn't matter
none_more : (rows : List Row) (d node high : ℕ) → is_over d (row_at rows node) ≡ false → NoneOver rows d (suc node) high → NoneOver rows d node high
none_more rows d node high other none p low below = elim (cases_eq p node) [
  | inl same ↦ subst (λ k. is_over d (row_at rows k) ≡ false) (sym same) other
  | inr differ ↦ none p (omega arith) below
]

first_more : (rows : List Row) (d node m : ℕ) → is_over d (row_at rows node) ≡ false → IsFirstOver rows d (suc node) m → IsFirstOver rows d node m
first_more rows d node m other first = record { none = none_more rows d node m other first.none; over = by first.over }
  where
    by : (m ≡ length rows) ⊎ ((suc node ≤ m) × (m < length rows) × (is_over d (row_at rows m) ≡ true)) → (m ≡ length rows) ⊎ ((node ≤ m) × (m < length rows) × (is_over d (row_at rows m) ≡ true))
    by (inl past) = inl past
    by (inr (low, there, over)) = inr (omega (arith, low), there, over)

-- nothing is listed yet
pub none_listed : (first next : List ℕ) (rows : List Row) → first ≡ replicate (length rows) (length rows) → next ≡ replicate (length rows) (length rows) → AreListedFrom first next rows (length rows)
none_listed first next rows firsts nexts = record {
  count = ap (λ (l : List ℕ). length l) firsts ∙ length-replicate (length rows) (length rows);
  count_next = ap (λ (l : List ℕ). length l) nexts ∙ length-replicate (length rows) (length rows);
  first_over = λ d below. subst (IsFirstOver rows d (length rows)) (sym (ap (λ (l : List ℕ). get_or l d 0) firsts ∙ get_or-replicate (length rows) d (length rows) 0 below)) (record { none = λ p low high. absurd (omega (arith, low, high)); over = inl refl });
  next_over = λ d m low below over. absurd (omega (arith, low, below));
}
