-- Where the rows stand after a replacement, and that it stays inside.
use Rattle.std.proofs.Common.{◌≡◌, ◌≢◌, ℕ, suc, ◌+◌, ◌-◌, ◌<◌, nat_lt, true, false, All, List, [], ◌∷◌, ◌++◌, length, get_or, set, refl, sym, ap, ◌∙◌, subst, arith, inl, inr, length-append}
use Rattle.std.specs.List.{list_all}
use Rattle.std.proofs.lemmas.Bool.{cases_eq, cases_lt, and_from, lt-ltb}
use Rattle.std.proofs.lemmas.List.{get_or-set_same, get_or-set_other, length-set, get_or_append_left, get_or-append-add}
use Rattle.std.proofs.lemmas.List.Elements.{All-head, All-tail}
use Rattle.syn_rows.specs.declared.Lit.{Lit}
use Rattle.syn_rows.specs.declared.Row.{Row}
use Rattle.syn_rows.specs.declared.Row.TheVariants.{Free, Source, And, Alias}
use Rattle.syn_rows.specs.Rows.{node_of, row_at, AllRefs, InOrder, refs_below, refs_within}
use Rattle.syn_rows.proofs.Folds.{AllRefs-weaker}
use Rattle.syn_fanout_free.specs.Freed.{is_free, Keeps, RefersInside}
use Rattle.syn_fanout_free.specs.Saved.{replaced, IsExtra, IsOwned}
use Rattle.syn_fanout_free.proofs.Pointwise.{each_ref, at_ref, inside, refers_not_free}

pub at_root : (was : List Row) (n : ℕ) (row : Row) (extra : List Row) → n < length was → row_at (replaced was n row extra) n ≡ row
at_root was n row extra there =
    get_or_append_left (set was n row) extra Free n (omega (arith, there, length-set was n row)) ∙ get_or-set_same was n row Free there

pub at_old : (was : List Row) (n : ℕ) (row : Row) (extra : List Row) (p : ℕ) → p < length was → p ≢ n → row_at (replaced was n row extra) p ≡ row_at was p
at_old was n row extra p there ne =
    get_or_append_left (set was n row) extra Free p (omega (arith, there, length-set was n row)) ∙ get_or-set_other was n p row Free ne

pub at_extra : (was : List Row) (n : ℕ) (row : Row) (extra : List Row) (i : ℕ) → row_at (replaced was n row extra) (length was + i) ≡ row_at extra i
at_extra was n row extra i =
    ap (λ k. get_or (set was n row ++ extra) (k + i) Free) (sym (length-set was n row)) ∙ get_or-append-add (set was n row) extra i Free

pub replaced_length : (was : List Row) (n : ℕ) (row : Row) (extra : List Row) → length (replaced was n row extra) ≡ length was + length extra
replaced_length was n row extra = omega (arith, length-append (set was n row) extra, length-set was n row)

-- tests on references, from what each row and each literal refers to
refs_below_from : (k : ℕ) (row : Row) → AllRefs (λ m. m < k) row → refs_below k row ≡ true
refs_below_from k Free h = refl
refs_below_from k Source h = refl
refs_below_from k (And a b) h = and_from (nat_lt (node_of a) k) (nat_lt (node_of b) k) (lt-ltb (node_of a) k h.0) (lt-ltb (node_of b) k h.1)
refs_below_from k (Alias a) h = lt-ltb (node_of a) k h

all_below_from : (k : ℕ) (rows : List Row) → ((p : ℕ) → AllRefs (λ m. m < k) (row_at rows p)) → list_all (refs_below k) rows ≡ true
all_below_from k [] h = refl
all_below_from k (row ∷ rows) h = and_from (refs_below k row) (list_all (refs_below k) rows) (refs_below_from k row (h 0)) (all_below_from k rows (λ p. h (suc p)))

pub within_from : (rows : List Row) → ((p : ℕ) → AllRefs (λ m. m < length rows) (row_at rows p)) → refs_within rows ≡ true
within_from rows h = all_below_from (length rows) rows h

pub lits_from : (k : ℕ) (lits : List Lit) → All (λ l. node_of l < k) lits → list_all (λ l. nat_lt (node_of l) k) lits ≡ true
lits_from k [] h = refl
lits_from k (l ∷ ls) h = and_from (nat_lt (node_of l) k) (list_all (λ x. nat_lt (node_of x) k) ls) (lt-ltb (node_of l) k (All-head (λ x. node_of x < k) l ls h)) (lits_from k ls (All-tail (λ x. node_of x < k) l ls h))

pub order_within : (rows : List Row) → InOrder rows → refs_within rows ≡ true
order_within rows order = within_from rows (λ p. each_ref (λ m. m < length rows) (row_at rows p)
    (λ m r. omega (arith, at_ref (λ k. k < p) (row_at rows p) (order p) m r, inside rows p (refers_not_free (row_at rows p) m r))))

pub replaced_within : (was : List Row) (n : ℕ) (row : Row) (extra : List Row) → n < length was → InOrder was → IsExtra (length was) row extra → refs_within (replaced was n row extra) ≡ true
replaced_within was n row extra there order fits = within_from now each
  where
    now : List Row
    now = replaced was n row extra

    long : length now ≡ length was + length extra
    long = replaced_length was n row extra

    each : (p : ℕ) → AllRefs (λ m. m < length now) (row_at now p)
    each p = elim (cases_lt p (length was)) [
      | inl old ↦ elim (cases_eq p n) [
        | inl e ↦ subst (AllRefs (λ m. m < length now)) (sym (ap (row_at now) e ∙ at_root was n row extra there))
            (AllRefs-weaker (λ m. m < length was + length extra) (λ m. m < length now) (λ m lt. omega (arith, lt, long)) row fits.root)
        | inr ne ↦ subst (AllRefs (λ m. m < length now)) (sym (at_old was n row extra p old ne))
            (AllRefs-weaker (λ m. m < p) (λ m. m < length now) (λ m lt. omega (arith, lt, old, long)) (row_at was p) (order p))
      ]
      | inr new ↦
          let back : length was + (p - length was) ≡ p = omega (arith, new) in
          subst (AllRefs (λ m. m < length now)) (sym (at_extra was n row extra (p - length was)) ∙ ap (row_at now) back)
          (each_ref (λ m. m < length now) (row_at extra (p - length was)) (λ m r.
          omega (
            arith,
            at_ref (λ k. k < length was + (p - length was)) (row_at extra (p - length was)) (fits.each (p - length was)) m r,
            inside extra (p - length was) (refers_not_free (row_at extra (p - length was)) m r),
            long,
          )))
    ]

pub replaced_keeps : (was : List Row) (n : ℕ) (row : Row) (extra : List Row) → Keeps was (replaced was n row extra) n
replaced_keeps was n row extra p ne old = at_old was n row extra p (inside was p old) ne

-- in full rows in order references and observed literals stay inside
pub owned_inside : (was : List Row) (observed : List Lit) (counts : ℕ → ℕ) (n : ℕ) → IsOwned was observed counts n → RefersInside was observed
owned_inside was observed counts n owned = record {
  rows_in = λ p. each_ref (λ m. is_free (row_at was m) ≡ false) (row_at was p)
      (λ m r. owned.full m (omega (arith, at_ref (λ k. k < p) (row_at was p) (owned.order p) m r, inside was p (refers_not_free (row_at was p) m r))));
  observed_in = λ i d lt. owned.full (node_of (get_or observed i d)) (owned.within i d lt);
}
