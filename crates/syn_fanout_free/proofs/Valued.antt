-- Values are kept.
use Rattle.std.proofs.Common.{get_or, ◌≡◌, ℕ, ◌%◌, ◌&&◌, ◌==◌, Bool, false, not, All, List, [], ◌∷◌, map, if◌then◌else◌, sym, ap, ap₂, ◌∙◌, subst, refl, inl, inr}
use Rattle.std.proofs.lemmas.Bool.{cases_Bool}
use Rattle.std.proofs.lemmas.List.Elements.{All-head, All-tail}
use Rattle.syn_rows.specs.declared.Lit.{Lit}
use Rattle.syn_rows.specs.declared.Row.{Row}
use Rattle.syn_rows.specs.declared.Row.TheVariants.{Free, Source, And, Alias}
use Rattle.syn_rows.specs.Rows.{node_of, row_at, AllRefs}
use Rattle.syn_rows.specs.Values.{lit_value, RowFits}
use Rattle.syn_fanout_free.specs.Freed.{is_free, is_new}
use Rattle.syn_fanout_free.specs.Laws.{ValuesAreKept}
use Rattle.syn_fanout_free.proofs.Pointwise.{each_ref, at_ref}
use Rattle.syn_fanout_free.proofs.Sets.{old_parts}

same_lit : (v w : ℕ → Bool) (l : Lit) → w (node_of l) ≡ v (node_of l) → lit_value w l ≡ lit_value v l
same_lit v w l e = ap (λ b. if l.0 % 2 == 0 then b else not b) e

-- a row whose literals have the same values fits as before
row_still_fits : (v w : ℕ → Bool) (p : ℕ) (r : Row) → RowFits v p r → w p ≡ v p → AllRefs (λ m. w m ≡ v m) r → RowFits w p r
row_still_fits v w p Free fits here there = tt
row_still_fits v w p Source fits here there = tt
row_still_fits v w p (And a b) fits here there = here ∙ fits ∙ sym (ap₂ (λ x y. x && y) (same_lit v w a there.0) (same_lit v w b there.1))
row_still_fits v w p (Alias a) fits here there = here ∙ fits ∙ sym (same_lit v w a there)

observed_kept : (v w : ℕ → Bool) (observed : List Lit) → All (λ l. w (node_of l) ≡ v (node_of l)) observed → map (lit_value w) observed ≡ map (lit_value v) observed
observed_kept v w [] same = refl
observed_kept v w (l ∷ ls) same =
    ap₂ (λ (x : Bool) (xs : List Bool). x ∷ xs) (same_lit v w l (All-head (λ k. w (node_of k) ≡ v (node_of k)) l ls same))
    (observed_kept v w ls (All-tail (λ k. w (node_of k) ≡ v (node_of k)) l ls same))

pub values_are_kept : ValuesAreKept
values_are_kept was now observed n v w keeps within zero_there fits agrees new = (
  record {
    constant = agrees 0 zero_there ∙ fits.constant;
    each = λ p. elim (cases_Bool (is_new was n p)) [
      | inl fresh ↦ new p fresh
      | inr old ↦
          let parts = old_parts was n p old in
          subst (λ (r : Row). RowFits w p r) (sym (keeps p parts.0 parts.1))
          (row_still_fits v w p (row_at was p) (fits.each p) (agrees p parts.1)
          (each_ref (λ m. w m ≡ v m) (row_at was p) (λ m r. agrees m (at_ref (λ j. is_free (row_at was j) ≡ false) (row_at was p) (within.rows_in p) m r))))
    ];
  },
  observed_kept v w observed (λ i d lt. agrees (node_of (get_or observed i d)) (within.observed_in i d lt)),
)
