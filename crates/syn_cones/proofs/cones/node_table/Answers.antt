use Rattle.std.proofs.Common.{◌≡◌, ◌≢◌, ℕ, zero, suc, Bool, false, List, length, refl, sym, ap, ◌∙◌, arith}
use Rattle.std.proofs.lemmas.List.{length-map}
use Rattle.syn_rows.specs.declared.Row.{Row}
use Rattle.syn_rows.specs.Rows.{row_at}
use Rattle.syn_rows.specs.Values.{RowFits, is_open}
use Rattle.syn_cones.specs.Cones.{is_end, FitsAt}
use Rattle.syn_cones.proofs.cones.node_table.Goals as goal

constant_fits : (rows : List Row) (v : ℕ → Bool) (n : ℕ) → n ≡ 0 → FitsAt rows v n → v n ≡ false
constant_fits rows v zero e fits = fits
constant_fits rows v (suc n) e fits = absurd (omega (arith, e))

row_fits : (rows : List Row) (v : ℕ → Bool) (n : ℕ) → n ≢ 0 → is_end rows n ≡ false → FitsAt rows v n → (is_open (row_at rows n) ≡ false) × RowFits v n (row_at rows n)
row_fits rows v zero ne inner fits = absurd (ne refl)
row_fits rows v (suc n) ne inner fits = (inner, fits)

pub returns-in-None-clause-values : goal.returns-in-None-clause-values
returns-in-None-clause-values c = λ v xs e agree fits.
    constant_fits c.args.rows.now v c.args.node c.if-node-eq0.true (fits c.in-None.ensures.none).1
    ∙ sym (c.constant.ensures.values xs (ap length (sym e) ∙ length-map c.args.leaves.now v))

pub returns-in-None-2-clause-values : goal.returns-in-None-2-clause-values
returns-in-None-2-clause-values c = λ v xs e agree fits.
    let at = fits c.in-None.ensures.none in
    let inside = row_fits c.args.rows.now v c.args.node c.if-node-eq0.false at.0 at.1 in
    c.row_table.ensures.values c.args.node v xs (ap length (sym e) ∙ length-map c.args.leaves.now v) agree inside.0 inside.1
