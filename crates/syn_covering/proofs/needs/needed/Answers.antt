use Rattle.std.proofs.Common.{List, Bool, false, length, ap, ◌∙◌}
use Rattle.std.proofs.lemmas.List.{length-replicate}
use Rattle.syn_covering.proofs.Swept.{swept_start}
use Rattle.syn_covering.proofs.needs.needed.Goals as goal

pub sweep-requires-clause-observed : goal.sweep-requires-clause-observed
sweep-requires-clause-observed g c =
    let rows = c.args.rows.now in
    let none = c.as_mut_slice-slice.ensures.value ∙ c.in_ok-marks.ensures in
    let count = ap (λ (bs : List Bool). length bs) none ∙ length-replicate (length rows) false in
    swept_start (g.C.Choice.leaves c.args.choice.now) rows c.args.observed.now c.as_mut_slice-slice.result.now c.mark_observed.new.marks none (c.mark_observed.auto.marks ∙ count) c.mark_observed.ensures
