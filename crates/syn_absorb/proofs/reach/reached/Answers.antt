use Rattle.std.proofs.Common.{List, Bool, false, length, ◌+◌, ap, ◌∙◌, sym}
use Rattle.std.proofs.lemmas.List.{length-map, length-replicate}
use Rattle.syn_lutnet.specs.Data.{lut_data, luts_data}
use Rattle.syn_absorb.proofs.Marking.{swept_start}
use Rattle.syn_absorb.proofs.reach.reached.Goals as goal

pub sweep-requires-clause-observed : goal.sweep-requires-clause-observed
sweep-requires-clause-observed c =
    let first = c.args.source_count + 1 in
    let luts = c.args.luts.now in
    let none = c.as_mut_slice-slice.ensures.value ∙ c.in_ok-marks.ensures in
    let count = ap (λ (bs : List Bool). length bs) none ∙ length-replicate (first + length luts) false in
    swept_start first (luts_data luts) c.args.observed.now c.as_mut_slice-slice.result.now c.mark_observed.new.marks (length luts) (sym (length-map luts lut_data)) none (c.mark_observed.auto.marks ∙ count) c.mark_observed.ensures
