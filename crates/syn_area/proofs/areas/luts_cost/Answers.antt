use Rattle.std.proofs.Common.{◌+◌, ap, ◌∙◌, length, drop, arith}
use Rattle.std.proofs.lemmas.List.Sums.{sum_by-cons}
use Rattle.syn_lutnet.specs.Data.{lut_data, luts_data}
use Rattle.syn_lutnet.specs.LutData.{Lut}
use Rattle.syn_lutnet.proofs.LutDepths.{luts_next}
use Rattle.syn_area.specs.Areas.{cost_of, luts_cost}
use Rattle.syn_area.proofs.areas.luts_cost.Goals as goal

pub loop-lut-preserved : goal.loop-lut-preserved
loop-lut-preserved c =
    let luts = c.args.luts.now in
    let i = c.loop-lut.lut-index in
    let lut = c.lut-item.result in
    let next = ap (luts_cost c.args.areas.now) (luts_next luts i lut c.loop-lut-test.true c.lut-item.is)
    ∙ sum_by-cons (λ (l : Lut). cost_of c.args.areas.now (length l.inputs)) (lut_data lut) (luts_data (drop (i + 1) luts)) in
    record {
      left = omega (arith, next, c.loop-lut.invariant.left, c.cost_of_lut-more.ensures);
      few = omega (arith, c.loop-lut.invariant.few);
    }
