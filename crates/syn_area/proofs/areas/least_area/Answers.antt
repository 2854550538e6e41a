use Rattle.std.proofs.Common.{ap, arith}
use Rattle.std.proofs.lemmas.List.{drop_all}
use Rattle.syn_area.specs.Areas.{least_area}
use Rattle.syn_area.proofs.Costing.{low_area}
use Rattle.syn_area.proofs.areas.least_area.Goals as goal

pub loop-area-init : goal.loop-area-init
loop-area-init c = record { left = omega (arith, low_area c.args.areas.now); few = omega arith }

pub returns : goal.returns
returns c =
    let done = ap least_area (drop_all c.loop-area.area-index c.args.areas.now (omega (arith, c.loop-area-test.false))) in
    omega (arith, done, c.loop-area.invariant.left, c.loop-area.invariant.few)
