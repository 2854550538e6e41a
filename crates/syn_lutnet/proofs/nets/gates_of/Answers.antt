use Rattle.std.proofs.Common.{arith}
use Rattle.syn_lutnet.proofs.LutDepths.{gates_next}
use Rattle.syn_lutnet.proofs.nets.gates_of.Goals as goal

pub loop-lut-preserved : goal.loop-lut-preserved
loop-lut-preserved c =
    let next = gates_next c.args.luts.now c.loop-lut.lut-index c.lut-item.result c.loop-lut-test.true c.lut-item.is in
    record {
      left = omega (arith, next, c.loop-lut.invariant.left, c.gates-more.ensures.gates);
      few = omega (arith, c.loop-lut.invariant.few, c.gates-more.ensures.few);
    }
