use Rattle.syn_lutnet.specs.Data.{lut_data}
use Rattle.syn_absorb.proofs.Narrowing.{narrower_itself, narrower_more}
use Rattle.syn_absorb.proofs.narrow.reduced.Goals as goal

pub loop-next-init : goal.loop-next-init
loop-next-init c = narrower_itself (lut_data c.args.lut)

pub loop-next-preserved : goal.loop-next-preserved
loop-next-preserved c = narrower_more (lut_data c.args.lut) (lut_data c.loop-next.narrow) (lut_data c.in-Some.next) c.loop-next.invariant c.in-Some.ensures.some
