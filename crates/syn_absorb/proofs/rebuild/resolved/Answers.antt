use Rattle.syn_lutnet.specs.Data.{lut_data}
use Rattle.syn_absorb.proofs.Literals.{resolved_is}
use Rattle.syn_absorb.proofs.rebuild.resolved.Goals as goal

pub returns : goal.returns
returns c = resolved_is c.args.lits.now (lut_data c.args.lut.now) (lut_data c.through.result) c.reduced.result c.through.ensures c.reduced.ensures.narrower c.reduced.ensures.needed
