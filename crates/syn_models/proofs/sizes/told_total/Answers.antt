use Rattle.std.proofs.Common.{arith}
use Rattle.syn_models.proofs.Sums.{told_end}
use Rattle.syn_models.proofs.sizes.told_total.Goals as goal

pub returns : goal.returns
returns c = told_end c.loop-m.sum c.args.totals.now c.args.inner.now c.loop-m.m-index _ c.loop-m.invariant.small (omega arith) c.loop-m.invariant.left
