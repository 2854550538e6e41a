use Rattle.std.proofs.Common.{arith}
use Rattle.syn_lutnet.proofs.Deepest.{greatest_le}
use Rattle.syn_mfs.proofs.passes.is_low.Goals as goal

pub returns : goal.returns
returns c = λ e. greatest_le (λ d. d) c.args.depths.now c.args.most (λ n lt. c.loop-depth.invariant n (omega (arith, lt, c.loop-depth-test.false)))
