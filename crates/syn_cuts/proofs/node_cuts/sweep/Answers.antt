use Rattle.std.proofs.Common.{arith}
use Rattle.syn_cuts.proofs.Filling.{all_done}
use Rattle.syn_cuts.proofs.node_cuts.sweep.Goals as goal

pub returns : goal.returns
returns c = all_done c.args.k c.args.rows.now c.loop-n.lists c.loop-n.invariant.listed (λ m l. c.loop-n.invariant.done m (omega (arith, l)))
