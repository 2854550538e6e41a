use Rattle.std.proofs.Common.{refl}
use Rattle.syn_cones.proofs.Carrying.{over_more}
use Rattle.syn_cones.proofs.carried.CutFunction.over_more.Goals as goal

pub returns : goal.returns
returns c = λ rows order is. over_more rows c.args.leaves.now c.args.more.now c.args.root c.args.self _ order c.in_ok-word.ensures refl is
