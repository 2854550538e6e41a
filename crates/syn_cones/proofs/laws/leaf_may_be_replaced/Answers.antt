use Rattle.syn_cones.proofs.Swapping.{leaf_may_be_replaced}
use Rattle.syn_cones.proofs.laws.leaf_may_be_replaced.Goals as goal

pub returns : goal.returns
returns c = leaf_may_be_replaced
