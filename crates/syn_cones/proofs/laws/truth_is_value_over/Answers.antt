use Rattle.syn_cones.proofs.Valued as valued
use Rattle.syn_cones.proofs.laws.truth_is_value_over.Goals as goal

pub returns : goal.returns
returns c = valued.truth_is_value_over
