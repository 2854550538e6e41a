use Rattle.syn_covering.proofs.Counting.{mapping_few}
use Rattle.syn_covering.proofs.laws.mapping_is_small.Goals as goal

pub returns : goal.returns
returns c = mapping_few
