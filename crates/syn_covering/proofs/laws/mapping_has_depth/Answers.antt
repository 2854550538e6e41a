use Rattle.syn_covering.proofs.Depths.{mapping_deep}
use Rattle.syn_covering.proofs.laws.mapping_has_depth.Goals as goal

pub returns : goal.returns
returns c = mapping_deep
