use Rattle.syn_covering.proofs.LutNets.{mapping_stays}
use Rattle.syn_covering.proofs.laws.mapping_keeps_sources.Goals as goal

pub returns : goal.returns
returns c = mapping_stays
