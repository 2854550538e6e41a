use Rattle.syn_covering.proofs.LutNets.{mapping_net}
use Rattle.syn_covering.proofs.laws.mapping_is_net.Goals as goal

pub returns : goal.returns
returns c = mapping_net
