use Rattle.syn_network.proofs.SpelledNetworks.{network_spells}
use Rattle.syn_network.proofs.laws.network_of_graph.Goals as goal

pub returns : goal.returns
returns c = network_spells
