use Rattle.syn_network.proofs.LutNetworks.{network_spells_luts}
use Rattle.syn_network.proofs.laws.network_of_luts.Goals as goal

pub returns : goal.returns
returns c = network_spells_luts
