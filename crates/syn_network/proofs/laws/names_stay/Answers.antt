use Rattle.syn_network.proofs.Naming as naming
use Rattle.syn_network.proofs.laws.names_stay.Goals as goal

pub returns : goal.returns
returns c = naming.names_stay
