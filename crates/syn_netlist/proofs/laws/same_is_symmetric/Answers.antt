use Rattle.syn_netlist.proofs.Functions.{same_is_symmetric as law}
use Rattle.syn_netlist.proofs.laws.same_is_symmetric.Goals as goal

pub returns : goal.returns
returns c = law
