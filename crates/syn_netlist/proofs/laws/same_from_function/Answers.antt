use Rattle.syn_netlist.proofs.Functions.{same_from_function as law}
use Rattle.syn_netlist.proofs.laws.same_from_function.Goals as goal

pub returns : goal.returns
returns c = law
