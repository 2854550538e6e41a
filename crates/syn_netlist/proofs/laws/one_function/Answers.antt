use Rattle.syn_netlist.proofs.Functions.{one_function as law}
use Rattle.syn_netlist.proofs.laws.one_function.Goals as goal

pub returns : goal.returns
returns c = law
