use Rattle.syn_netlist.proofs.Functions.{function_from_same as law}
use Rattle.syn_netlist.proofs.laws.function_from_same.Goals as goal

pub returns : goal.returns
returns c = law
