use Rattle.syn_netlist.proofs.Functions.{same_is_transitive as law}
use Rattle.syn_netlist.proofs.laws.same_is_transitive.Goals as goal

pub returns : goal.returns
returns c = law
