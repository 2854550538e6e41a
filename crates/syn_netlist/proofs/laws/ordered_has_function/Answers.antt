use Rattle.syn_netlist.proofs.Evaluation.{ordered_has_function as law}
use Rattle.syn_netlist.proofs.laws.ordered_has_function.Goals as goal

pub returns : goal.returns
returns c = law
