use Rattle.syn_netlist.proofs.Evaluation.{orderable_has_function as law}
use Rattle.syn_netlist.proofs.laws.orderable_has_function.Goals as goal

pub returns : goal.returns
returns c = law
