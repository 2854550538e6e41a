use Rattle.syn_netlist.proofs.Evaluation.{order_keeps_function as law}
use Rattle.syn_netlist.proofs.laws.order_keeps_function.Goals as goal

pub returns : goal.returns
returns c = law
