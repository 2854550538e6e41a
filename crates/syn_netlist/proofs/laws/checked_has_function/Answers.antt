use Rattle.syn_netlist.proofs.Checked.{checked_has_function as law}
use Rattle.syn_netlist.proofs.laws.checked_has_function.Goals as goal

pub returns : goal.returns
returns c = law
