use Rattle.syn_netlist.proofs.Checked.{checked_has_no_fault as law}
use Rattle.syn_netlist.proofs.laws.checked_has_no_fault.Goals as goal

pub returns : goal.returns
returns c = law
