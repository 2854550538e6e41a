use Rattle.syn_netlist.proofs.Checked.{answered_is_circle as law}
use Rattle.syn_netlist.proofs.laws.answered_is_circle.Goals as goal

pub returns : goal.returns
returns c = law
