use Rattle.syn_netlist.proofs.Circles.{orderable_has_no_circle as law}
use Rattle.syn_netlist.proofs.laws.orderable_has_no_circle.Goals as goal

pub returns : goal.returns
returns c = law
