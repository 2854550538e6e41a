use Rattle.syn_reader.proofs.Faults.{one_netlist as law}
use Rattle.syn_reader.proofs.laws.one_netlist.Goals as goal

pub returns : goal.returns
returns c = law
