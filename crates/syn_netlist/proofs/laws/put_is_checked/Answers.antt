use Rattle.syn_netlist.proofs.Arranging.{put_is_checked as law}
use Rattle.syn_netlist.proofs.laws.put_is_checked.Goals as goal

pub returns : goal.returns
returns c = law
