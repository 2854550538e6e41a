use Rattle.syn_reader.proofs.Faults.{one_fault as law}
use Rattle.syn_reader.proofs.laws.one_fault.Goals as goal

pub returns : goal.returns
returns c = law
