use Rattle.syn_reader.proofs.Faults.{not_both as law}
use Rattle.syn_reader.proofs.laws.not_both.Goals as goal

pub returns : goal.returns
returns c = law
