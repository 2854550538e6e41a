use Rattle.syn_aiger.proofs.Either.{one_fault as law}
use Rattle.syn_aiger.proofs.laws.one_fault.Goals as goal

pub returns : goal.returns
returns c = law
