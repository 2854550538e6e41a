use Rattle.syn_aiger.proofs.Either.{either_or as law}
use Rattle.syn_aiger.proofs.laws.either_or.Goals as goal

pub returns : goal.returns
returns c = law
