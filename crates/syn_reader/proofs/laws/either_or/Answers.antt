use Rattle.syn_reader.proofs.Either.{either_or as law}
use Rattle.syn_reader.proofs.laws.either_or.Goals as goal

pub returns : goal.returns
returns c = law
