use Rattle.syn_reader.proofs.Faultless.{faultless_say as law}
use Rattle.syn_reader.proofs.laws.faultless_say.Goals as goal

pub returns : goal.returns
returns c = law
