use Rattle.syn_reader.proofs.Saying.{say_computed as law}
use Rattle.syn_reader.proofs.laws.say_computed.Goals as goal

pub returns : goal.returns
returns c = law
