use Rattle.syn_reader.proofs.Outputs.{few_outputs as law}
use Rattle.syn_reader.proofs.laws.few_outputs.Goals as goal

pub returns : goal.returns
returns c = law
