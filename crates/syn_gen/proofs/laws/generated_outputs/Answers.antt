use Rattle.syn_gen.proofs.Checking as checking
use Rattle.syn_gen.proofs.laws.generated_outputs.Goals as goal

pub returns : goal.returns
returns c = checking.generated_outputs
