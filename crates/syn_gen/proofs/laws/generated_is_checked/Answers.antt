use Rattle.syn_gen.proofs.Checking as checking
use Rattle.syn_gen.proofs.laws.generated_is_checked.Goals as goal

pub returns : goal.returns
returns c = checking.generated_is_checked
