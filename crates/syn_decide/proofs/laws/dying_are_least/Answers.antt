use Rattle.syn_decide.proofs.Least.{dying_are_least}
use Rattle.syn_decide.proofs.laws.dying_are_least.Goals as goal

pub returns : goal.returns
returns c = dying_are_least
