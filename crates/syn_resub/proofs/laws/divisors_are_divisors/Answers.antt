use Rattle.syn_resub.proofs.Dividing as dividing
use Rattle.syn_resub.proofs.laws.divisors_are_divisors.Goals as goal

pub returns : goal.returns
returns c = dividing.divisors_are
