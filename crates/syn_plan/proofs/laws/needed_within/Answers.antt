use Rattle.syn_plan.proofs.Named.{all_within}
use Rattle.syn_plan.proofs.laws.needed_within.Goals as goal

pub returns : goal.returns
returns c = all_within
