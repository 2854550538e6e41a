use Rattle.syn_cones.proofs.Swapping.{all_fit_between}
use Rattle.syn_cones.proofs.laws.all_fit_between.Goals as goal

pub returns : goal.returns
returns c = all_fit_between
