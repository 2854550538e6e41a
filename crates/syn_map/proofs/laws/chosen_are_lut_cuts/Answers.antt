use Rattle.syn_map.proofs.Fitted.{chosen_fit}
use Rattle.syn_map.proofs.laws.chosen_are_lut_cuts.Goals as goal

pub returns : goal.returns
returns c = chosen_fit
