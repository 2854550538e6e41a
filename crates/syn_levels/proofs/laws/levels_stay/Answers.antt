use Rattle.syn_levels.proofs.Staying.{levels_stay}
use Rattle.syn_levels.proofs.laws.levels_stay.Goals as goal

pub returns : goal.returns
returns c = levels_stay
