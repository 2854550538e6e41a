use Rattle.syn_covering.proofs.NeededNodes.{needed_exist}
use Rattle.syn_map.specs.Labels.{chosen}
use Rattle.syn_map.proofs.Fitted.{chosen_fit}
use Rattle.syn_area.proofs.laws.needed_exist.Goals as goal

pub returns : goal.returns
returns c = λ k count rows lits two hashed. needed_exist k (chosen k rows) rows lits (chosen_fit k count rows two hashed)
