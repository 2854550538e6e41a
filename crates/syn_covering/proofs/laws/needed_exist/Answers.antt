use Rattle.syn_covering.proofs.NeededNodes.{needed_exist}
use Rattle.syn_covering.proofs.laws.needed_exist.Goals as goal

pub returns : goal.returns
returns c = needed_exist
