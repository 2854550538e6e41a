use Rattle.syn_lutnet.proofs.Deepest.{deepest_is_observed}
use Rattle.syn_lutnet.proofs.laws.deepest_is_observed.Goals as goal

pub returns : goal.returns
returns c = deepest_is_observed
