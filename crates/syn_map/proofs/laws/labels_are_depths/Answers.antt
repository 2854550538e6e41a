use Rattle.syn_map.proofs.Fitted.{labels_deep}
use Rattle.syn_map.proofs.laws.labels_are_depths.Goals as goal

pub returns : goal.returns
returns c = labels_deep
