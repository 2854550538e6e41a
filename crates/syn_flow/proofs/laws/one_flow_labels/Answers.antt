use Rattle.syn_flow.proofs.OneLabels.{one_labels}
use Rattle.syn_flow.proofs.laws.one_flow_labels.Goals as goal

pub returns : goal.returns
returns c = one_labels
