use Rattle.syn_area.proofs.Costing.{never_falls}
use Rattle.syn_area.proofs.laws.cost_never_falls.Goals as goal

pub returns : goal.returns
returns c = never_falls
