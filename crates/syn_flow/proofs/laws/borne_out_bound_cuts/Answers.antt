use Rattle.syn_flow.proofs.Bounding.{bound_cuts}
use Rattle.syn_flow.proofs.laws.borne_out_bound_cuts.Goals as goal

pub returns : goal.returns
returns c = bound_cuts
