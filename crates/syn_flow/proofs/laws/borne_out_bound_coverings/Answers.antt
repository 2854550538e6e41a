use Rattle.syn_flow.proofs.Covered.{bound_coverings}
use Rattle.syn_flow.proofs.laws.borne_out_bound_coverings.Goals as goal

pub returns : goal.returns
returns c = bound_coverings
