use Rattle.syn_flow.proofs.Covered.{bound_luts}
use Rattle.syn_flow.proofs.laws.borne_out_bound_luts.Goals as goal

pub returns : goal.returns
returns c = bound_luts
