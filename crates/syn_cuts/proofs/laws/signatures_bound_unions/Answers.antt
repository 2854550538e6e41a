use Rattle.syn_cuts.proofs.Signing.{signatures_bound_unions}
use Rattle.syn_cuts.proofs.laws.signatures_bound_unions.Goals as goal

pub returns : goal.returns
returns c = signatures_bound_unions
