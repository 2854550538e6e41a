use Rattle.syn_aiger.proofs.Normal.{aig_of_is_normal as law}
use Rattle.syn_aiger.proofs.laws.aig_of_is_normal.Goals as goal

pub returns : goal.returns
returns c = law
