use Rattle.syn_aiger.proofs.Defined.{spelled_defines_once as law}
use Rattle.syn_aiger.proofs.laws.spelled_defines_once.Goals as goal

pub returns : goal.returns
returns c = law
