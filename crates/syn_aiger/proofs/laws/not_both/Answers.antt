use Rattle.syn_aiger.proofs.Verdicts.{not_both as law}
use Rattle.syn_aiger.proofs.laws.not_both.Goals as goal

pub returns : goal.returns
returns c = law
