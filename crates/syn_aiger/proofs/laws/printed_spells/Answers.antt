use Rattle.syn_aiger.proofs.Sound.{printed_spells as law}
use Rattle.syn_aiger.proofs.laws.printed_spells.Goals as goal

pub returns : goal.returns
returns c = law
