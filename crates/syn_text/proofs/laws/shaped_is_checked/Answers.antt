use Rattle.syn_text.proofs.Shaped.{shaped_is_checked as law}
use Rattle.syn_text.proofs.laws.shaped_is_checked.Goals as goal

pub returns : goal.returns
returns c = law
