use Rattle.syn_text.proofs.Shaped.{luts_are_checked as law}
use Rattle.syn_text.proofs.laws.luts_are_checked.Goals as goal

pub returns : goal.returns
returns c = law
