use Rattle.syn_cuts.proofs.Cutting.{listed_are_cuts as law}
use Rattle.syn_cuts.proofs.laws.listed_are_cuts.Goals as goal

pub returns : goal.returns
returns c = law
