use Rattle.syn_aiger.proofs.Frames.{aig_of_keeps as law}
use Rattle.syn_aiger.proofs.laws.aig_of_keeps.Goals as goal

pub returns : goal.returns
returns c = law
