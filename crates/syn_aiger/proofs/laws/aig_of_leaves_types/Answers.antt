use Rattle.syn_aiger.proofs.Frames.{aig_of_leaves_types as law}
use Rattle.syn_aiger.proofs.laws.aig_of_leaves_types.Goals as goal

pub returns : goal.returns
returns c = law
