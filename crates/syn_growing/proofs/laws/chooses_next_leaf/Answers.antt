use Rattle.syn_growing.proofs.Choosing as choosing
use Rattle.syn_growing.proofs.laws.chooses_next_leaf.Goals as goal

pub returns : goal.returns
returns c = choosing.chooses_next_leaf
