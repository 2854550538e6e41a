use Rattle.syn_lutnet.proofs.Ones.{ones_give}
use Rattle.syn_lutnet.proofs.laws.ones_give_table.Goals as goal

pub returns : goal.returns
returns c = ones_give
