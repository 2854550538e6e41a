use Rattle.syn_npn.proofs.Unique.{one_canon}
use Rattle.syn_npn.proofs.laws.one_canon.Goals as goal

pub returns : goal.returns
returns c = one_canon
