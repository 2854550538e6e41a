use Rattle.syn_library.proofs.Owned.{own_within}
use Rattle.syn_library.proofs.laws.own_within.Goals as goal

pub returns : goal.returns
returns c = own_within
