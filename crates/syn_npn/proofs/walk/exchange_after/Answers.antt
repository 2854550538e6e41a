use Rattle.std.proofs.Common.{refl}
use Rattle.syn_npn.specs.Walk.{exchange_at}
use Rattle.syn_npn.proofs.walk.exchange_after.Goals as goal

pub returns-clause-variable : goal.returns-clause-variable
unfolding exchange_at
returns-clause-variable c = refl
