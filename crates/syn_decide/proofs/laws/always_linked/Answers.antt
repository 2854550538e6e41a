use Rattle.syn_decide.proofs.Linking.{always_linked}
use Rattle.syn_decide.proofs.laws.always_linked.Goals as goal

pub returns : goal.returns
returns c = always_linked
