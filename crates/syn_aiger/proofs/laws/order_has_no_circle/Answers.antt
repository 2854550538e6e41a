use Rattle.syn_aiger.proofs.Defined.{order_has_no_circle as law}
use Rattle.syn_aiger.proofs.laws.order_has_no_circle.Goals as goal

pub returns : goal.returns
returns c = law
