use Rattle.syn_cuts.proofs.Sorting.{arranged_in_order as law}
use Rattle.syn_cuts.proofs.laws.arranged_in_order.Goals as goal

pub returns : goal.returns
returns c = law
