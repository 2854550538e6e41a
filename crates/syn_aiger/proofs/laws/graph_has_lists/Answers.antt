use Rattle.syn_aiger.proofs.ByPlace.{graph_has_lists as law}
use Rattle.syn_aiger.proofs.laws.graph_has_lists.Goals as goal

pub returns : goal.returns
returns c = law
