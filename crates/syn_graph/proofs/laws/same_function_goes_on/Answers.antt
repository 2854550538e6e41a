use Rattle.syn_graph.proofs.Graphing.{goes_on}
use Rattle.syn_graph.proofs.laws.same_function_goes_on.Goals as goal

pub returns : goal.returns
returns c = goes_on
