use Rattle.syn_network.proofs.Meaning.{keeps_meaning}
use Rattle.syn_network.proofs.laws.same_function_keeps_meaning.Goals as goal

pub returns : goal.returns
returns c = keeps_meaning c.network_of_graph.ensures c.graph_has_function.ensures c.same_from_function.ensures
