use Rattle.syn_network.proofs.Spelled.{graph_has_function_is}
use Rattle.syn_network.proofs.laws.graph_has_function.Goals as goal

pub returns : goal.returns
returns c = graph_has_function_is c.one_valuation.ensures c.ordered_has_one.ensures
