use Rattle.syn_network.proofs.LutMeaning.{mapped_keeps_meaning_is}
use Rattle.syn_network.proofs.laws.mapped_keeps_meaning.Goals as goal

pub returns : goal.returns
returns c = mapped_keeps_meaning_is c.network_of_graph.ensures c.graph_has_function.ensures c.network_of_luts.ensures c.luts_have_function.ensures c.same_from_function.ensures
