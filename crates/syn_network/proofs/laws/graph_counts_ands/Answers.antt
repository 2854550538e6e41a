use Rattle.syn_network.proofs.Counted.{graph_counts_ands_is}
use Rattle.syn_network.proofs.laws.graph_counts_ands.Goals as goal

pub returns : goal.returns
returns c = graph_counts_ands_is c.has_ands.ensures
