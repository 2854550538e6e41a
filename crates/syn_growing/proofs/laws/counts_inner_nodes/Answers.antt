use Rattle.syn_growing.proofs.Inner as inner
use Rattle.syn_growing.proofs.laws.counts_inner_nodes.Goals as goal

pub returns : goal.returns
returns c = inner.counts_inner_nodes
