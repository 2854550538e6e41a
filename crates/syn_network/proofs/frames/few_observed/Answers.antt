use Rattle.syn_network.proofs.Observing.{few_observed}
use Rattle.syn_network.proofs.frames.few_observed.Goals as goal

pub returns : goal.returns
returns c = few_observed c.args.frame.now c.len-count.ensures.distinct
