use Rattle.syn_core_laws.proofs.Within as Within
use Rattle.syn_core_laws.proofs.counts_fit.Goals as goal

pub returns : goal.returns
returns c = Within.counts_fit
