use Rattle.syn_core_laws.proofs.Within as Within
use Rattle.syn_core_laws.proofs.nodes_are_there.Goals as goal

pub returns : goal.returns
returns c = Within.nodes_are_there
