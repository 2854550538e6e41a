use Rattle.syn_core_laws.proofs.Within as Within
use Rattle.syn_core_laws.proofs.rows_pack.Goals as goal

pub returns : goal.returns
returns c = Within.rows_pack
