use Rattle.syn_core_laws.proofs.Laws as Laws
use Rattle.syn_core_laws.proofs.sole_counts_stay_along.Goals as goal

pub returns : goal.returns
returns c = Laws.sole_counts_stay_along
