use Rattle.syn_core_laws.proofs.Laws as Laws
use Rattle.syn_core_laws.proofs.one_valuation.Goals as goal

pub returns : goal.returns
returns c = Laws.one_valuation
