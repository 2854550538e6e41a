use Rattle.syn_core_laws.proofs.Valuing as Valuing
use Rattle.syn_core_laws.proofs.some_valuation.Goals as goal

pub returns : goal.returns
returns c = Valuing.some_valuation
