use Rattle.syn_hashed.proofs.Compacted.{has_valuation_is}
use Rattle.syn_hashed.proofs.compaction.has_valuation.Goals as goal

pub returns : goal.returns
returns c = has_valuation_is
