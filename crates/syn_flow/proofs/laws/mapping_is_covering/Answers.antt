use Rattle.syn_flow.proofs.Attained.{mapping_covers}
use Rattle.syn_flow.proofs.laws.mapping_is_covering.Goals as goal

pub returns : goal.returns
returns c = mapping_covers
