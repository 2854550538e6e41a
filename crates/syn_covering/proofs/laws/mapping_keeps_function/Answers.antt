use Rattle.syn_covering.proofs.Mapped.{mapping_keeps}
use Rattle.syn_covering.proofs.laws.mapping_keeps_function.Goals as goal

pub returns : goal.returns
returns c = mapping_keeps
