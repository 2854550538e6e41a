use Rattle.syn_hashed.proofs.Compacted.{has_level_is}
use Rattle.syn_hashed.proofs.compaction.has_level.Goals as goal

pub returns : goal.returns
returns c = has_level_is
