use Rattle.syn_core_laws.proofs.Splitting as Splitting
use Rattle.syn_core_laws.proofs.joins_keep_sound.Goals as goal

pub returns : goal.returns
returns c = Splitting.joins_keep_sound
