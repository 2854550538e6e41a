use Rattle.syn_core_laws.proofs.Splitting as Splitting
use Rattle.syn_core_laws.proofs.splits_keep_sound.Goals as goal

pub returns : goal.returns
returns c = Splitting.splits_keep_sound
