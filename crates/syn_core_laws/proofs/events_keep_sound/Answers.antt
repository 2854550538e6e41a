use Rattle.syn_core_laws.proofs.Laws as Laws
use Rattle.syn_core_laws.proofs.events_keep_sound.Goals as goal

pub returns : goal.returns
returns c = Laws.events_keep_sound
