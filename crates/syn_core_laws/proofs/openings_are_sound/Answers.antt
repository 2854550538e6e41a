use Rattle.syn_core_laws.proofs.Starting as Starting
use Rattle.syn_core_laws.proofs.openings_are_sound.Goals as goal

pub returns : goal.returns
returns c = Starting.openings_are_sound
