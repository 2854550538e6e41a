use Rattle.syn_core_laws.proofs.Laws as Laws
use Rattle.syn_core_laws.proofs.runs_stay_sound.Goals as goal

pub returns : goal.returns
returns c = Laws.runs_stay_sound
