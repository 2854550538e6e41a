use Rattle.std.proofs.lemmas.Result.{IfOk-weaker}
use Rattle.syn_core_laws.specs.Sound.{IsSound}
use Rattle.syn_core_laws.proofs.Laws.{runs_keep_sound, runs_stay_sound}
use Rattle.syn_core.proofs.replays.replay.Goals as goal

pub returns-clause-sound : goal.returns-clause-sound
returns-clause-sound c = λ s. IfOk-weaker c.replay_all.result _ (λ d. IsSound d) (λ d run. runs_keep_sound c.args.start.now c.args.events.now d s run) c.replay_all.ensures.ok

pub returns-clause-along : goal.returns-clause-along
returns-clause-along c = λ s. runs_stay_sound c.args.start.now c.args.events.now s
