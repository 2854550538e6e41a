use Rattle.std.proofs.lemmas.Result.{IfOk-weaker}
use Rattle.syn_core_laws.specs.Runs.{Steps}
use Rattle.syn_core_laws.specs.Sound.{IsSound}
use Rattle.syn_core_laws.proofs.Laws.{events_keep_sound}
use Rattle.syn_core.proofs.Reading.{seats_are_read, steps_read}
use Rattle.syn_core.proofs.states.State.step.Goals as goal

pub returns-clause-ok : goal.returns-clause-ok
returns-clause-ok c =
    IfOk-weaker c.apply.result _ (λ _. Steps c.args.self.now c.args.event.now c.apply.new.self)
    (λ u h. steps_read c.args.self.now c.args.event.now c.apply.new.self h.0 h.1) c.apply.ensures.ok

pub returns-clause-refused : goal.returns-clause-refused
returns-clause-refused c = λ err allowed. c.apply.ensures.refused err ((seats_are_read c.args.self.now c.args.event.now.seat c.args.event.now.kind).0 allowed)

pub returns-clause-sound : goal.returns-clause-sound
returns-clause-sound c = λ s.
    IfOk-weaker c.apply.result _ (λ _. IsSound c.apply.new.self)
    (λ u h. events_keep_sound c.args.self.now c.args.event.now c.apply.new.self s (steps_read c.args.self.now c.args.event.now c.apply.new.self h.0 h.1)) c.apply.ensures.ok
