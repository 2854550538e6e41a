use Rattle.std.proofs.Common.{sym, subst}
use Rattle.std.proofs.lemmas.Result.{IfOk-weaker}
use Rattle.syn_core_laws.specs.Sound.{IsSound}
use Rattle.syn_core_laws.proofs.Starting.{openings_are_sound}
use Rattle.syn_core.proofs.openings.opening.Goals as goal

pub returns-clause-sound : goal.returns-clause-sound
returns-clause-sound c = λ start few.
    IfOk-weaker c.opened.result _ (λ s. IsSound s)
    (λ s e. subst IsSound (sym e) (openings_are_sound c.args.rows.now c.args.observed.now c.args.keys.now c.args.spare c.args.seats start few)) c.opened.ensures
