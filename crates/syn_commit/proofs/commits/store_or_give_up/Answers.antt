use Rattle.std.proofs.Common.{◌∙◌, ◌≡◌, ap, subst, sym}
use Rattle.syn_decide.specs.Decided.{told_answer}
use Rattle.syn_decide.specs.Fold.{Ended}
use Rattle.syn_commit.specs.Verdicts.{IsOver}
use Rattle.syn_commit.proofs.Booking.{ended_is, no_gain_told}
use Rattle.syn_commit.proofs.commits.store_or_give_up.Goals as goal

pub store-requires-clause-done : goal.store-requires-clause-done
store-requires-clause-done c =
    let answer = ap told_answer c.in-Done.is in
    (_, ended_is c.args.verdict.now.deciding.now c.requires.answered.ended (told_answer c.args.outcome) c.requires.answer ∙ ap Ended answer)

pub returns-in-Done : goal.returns-in-Done
returns-in-Done c =
    let answer = ap told_answer c.in-Done.is in
    subst (λ a. IsOver c.args.verdict.now a c.args.pool.now c.args.seat.now c.store.new.seat c.store.new.pool) (sym answer)
    (c.store.ensures _ (ended_is c.args.verdict.now.deciding.now c.requires.answered.ended (told_answer c.args.outcome) c.requires.answer ∙ ap Ended answer))

pub returns-in_default : goal.returns-in_default
returns-in_default c = c.give_up.ensures (told_answer c.args.outcome) (no_gain_told c.args.outcome c.in_default.not-Done)
