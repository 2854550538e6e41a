use Rattle.std.proofs.Common.{◌∙◌, sym, ap, ◌&&◌}
use Rattle.syn_decide.specs.Tasks.{task_of}
use Rattle.syn_decide.specs.Hints.{is_asked, placed_by_hits}
use Rattle.syn_decide.proofs.answers.is_hint.Goals as goal

pub returns-then-is_behind-clause-hint : goal.returns-then-is_behind-clause-hint
returns-then-is_behind-clause-hint c =
    c.is_asked.ensures
    ∙ sym (ap (λ a. a && is_asked (placed_by_hits (task_of c.args.attempt.now) c.args.hits.now).extra c.args.last.row) (sym c.is_behind.ensures.behind ∙ c.if-is_behind.true))
