use Rattle.std.proofs.Common.{◌∙◌, ap, length, nat_lt, ◌==◌, ◌&&◌}
use Rattle.syn_decide.specs.Tasks.{task_of}
use Rattle.syn_decide.specs.Hints.{is_asked, most_hits, placed_by_hits}
use Rattle.syn_decide.specs.Phases.{state_at}
use Rattle.syn_decide.proofs.Answering.{hint_fits, hint_unfit}
use Rattle.syn_decide.proofs.answers.hint_key.Goals as goal

pub returns-then-is_hint-clause-state : goal.returns-then-is_hint-clause-state
returns-then-is_hint-clause-state c = λ stage waiting inner.
    c.hinted.ensures.state stage waiting inner
    ∙ hint_fits (task_of c.args.attempt.now) (state_at stage inner c.args.found.now) c.args.last c.in-Some.last c.args.node c.args.key c.is_hint.result c.in-Some.is
    (c.is_hint.ensures.hint
    ∙ ap (λ hs. (c.args.node == c.in-Some.last.node && nat_lt (length hs) most_hits) && is_asked (placed_by_hits (task_of c.args.attempt.now) hs).extra c.in-Some.last.row) c.as_slice.ensures.value)
    c.if-is_hint.true

pub returns-else-is_hint-clause-state : goal.returns-else-is_hint-clause-state
returns-else-is_hint-clause-state c = λ stage waiting inner.
    hint_unfit (task_of c.args.attempt.now) (state_at stage inner c.args.found.now) c.args.last c.in-Some.last c.args.node c.args.key c.is_hint.result c.in-Some.is
    (c.is_hint.ensures.hint
    ∙ ap (λ hs. (c.args.node == c.in-Some.last.node && nat_lt (length hs) most_hits) && is_asked (placed_by_hits (task_of c.args.attempt.now) hs).extra c.in-Some.last.row) c.as_slice.ensures.value)
    c.if-is_hint.false
