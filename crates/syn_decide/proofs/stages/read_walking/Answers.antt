use Rattle.std.proofs.Common.{◌∙◌, sym}
use Rattle.syn_decide.specs.Tasks.{task_of}
use Rattle.syn_decide.specs.Phases.{state_at}
use Rattle.syn_decide.proofs.Folding.{walking_row}
use Rattle.syn_decide.proofs.stages.read_walking.Goals as goal

pub returns-in-Row-clause-state : goal.returns-in-Row-clause-state
returns-in-Row-clause-state c = λ stage found.
    c.row_loaded.ensures.state stage found
    ∙ sym (walking_row (task_of c.args.attempt.now) (state_at stage c.args.inner.now.items found) c.args.waiting.now c.args.read c.in-Some.next c.pop.new.self c.in-Row.node c.in-Row.row c.in-Some.ensures.some c.in-Row.is c.if-node-next.true)
