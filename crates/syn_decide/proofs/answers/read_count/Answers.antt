use Rattle.syn_decide.specs.Tasks.{task_of}
use Rattle.syn_decide.specs.Decided.{told_answer}
use Rattle.syn_decide.proofs.Answering.{count_last}
use Rattle.syn_decide.proofs.answers.read_count.Goals as goal

pub returns-clause-state : goal.returns-clause-state
returns-clause-state c = λ stage waiting.
    count_last (task_of c.args.attempt.now) stage c.args.inner.now c.args.found.now.low c.args.found.now.high c.args.found.now.hits.items c.args.found.now.counts.items c.push.new.self.items
    c.len-at.result c.args.node c.args.count c.args.own c.saturating_sub.result _ (told_answer c.conclude.result)
    c.len-at.ensures.value c.if-at-inner.false c.if-at-inner-2.false c.if-node-inner.false c.saturating_sub.ensures c.push.ensures.items (c.conclude.ensures stage)
