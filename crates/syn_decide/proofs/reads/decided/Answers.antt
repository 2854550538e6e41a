use Rattle.std.proofs.Common.{ap}
use Rattle.syn_decide.specs.Tasks.{task_of}
use Rattle.syn_decide.specs.Fold.{after_reads}
use Rattle.syn_decide.proofs.reads.decided.Goals as goal

pub loop-read-init : goal.loop-read-init
loop-read-init c = ap (λ s. after_reads (task_of c.args.attempt.now) s c.args.seen.now) c.begin-deciding.ensures
