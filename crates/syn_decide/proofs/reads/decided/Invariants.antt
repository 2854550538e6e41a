use Rattle.std.proofs.Common.{◌≡◌, drop}
use Rattle.syn_decide.specs.Tasks.{task_of}
use Rattle.syn_decide.specs.Fold.{after_reads, begin}
use Rattle.syn_decide.proofs.reads.decided.Given as goal

abbrev pub invariant-loop-read : goal.invariant-loop-read
invariant-loop-read l = after_reads (task_of l.attempt) l.deciding (drop l.read-index l.seen) ≡ after_reads (task_of l.attempt) (begin (task_of l.attempt)) l.seen
