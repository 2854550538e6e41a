use Rattle.std.proofs.Common.{◌≤◌, length}
use Rattle.syn_pool.proofs.rounds.queues.queues_of.Given as goal

abbrev pub invariant-loop-part : goal.invariant-loop-part
invariant-loop-part l = length l.queues.items ≤ l._part
