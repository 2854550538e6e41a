use Rattle.std.proofs.Common.{◌+◌, ◌≤◌}
use Rattle.crossbeam_deque.specs.Handles.{worker_capacity, worker_index}
use Rattle.syn_pool.proofs.rounds.queues.queue_of.Given as goal

abbrev pub invariant-loop-place : goal.invariant-loop-place
invariant-loop-place l = worker_index l.queue + l.place ≤ worker_capacity l.queue
