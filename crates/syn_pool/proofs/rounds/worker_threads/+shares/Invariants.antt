use Rattle.std.proofs.Common.{◌+◌, ◌*◌, length}
use Rattle.syn_pool.proofs.rounds.worker_threads.+shares.Given as goal

abbrev pub decreases-by_others : goal.decreases-by_others
decreases-by_others g l = 2 * length l.fewer.queues.items + 1

abbrev pub decreases-run_workers : goal.decreases-run_workers
decreases-run_workers g l = 2 * length l.waiting.queues.items
