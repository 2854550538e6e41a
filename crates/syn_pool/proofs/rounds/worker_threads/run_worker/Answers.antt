use Rattle.syn_pool.proofs.Works.{swept_one}
use Rattle.syn_pool.proofs.rounds.worker_threads.run_worker.Goals as goal

pub returns : goal.returns
returns g c =
    swept_one c.args.shared_state.now.shared c.args.shared_state.now.zero_gain c.args.start.seat c.stop-seat.result.0 c.start-own.result c.take_all-memory.new.worker c.stop-seat.result.1
    c.start-own.ensures.known c.start-own.ensures.difference c.start-own.ensures.changes c.start-own.ensures.done c.start-own.ensures.gained
    c.take_all-memory.ensures.worked
    c.stop-seat.ensures.table c.stop-seat.ensures.rest c.stop-seat.ensures.known c.stop-seat.ensures.difference c.stop-seat.ensures.changes c.stop-seat.ensures.reads c.stop-seat.ensures.report
