use Rattle.syn_table.specs.Seating.{view_of}
use Rattle.syn_commit.proofs.Resting.{at_rest}
use Rattle.test_threads.proofs.Emptied.{holds_pool, none_there}
use Rattle.test_threads.proofs.repeats.done_in.Goals as goal

pub fill-requires-clause-none : goal.fill-requires-clause-none
fill-requires-clause-none c = none_there (view_of c.args.seat.now) c.args.first 16 c.requires.resting

pub there_and_back-done-requires-clause-alone : goal.there_and_back-done-requires-clause-alone
there_and_back-done-requires-clause-alone c =
    holds_pool c.args.first 16 (view_of c.args.seat.now) (view_of c.fill.new.seat) c.new-pool.result c.fill.new.self c.requires.resting c.new-pool.ensures c.fill.ensures.filled c.fill.ensures.pool

pub returns-clause-resting : goal.returns-clause-resting
returns-clause-resting c = at_rest (view_of c.there_and_back-done.new.seat) (view_of c.empty.new.seat) c.there_and_back-done.new.pool c.there_and_back-done.ensures.alone c.empty.ensures.emptied
