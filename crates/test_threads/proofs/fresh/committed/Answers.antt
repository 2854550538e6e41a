use Rattle.syn_table.specs.Seating.{view_of}
use Rattle.syn_commit.proofs.Resting.{at_rest}
use Rattle.test_threads.proofs.Emptied.{below_pool, none_there}
use Rattle.test_threads.proofs.fresh.committed.Goals as goal

pub fill-requires-clause-none : goal.fill-requires-clause-none
fill-requires-clause-none c = none_there (view_of c.args.seat.now) c.args.first c.args.spare c.requires.resting

pub try_commit-answer-requires-clause-not_spare : goal.try_commit-answer-requires-clause-not_spare
try_commit-answer-requires-clause-not_spare c = λ κs.
    below_pool c.args.first c.args.spare (view_of c.args.seat.now) (view_of c.fill.new.seat) c.new-pool.result c.fill.new.self c.args.proposal.now.root c.new-pool.ensures c.fill.ensures.filled c.requires.root

pub returns-clause-resting : goal.returns-clause-resting
returns-clause-resting c = at_rest (view_of c.try_commit-answer.new.seat) (view_of c.empty.new.seat) c.try_commit-answer.new.pool c.try_commit-answer.ensures.alone c.empty.ensures.emptied
