use Rattle.syn_table.specs.Seating.{view_of}
use Rattle.syn_commit.proofs.Resting.{at_rest}
use Rattle.syn_pool.proofs.rounds.workers.Worker.stop.Goals as goal

pub returns-clause-rest : goal.returns-clause-rest
returns-clause-rest c = at_rest (view_of c.args.self.seat) (view_of c.empty.new.seat) c.args.self.pool c.requires.at_work.alone c.empty.ensures.emptied
