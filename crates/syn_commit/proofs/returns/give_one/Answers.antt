use Rattle.syn_table.specs.Seating.{nodes_of, view_of}
use Rattle.syn_commit.proofs.Draining.{unpin_gives}
use Rattle.syn_commit.proofs.returns.give_one.Goals as goal

pub returns-in-Some-clause-gives : goal.returns-in-Some-clause-gives
returns-in-Some-clause-gives c = unpin_gives (nodes_of c.args.shared.now) (view_of c.args.seat.now) (view_of c.unpin.new.seat) c.args.pool.now c.in-Some.pin c.unpin.ensures.turns
