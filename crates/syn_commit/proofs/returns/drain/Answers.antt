use Rattle.std.proofs.Common.{ap, ◌∙◌}
use Rattle.syn_table.specs.Seating.{nodes_of, view_of}
use Rattle.syn_table.specs.Steps.{with_view}
use Rattle.syn_commit.proofs.Draining.{gives_on}
use Rattle.syn_commit.proofs.returns.drain.Goals as goal

pub loop-preserved : goal.loop-preserved
loop-preserved c = record {
  table = c.give_one.ensures.table;
  known = c.give_one.ensures.known ∙ ap (λ k. with_view k (view_of c.give_one.new.seat)) c.loop.invariant.known;
  giving = c.give_one.ensures.giving;
  gives = gives_on (nodes_of c.args.shared.now) (view_of c.args.seat.now) (view_of c.loop.seat) (view_of c.give_one.new.seat) c.args.pool.now c.loop.pool c.give_one.new.pool c.loop.invariant.gives c.give_one.ensures.gives;
}

pub returns-clause-gives : goal.returns-clause-gives
returns-clause-gives c = gives_on (nodes_of c.args.shared.now) (view_of c.args.seat.now) (view_of c.loop.seat) (view_of c.give_one.new.seat) c.args.pool.now c.loop.pool c.give_one.new.pool c.loop.invariant.gives c.give_one.ensures.gives
