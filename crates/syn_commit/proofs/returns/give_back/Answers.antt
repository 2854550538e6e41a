use Rattle.syn_table.specs.Seating.{view_of}
use Rattle.syn_commit.proofs.Handing.{giving_no_idle, giving_no_pins, holds_alone}
use Rattle.syn_commit.proofs.returns.give_back.Goals as goal

pub returns-clause-alone : goal.returns-clause-alone
returns-clause-alone c = holds_alone c.drain.new.pool (view_of c.let_go.new.seat) c.let_go.ensures.giving

pub returns-clause-given : goal.returns-clause-given
returns-clause-given c = record {
  drained = view_of c.drain.new.seat;
  gives = c.drain.ensures.gives;
  let_go = c.let_go.ensures.let_go;
  no_pins = giving_no_pins c.drain.new.pool c.drain.new.holding.gates.items (view_of c.drain.new.seat) c.drain.ensures.giving;
  no_idle = giving_no_idle c.drain.new.pool c.drain.new.holding.gates.items (view_of c.drain.new.seat) c.drain.ensures.giving;
  no_circle = c.seats_reach_nodes.ensures.shown.no_circle;
}
