use Rattle.std.proofs.Common.{◌≡◌}
use Rattle.syn_table.specs.Seating.{IsOf, known_of, nodes_of, view_of}
use Rattle.syn_table.specs.Steps.{with_view}
use Rattle.syn_commit.specs.Giving.{Gives, IsGiving, work_left}
use Rattle.syn_commit.proofs.returns.drain.Given as goal

abbrev pub invariant-loop : goal.invariant-loop
invariant-loop l = record {
  table : IsOf l.seat l.shared;
  known : known_of l.seat ≡ with_view (known_of l.fn.seat) (view_of l.seat);
  giving : IsGiving l.pool l.holding.pins.items l.holding.gates.items l.holding.idle.items (view_of l.seat);
  gives : Gives (nodes_of l.shared) (view_of l.fn.seat) l.fn.pool (view_of l.seat) l.pool;
}

abbrev pub decreases-loop : goal.decreases-loop
decreases-loop l = work_left l.holding.pins.items l.holding.gates.items l.holding.idle.items
