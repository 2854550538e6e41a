use Rattle.std.proofs.Common.{◌≡◌, ◌+◌, ◌*◌, ◌++◌, length, reverse}
use Rattle.syn_decide.specs.Walk.{nodes_of as nodes_of_rows}
use Rattle.syn_table.specs.Seating.{IsOf, known_of, nodes_of, view_of}
use Rattle.syn_table.specs.Steps.{with_view}
use Rattle.syn_commit_laws.specs.Turning.{TurnsAll}
use Rattle.syn_commit.specs.Giving.{IsGiving}
use Rattle.syn_commit.specs.Storing.{AreMade, KeepsKnown, makes_rows}
use Rattle.syn_commit.proofs.stores.make_rows.Given as goal

abbrev pub invariant-loop-i : goal.invariant-loop-i
invariant-loop-i l = record {
  table : IsOf l.seat l.shared;
  known : known_of l.seat ≡ with_view (known_of l.fn.seat) (view_of l.seat);
  turns : TurnsAll (nodes_of l.shared) (view_of l.fn.seat) (makes_rows l.spacing.low l.spacing.step 0 l.made.items) (view_of l.seat);
  keeps : KeepsKnown (view_of l.fn.seat) (view_of l.seat);
  made : AreMade l.spacing.low l.spacing.step l.rows.rows.items l.made.items (view_of l.seat);
  count : length l.made.items ≡ l.i;
  key : l.key ≡ l.spacing.low + l.i * l.spacing.step;
  giving : IsGiving l.pool l.holding.pins.items l.holding.gates.items l.holding.idle.items (view_of l.seat);
  pool : l.fn.pool ≡ l.pool ++ reverse (nodes_of_rows l.made.items);
  pins : l.holding.pins.items ≡ l.fn.holding.pins.items;
  size : length l.holding.gates.items + length l.holding.idle.items ≡ length l.fn.holding.gates.items + length l.fn.holding.idle.items + l.i;
}
