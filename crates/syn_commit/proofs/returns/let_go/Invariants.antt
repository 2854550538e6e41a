use Rattle.std.proofs.Common.{◌≡◌, [], length}
use Rattle.syn_table.specs.Seating.{IsOf, known_of, view_of}
use Rattle.syn_table.specs.Steps.{with_view}
use Rattle.syn_commit.specs.Giving.{IsGiving, IsLetGo}
use Rattle.syn_commit.proofs.returns.let_go.Given as goal

abbrev pub invariant-loop-gate : goal.invariant-loop-gate
invariant-loop-gate l = record {
  table : IsOf l.seat l.shared;
  known : known_of l.seat ≡ with_view (known_of l.fn.seat) (view_of l.seat);
  giving : IsGiving l.pool [] l.holding.gates.items [] (view_of l.seat);
  let_go : IsLetGo (view_of l.fn.seat) (view_of l.seat);
}

abbrev pub decreases-loop-gate : goal.decreases-loop-gate
decreases-loop-gate l = length l.holding.gates.items
