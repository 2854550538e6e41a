use Rattle.syn_table.specs.Seating.{IsOf, known_of, view_of}
use Rattle.test_threads.specs.Rounds.{HoldsNone}
use Rattle.test_threads.proofs.rounds.rounds.Given as goal
use Rattle.std.proofs.Common.{◌≡◌}

abbrev pub invariant-loop : goal.invariant-loop
invariant-loop l = record {
  table : IsOf l.seat l.shared;
  numbers : (known_of l.seat).numbers ≡ (known_of l.fn.seat).numbers;
  none : HoldsNone (view_of l.seat);
}
