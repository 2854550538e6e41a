use Rattle.std.proofs.Common.{◌≡◌}
use Rattle.syn_commit.specs.Giving.{HoldsAlone}
use Rattle.syn_table.specs.Seating.{IsOf, known_of, view_of}
use Rattle.test_threads.proofs.repeats.there_and_back.Given as goal

abbrev pub invariant-loop-round : goal.invariant-loop-round
invariant-loop-round l = record {
  table : IsOf l.seat l.tools.shared.now;
  numbers : (known_of l.seat).numbers ≡ (known_of l.fn.seat).numbers;
  alone : HoldsAlone l.pool (view_of l.seat);
}
