use Rattle.syn_table.specs.Seating.{IsOf, known_of}
use Rattle.test_threads.specs.Resting.{IsResting}
use Rattle.test_threads.proofs.turns.take_turns.Given as goal

abbrev pub invariant-loop-round : goal.invariant-loop-round
invariant-loop-round l = record {
  table : IsOf l.seat l.shared;
  resting : IsResting (known_of l.fn.seat).numbers (known_of l.seat);
}
