use Rattle.std.proofs.Common.{◌≡◌, ◌+◌, ◌≤◌, length}
use Rattle.syn_decide.specs.Fold.{placed_now}
use Rattle.syn_decide.specs.Tasks.{task_of}
use Rattle.syn_table.specs.Seating.{known_of, view_of}
use Rattle.syn_table.specs.Steps.{with_view}
use Rattle.syn_commit.specs.Trials.{TakesHints}
use Rattle.syn_commit.proofs.suggestions.try_hints.Given as goal

abbrev pub invariant-loop-step : goal.invariant-loop-step
invariant-loop-step l = record {
  known : known_of l.seat ≡ with_view (known_of l.fn.seat) (view_of l.seat);
  hints : TakesHints l.trial l.seat l.pins.items l.deciding;
  sole : length (known_of l.fn.seat).numbers ≡ 64 → (view_of l.seat).misses ≡ (view_of l.fn.seat).misses;
  few : length l.pins.items ≤ 9 + l._step;
  place : l.place ≤ l._step;
  rows : l.rows.rows.items ≡ (placed_now (task_of l.trial.attempt) l.deciding).extra;
}
