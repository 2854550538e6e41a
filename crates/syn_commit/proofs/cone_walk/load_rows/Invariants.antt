use Rattle.std.proofs.Common.{◌≡◌, ◌≢◌, length}
use Rattle.syn_decide.specs.Decided.{Unfit}
use Rattle.syn_decide.specs.Fold.{wants}
use Rattle.syn_decide.specs.Tasks.{task_of}
use Rattle.syn_table.specs.Seating.{IsOf, known_of, view_of}
use Rattle.syn_table.specs.Steps.{with_view}
use Rattle.syn_commit.specs.Walks.{IsWalking}
use Rattle.syn_commit.proofs.Entering.{HasRoom, left_to_enter}
use Rattle.syn_commit.proofs.cone_walk.load_rows.Given as goal

abbrev pub invariant-loop-node : goal.invariant-loop-node
invariant-loop-node l = record {
  table : IsOf l.seat l.trial.shared.now;
  known : known_of l.seat ≡ with_view (known_of l.fn.seat) (view_of l.seat);
  walked : IsWalking (task_of l.trial.attempt) (view_of l.fn.seat) l.trial.pool.now (view_of l.seat) l.deciding;
  room : HasRoom l.deciding;
  fits : wants l.deciding ≢ Unfit;
  sole : length (known_of l.fn.seat).numbers ≡ 64 → (view_of l.seat).misses ≡ (view_of l.fn.seat).misses;
}

abbrev pub decreases-loop-node : goal.decreases-loop-node
decreases-loop-node l = left_to_enter l.deciding
