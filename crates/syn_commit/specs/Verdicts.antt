-- A commit behind its answer: what it has then, and what it leaves.
use Rattle.std.specs.Prelude.{◌≡◌, ℕ, ◌≤◌, true, List, [], length}
use Rattle.syn_decide.specs.Decided.{Answer, Done}
use Rattle.syn_decide.specs.Fold.{Ended, Stage}
use Rattle.syn_decide.specs.Tasks.{task_of}
use Rattle.syn_decide.specs.Walk.{enters}
use Rattle.syn_commit_laws.specs.Redefining.{IsInOrder}
use Rattle.syn_table.specs.declared.Seat.{Seat}
use Rattle.syn_table.specs.Seating.{IsOf, known_of, nodes_of, view_of}
use Rattle.syn_table.specs.Steps.{with_view}
use Rattle.syn_commit.specs.declared.trial.Verdict.{Verdict}
use Rattle.syn_commit.specs.Committed.{IsBooked}
use Rattle.syn_commit.specs.Counts.{CountsAreLoaded}
use Rattle.syn_commit.specs.Giving.{HoldsAlone}
use Rattle.syn_commit.specs.Keyed.{IsKeyedSoFar}
use Rattle.syn_commit.specs.Stages.{HasEnded, IsTrying}
use Rattle.syn_commit.specs.Walks.{IsOfReads}

-- A commit whose answer stands, with this pool and these pins: what it holds and knows is what its reads tell, and its counts are loaded.
pub record HasAnswered (c : Verdict) (pool : List ℕ) (seat : Seat) (pins : List ℕ) : Type 0 where
  pub table : IsOf seat c.shared.now
  pub in_order : IsInOrder (task_of c.attempt)
  pub enters : enters c.attempt.candidate.leaves.now [] c.attempt.candidate.root ≡ true
  pub size : (task_of c.attempt).pool ≡ length pool
  pub trying : IsTrying (task_of c.attempt) (view_of c.start.now.value) pool pins (view_of seat) c.deciding.now
  pub keyed : IsKeyedSoFar (task_of c.attempt) pins (view_of seat) c.deciding.now
  pub loaded : CountsAreLoaded (nodes_of c.shared.now) (view_of seat) c.deciding.now
  pub ended : HasEnded c.deciding.now.stage
  pub few : length pins ≤ 390

-- the answer is `Done`, with some gain
abbrev pub IsDone : Stage → Type 0
IsDone stage = (gain : ℕ) × (stage ≡ Ended (Done gain))

-- A commit with this answer is over: the seat holds the pool alone, its reads are those of the decision, and what it stored is what the answer tells.
pub record IsOver (c : Verdict) (answer : Answer) (pool : List ℕ) (was now : Seat) (grown : List ℕ) : Type 0 where
  pub table : IsOf now c.shared.now
  pub known : known_of now ≡ with_view (known_of was) (view_of now)
  pub alone : HoldsAlone grown (view_of now)
  pub reads : IsOfReads (task_of c.attempt) (view_of c.start.now.value) (view_of now) c.deciding.now
  pub booked : IsBooked (task_of c.attempt) c.deciding.now answer (view_of c.start.now.value) pool (view_of now) grown
