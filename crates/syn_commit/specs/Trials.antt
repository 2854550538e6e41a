-- A commit up to its answer: how it begins, and what it keeps while it loads rows, keys and counts.
use Rattle.std.specs.Prelude.{◌≡◌, ℕ, ◌<◌, true, false, List, []}
use Rattle.syn_rows.specs.Nodes.{has_node}
use Rattle.syn_decide.specs.Fold.{State, begin, is_hinting}
use Rattle.syn_decide.specs.Tasks.{task_of}
use Rattle.syn_decide.specs.Walk.{enters}
use Rattle.syn_table.specs.declared.Seat.{Seat}
use Rattle.syn_table.specs.Seating.{IsOf, nodes_of, view_of}
use Rattle.syn_commit.specs.declared.trial.Trial.{Trial}
use Rattle.syn_commit.specs.Keyed.{IsKeyedSoFar}
use Rattle.syn_commit.specs.Pools.{KeepsPool}
use Rattle.syn_commit.specs.Stages.{IsPastWalk, IsTrying}
use Rattle.syn_commit.specs.Walks.{KeysWait}

-- A commit begins: nothing is read, the seat is as it was at the start and holds its pool alone, without pins, and the root is a node of the table, none of the pool, that the walk enters.
pub record Begins (c : Trial) (seat : Seat) (s : State) : Type 0 where
  pub table : IsOf seat c.shared.now
  pub start : view_of c.start.now.value ≡ view_of seat
  pub state : s ≡ begin (task_of c.attempt)
  pub pool : KeepsPool (view_of seat) c.pool.now
  pub alone : (n : ℕ) → has_node (view_of seat).held n ≡ has_node c.pool.now n
  pub pins : (view_of seat).pins ≡ []
  pub root : c.attempt.candidate.root < nodes_of c.shared.now
  pub not_spare : has_node c.pool.now c.attempt.candidate.root ≡ false
  pub enters : enters c.attempt.candidate.leaves.now [] c.attempt.candidate.root ≡ true

-- The walk is over: all keys are still to be loaded, nothing is hit or counted, and the seat has no pins.
pub record HasWalked (c : Trial) (seat : Seat) (s : State) : Type 0 where
  pub table : IsOf seat c.shared.now
  pub trying : IsTrying (task_of c.attempt) (view_of c.start.now.value) c.pool.now [] (view_of seat) s
  pub past : IsPastWalk s.stage
  pub waits : KeysWait (task_of c.attempt) s.stage
  pub no_hits : s.hits ≡ []
  pub uncounted : s.counts ≡ []

-- A commit on the way, with these pins: what it holds and knows is what its reads tell, and each pin's key is known.
pub record IsUnderWay (c : Trial) (seat : Seat) (pins : List ℕ) (s : State) : Type 0 where
  pub table : IsOf seat c.shared.now
  pub trying : IsTrying (task_of c.attempt) (view_of c.start.now.value) c.pool.now pins (view_of seat) s
  pub keyed : IsKeyedSoFar (task_of c.attempt) pins (view_of seat) s

-- a commit on the way, at the stage that takes hints
pub record TakesHints (c : Trial) (seat : Seat) (pins : List ℕ) (s : State) : Type 0 where
  pub way : IsUnderWay c seat pins s
  pub stage : is_hinting s.stage ≡ true
