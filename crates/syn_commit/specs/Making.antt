-- What a commit has done behind the answer `Done` before it redefines the root: rows are made for its new gates.
use Rattle.std.specs.Prelude.{◌≡◌, ℕ, ◌+◌, ◌-◌, ◌/◌, List, Some}
use Rattle.syn_rows.specs.declared.Row.{Row}
use Rattle.syn_core_laws.specs.declared.View.{View}
use Rattle.syn_core_laws.specs.Views.{known_row}
use Rattle.syn_decide.specs.declared.decisions.NodeRow.{NodeRow}
use Rattle.syn_decide.specs.Fold.{State, placed_now}
use Rattle.syn_decide.specs.Hints.{rows_needed}
use Rattle.syn_decide.specs.Tasks.{Task}
use Rattle.syn_commit_laws.specs.Turning.{TurnsAll}
use Rattle.syn_commit.specs.Readying.{AreRowsMade, IsReadyFor}
use Rattle.syn_commit.specs.Storing.{makes_rows}

-- how far apart the keys of the rows that new gates need lie: they are put evenly between low and the root's key
abbrev pub step_now : Task → State → ℕ
step_now t s = (s.high - s.low) / (rows_needed t (placed_now t s) + 1)

-- Since the counts rows were made for the new gates that need one, and nothing else happened.
pub record HasMade (nodes : ℕ) (t : Task) (s : State) (made : List NodeRow) (counted w : View) : Type 0 where
  pub step : ℕ
  pub even : step ≡ step_now t s
  pub rows : AreRowsMade t s step made counted w
  pub makes : TurnsAll nodes counted (makes_rows s.low step 0 made) w

-- the root may get its new row in place of the one that was known at the counts
abbrev pub IsReady : Task → State → List NodeRow → View → View → Type 0
IsReady t s made counted w = (old : Row) × (known_row counted t.proposal.root ≡ Some old) × IsReadyFor t s made old w
