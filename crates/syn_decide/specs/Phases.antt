-- How the program's state of a decision is seen as the definition's.
use Rattle.std.specs.Prelude.{ℕ, ◌-◌, List}
use Rattle.syn_decide.specs.declared.decisions.NodeRow.{NodeRow}
use Rattle.syn_decide.specs.declared.decisions.Phase.{Phase}
use Rattle.syn_decide.specs.declared.decisions.Phase.TheVariants as phase
use Rattle.syn_decide.specs.declared.decisions.TheConstants.{MAX_INNER}
use Rattle.syn_decide.specs.declared.found.Found.{Found}
use Rattle.syn_decide.specs.Decided.{told_answer}
use Rattle.syn_decide.specs.Fold.{State, Stage, Walking, Keying, Hinting, Counting, Ended, Failed}

-- the stage, with the nodes that wait
abbrev pub stage_of : Phase → List ℕ → Stage
stage_of phase.Walking waiting = Walking waiting
stage_of phase.Keying waiting = Keying waiting
stage_of (phase.Hinting last) waiting = Hinting last
stage_of phase.Counting waiting = Counting
stage_of (phase.Ended outcome) waiting = Ended (told_answer outcome)
stage_of phase.Failed waiting = Failed

-- the most inner rows at a stage: while the walk goes on there is room for one more
abbrev pub most_at : Phase → ℕ
most_at phase.Walking = MAX_INNER - 1
most_at phase.Keying = MAX_INNER
most_at (phase.Hinting last) = MAX_INNER
most_at phase.Counting = MAX_INNER
most_at (phase.Ended outcome) = MAX_INNER
most_at phase.Failed = MAX_INNER

-- a state by its stage, the inner rows and what the loads behind the walk found
abbrev pub state_at : Stage → List NodeRow → Found → State
state_at stage inner found = record { stage = stage; inner = inner; low = found.low; high = found.high; hits = found.hits.items; counts = found.counts.items }
