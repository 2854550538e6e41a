-- What a step of a pass makes of a graph.
use Rattle.std.specs.Prelude.{◌<◌, ℕ, Bool, true, List, Option, Some, None, length}
use Rattle.syn_rows.specs.declared.Row.{Row}
use Rattle.syn_graph.specs.declared.Graph.{Graph}
use Rattle.syn_gain.specs.Replacements.{Replacement}
use Rattle.syn_pool.specs.declared.passes.steps.Step.{Step}
use Rattle.syn_pool.specs.declared.passes.steps.Step.TheVariants.{Stays, Ends, GoesOn}
use Rattle.syn_proposals.specs.declared.gains.Improved.{Improved}
use Rattle.syn_proposals.specs.declared.gains.Report.{Report}
use Rattle.syn_proposals.specs.Closing.{Closed}
use Rattle.syn_proposals.specs.Following.{Follows}
use Rattle.syn_proposals.specs.Gains.{IsGain}
use Rattle.syn_pool.specs.Turns.{IsPassReport}

-- a graph follows another with fewer ANDs; none of its commits gained nothing, and the report is of what led to it
abbrev pub IsFewer : Graph → Report → Graph → Type 0
IsFewer was report now = Follows was report.gained now × (length now.rows < length was.rows) × IsGain true report × ((strict : Bool) → IsPassReport strict was now report)

-- one with fewer ANDs follows a graph; none where it is closed
abbrev pub IsCheck : Graph → (List Row → ℕ → List Replacement) → Option Improved → Type 0
IsCheck was proposals (Some made) = IsFewer was made.report made.graph
IsCheck was proposals None = Closed was.rows was.observed (proposals was.rows)

-- the graph is closed; or a closed one follows it; or one with fewer ANDs
abbrev pub IsStepOf : {L : Type 0} → Graph → (List Row → ℕ → List Replacement) → Bool → Step L → Type 0
IsStepOf was proposals strict Stays = Closed was.rows was.observed (proposals was.rows)
IsStepOf was proposals strict (Ends now report) = Follows was report.gained now × Closed now.rows now.observed (proposals now.rows) × IsGain strict report × IsPassReport strict was now report
IsStepOf was proposals strict (GoesOn now report _ _) = Follows was report.gained now × (length now.rows < length was.rows) × IsGain strict report × IsPassReport strict was now report
