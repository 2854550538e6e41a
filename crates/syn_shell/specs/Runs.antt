-- A whole run: what the words mean, the scripts one after the other, the lines of the refusals, the status.
use Rattle.std.specs.Prelude.{◌≡◌, ◌⊎◌, ℕ, List, [], ◌∷◌, Option}
use Rattle.syn_shell.specs.declared.refusal.Refusal.{Refusal}
use Rattle.syn_shell.specs.declared.refusal.Refusal.TheVariants.{Words, NoMemory}
use Rattle.syn_io.specs.Outside.{Disk, Screen, Input}
use Rattle.syn_shell.specs.Outside.{Kept, State, nothing_yet, state}
use Rattle.syn_shell.specs.Lines.{refusal_status}
use Rattle.syn_shell.specs.Counts.{FaultsCover}
use Rattle.syn_usage.specs.declared.arguments.UsageFault.{UsageFault}
use Rattle.syn_usage.specs.declared.arguments.UsageFault.TheVariants as usage
use Rattle.syn_usage.specs.Usage.{Usage, OneScript, OneFile, EachLine, Faulty, usage_of}
use Rattle.syn_shell.specs.Scripts.{Refused, InFile, InText, nameless, RunsScript, Announced, SinkGaveUp, Source}
use Rattle.syn_shell.specs.LineMode.{GoesOn, EndsBySink, RunsLines, listed}

-- why a run is refused, by why its words are
abbrev pub usage_cause : UsageFault → Refusal
usage_cause usage.Words = Words
usage_cause usage.NoMemory = NoMemory

-- Nothing is run: the refusal is told, as far as the sink takes it.
abbrev pub RunsNothing : Refusal → State → List Refused → State → Type 0
RunsNothing cause before refusals after = (refusals ≡ nameless cause ∷ []) × (Announced (nameless cause) before after ⊎ SinkGaveUp (nameless cause) before after)

-- One script, or one file of commands, is run, and its refusal told, as far as the sink takes it.
abbrev pub RunsOne : Source → State → List Refused → State → Type 0
RunsOne source before refusals after =
    (outcome : Option Refused) × (done : State) × RunsScript source before outcome done × (refusals ≡ listed outcome) × (GoesOn outcome done after ⊎ EndsBySink outcome done after)

-- What is run, by what the words mean.
abbrev pub RunsUsage : Usage → State → Input → List Refused → State → Input → Type 0
RunsUsage (OneScript text) before i refusals after i' = RunsOne (InText text) before refusals after × (i' ≡ i)
RunsUsage (OneFile name) before i refusals after i' = RunsOne (InFile name) before refusals after × (i' ≡ i)
RunsUsage EachLine before i refusals after i' = (lines : List (List ℕ)) × RunsLines lines 0 before i refusals after i'
RunsUsage Faulty before i refusals after i' = RunsNothing Words before refusals after × (i' ≡ i)

-- What the words mean is run; or memory was refused before.
abbrev pub RunsWords : List (List ℕ) → State → Input → List Refused → State → Input → Type 0
RunsWords words before i refusals after i' =
    RunsUsage (usage_of words) before i refusals after i'
    ⊎ (RunsNothing NoMemory before refusals after × (i' ≡ i))

-- The status of a run is that of its first refusal.
abbrev pub status_of : List Refused → ℕ
status_of [] = 0
status_of (refused ∷ more) = refusal_status refused.cause

-- Nothing was refused: the script was run to its end, or the lines until none was left.
abbrev pub RanAccepted : List (List ℕ) → Disk → Screen → Input → Disk → Screen → Input → Type 0
RanAccepted words d s i d' s' i' = (kept : Kept) × RunsUsage (usage_of words) (state nothing_yet d s) i [] (state kept d' s') i'

-- A whole run on words, from the files, the sink and the lines before it to those after it, and its status. It begins with no network. No more refusals are of the files, the lines or the sink than their counts of faults rose by.
pub record Ran (words : List (List ℕ)) (d : Disk) (s : Screen) (i : Input) (d' : Disk) (s' : Screen) (i' : Input) (status : ℕ) : Type 0 where
  pub kept : Kept
  pub refusals : List Refused
  pub runs : RunsWords words (state nothing_yet d s) i refusals (state kept d' s') i'
  pub status_is : status ≡ status_of refusals
  pub faults : FaultsCover refusals d s i d' s' i'
