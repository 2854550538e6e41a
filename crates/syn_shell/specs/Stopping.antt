-- What the shell's own types tell of a run.
use Rattle.std.specs.Prelude.{◌≡◌, ◌≢◌, ℕ, ◌≤◌, ◌<◌, ◌==◌, if◌then◌else◌, List, length, Option, Some, None, Result, Ok, Err, Vec}
use Rattle.std.specs.Global.{Global}
use Rattle.syn_shell.specs.declared.refusal.Refusal.{Refusal}
use Rattle.syn_shell.specs.declared.refusal.Refusal.TheVariants.{SinkFailed}
use Rattle.syn_shell.specs.declared.scripts.Ending.{Ending}
use Rattle.syn_shell.specs.declared.scripts.Ending.TheVariants.{Through, Quit, Stops}
use Rattle.syn_shell.specs.declared.scripts.Source.TheVariants.{Text, File}
use Rattle.syn_shell.specs.declared.scripts.Source as scripts
use Rattle.syn_shell.specs.declared.scripts.Stopped.{Stopped}
use Rattle.syn_shell.specs.declared.refusal_lines.Reported.{Reported}
use Rattle.syn_shell.specs.declared.refusal_lines.Reported.TheVariants.{Whole, Cut}
use Rattle.syn_shell.specs.declared.line_mode.Turn.{Turn}
use Rattle.syn_shell.specs.declared.line_mode.Turn.TheVariants as turn
use Rattle.syn_io.specs.Outside.{Disk, Screen, Input}
use Rattle.syn_shell.specs.Outside.{Kept, State, nothing_yet, state, Took, GaveLine, GaveNone}
use Rattle.syn_shell.specs.Lines.{refusal_line, refusal_status}
use Rattle.syn_shell.specs.Scripts.{Refused, InFile, InText, RunsScript, Announced, SinkGaveUp, Source, TookLess}
use Rattle.syn_shell.specs.LineMode.{GoesOn, LineRefused, Quits, RunsLines, StaysOn, listed, most_lines}
use Rattle.syn_shell.specs.Runs.{status_of}

-- the refusal at which commands stopped
abbrev pub outcome_of : Result (Unit {0}) Stopped → Option Refused
outcome_of (Ok done) = None
outcome_of (Err stopped) = Some (record { cause = stopped.cause; name = stopped.name.now })

-- What holds commands, as contracts see it.
abbrev pub source_in : scripts.Source → Source
source_in (Text text) = InText text.now
source_in (File name) = InFile name.now

-- the status of a refusal that was announced
abbrev pub status_in : Reported → ℕ
status_in (Whole status) = status
status_in (Cut status) = status

-- What became of the line of a refusal, and the refusal's status.
abbrev pub AnnouncesAs : Reported → Refused → Screen → Screen → Type 0
AnnouncesAs (Whole status) refused before after = (status ≡ refusal_status refused.cause) × (refused.cause ≢ SinkFailed) × Took (refusal_line refused.cause refused.name) before after
AnnouncesAs (Cut status) refused before after = (status ≡ refusal_status refused.cause) × TookLess refused before after

-- The same between states.
abbrev pub IsAnnounced : Reported → Refused → State → State → Type 0
IsAnnounced (Whole status) refused before after = (status ≡ refusal_status refused.cause) × Announced refused before after
IsAnnounced (Cut status) refused before after = (status ≡ refusal_status refused.cause) × SinkGaveUp refused before after

-- What a script left: nothing was refused, and the run goes on or the script ends it; or what became of the line of its refusal.
abbrev pub Leaves : Ending → Source → State → State → Type 0
Leaves Through source before after = (runs : RunsScript source before None after) × StaysOn source before None after runs
Leaves Quit source before after = (runs : RunsScript source before None after) × Quits source before None after runs
Leaves (Stops telling) source before after = (refused : Refused) × (done : State) × RunsScript source before (Some refused) done × IsAnnounced telling refused done after

-- the status that a script left: that of its refusal, 0 where nothing was refused
abbrev pub status_left : Ending → ℕ
status_left Through = 0
status_left Quit = 0
status_left (Stops announcement) = status_in announcement

-- One script, or one file of commands, was run from what a session begins with, with this status.
abbrev pub RanOne : ℕ → Source → Disk → Screen → Disk → Screen → Type 0
RanOne status source d s d' s' = (left : Ending) × (m : Kept) × Leaves left source (state nothing_yet d s) (state m d' s') × (status ≡ status_left left)

-- What a call for the next line gave.
abbrev pub Gave : Result (Option (Vec ℕ Global)) Refusal → Input → Input → Type 0
Gave (Ok (Some line)) before after = GaveLine line.items before after
Gave (Ok None) before after = GaveNone before after
Gave (Err cause) before after = LineRefused before after cause

-- the status that is kept where another follows: the first that is none of an accepted run
abbrev pub first_status : ℕ → ℕ → ℕ
first_status status next = if status == 0 then next else status

-- the turn of a line by what its script left
abbrev pub turn_of : Ending → Turn
turn_of Through = turn.GoesOn 0
turn_of Quit = turn.Ends 0
turn_of (Stops (Whole status)) = turn.GoesOn status
turn_of (Stops (Cut status)) = turn.Ends status

-- One line was run and the run goes on, or it ends, however many lines below the most were run before.
abbrev pub Turned : Turn → State → Input → State → Input → Type 0
Turned (turn.GoesOn status) before i after j =
    (line : List ℕ) × (outcome : Option Refused) × (done : State) × GaveLine line i j × (runs : RunsScript (InText line) before outcome done) × GoesOn outcome done after × StaysOn (InText line) before outcome done runs × (status ≡ status_of (listed outcome))
Turned (turn.Ends status) before i after i' =
    (lines : List (List ℕ)) × (refusals : List Refused) × ((taken : ℕ) → taken < most_lines → RunsLines lines taken before i refusals after i') × (status ≡ status_of refusals)

-- Lines were run, after so many others, with this status.
abbrev pub RanLines : ℕ → ℕ → State → Input → State → Input → Type 0
RanLines status taken before i after i' = (lines : List (List ℕ)) × (refusals : List Refused) × RunsLines lines taken before i refusals after i' × (status ≡ status_of refusals)
