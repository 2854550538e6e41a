-- A script: its commands one after the other up to the first that is refused, and the line of that refusal.
use Rattle.std.specs.Prelude.{◌≡◌, ◌≢◌, ◌⊎◌, ℕ, List, [], ◌∷◌, Option, Some, None, Ok, Err}
use Rattle.syn_io.specs.Outside.{Screen}
use Rattle.syn_words.specs.declared.Command.{Command}
use Rattle.syn_words.specs.declared.Command.TheVariants as commands
use Rattle.syn_command_files.specs.declared.LoadFault.{LoadFault}
use Rattle.syn_command_files.specs.declared.LoadFault.TheVariants as faults
use Rattle.syn_command_files.specs.Loading.{FileRefused, LoadsFile, LoadsScript, ScriptRefused}
use Rattle.syn_command_files.specs.Sources.{CountsFailure}
use Rattle.syn_command_files.specs.Sources as sources
use Rattle.syn_command_files.specs.Told.{FilesUnchanged}
use Rattle.syn_shell.specs.declared.refusal.Refusal.{Refusal}
use Rattle.syn_shell.specs.declared.refusal.Refusal.TheVariants.{Script, CommandFile, CommandFileTooLong, LineTooLong, TooDeep, GetFailed, SinkFailed, NoMemory}
use Rattle.syn_shell.specs.Outside.{State, Took, TookPart}
use Rattle.syn_shell.specs.Lines.{refusal_line}
use Rattle.syn_shell.specs.Steps.{SessionStep}

-- A refusal, with the name of the file that the refused command names.
pub record Refused : Type 0 where
  pub cause : Refusal
  pub name : List ℕ

-- a refusal that no file's name belongs to
abbrev pub nameless : Refusal → Refused
nameless cause = record { cause = cause; name = [] }

-- the name of the file that a command names
abbrev pub name_in : Command → List ℕ
name_in (commands.Read name) = name
name_in (commands.Write name) = name
name_in (commands.ReadAiger properties name) = name
name_in (commands.WriteAiger ascii bare name) = name
name_in (commands.ReadLuts name) = name
name_in other = []

-- The commands one after the other, up to the first that is refused.
abbrev pub RunsCommands : List Command → State → Option Refused → State → Type 0
RunsCommands [] before outcome after = (outcome ≡ None) × (after ≡ before)
RunsCommands (c ∷ cs) before outcome after =
    ((between : State) × SessionStep c before (Ok tt) between × RunsCommands cs between outcome after)
    ⊎ ((cause : Refusal) × (outcome ≡ Some (record { cause = cause; name = name_in c })) × SessionStep c before (Err cause) after)

-- What holds commands: the text of a script, or the file of a name.
pub data Source : Type 0 where
  InText : List ℕ → Source
  InFile : List ℕ → Source

-- It comes to these commands, by the files that are told.
abbrev pub Loads : Source → Option (List (List ℕ × List ℕ)) → List Command → Type 0
Loads (InText text) told commands = LoadsScript text told commands
Loads (InFile name) told commands = LoadsFile name told commands

-- It comes to none, for this cause in the file of this name.
abbrev pub LoadFails : Source → Option (List (List ℕ × List ℕ)) → sources.Refused → Type 0
LoadFails (InText text) told refusal = ScriptRefused text told refusal
LoadFails (InFile name) told refusal = FileRefused name told refusal

-- why a run is refused, by why there are no commands
abbrev pub cause_of : LoadFault → Refusal
cause_of (faults.Script fault) = Script fault
cause_of (faults.File line word fault) = CommandFile line word fault
cause_of faults.ScriptTooLong = LineTooLong
cause_of faults.FileTooLong = CommandFileTooLong
cause_of faults.TooDeep = TooDeep
cause_of faults.GetFailed = GetFailed
cause_of faults.NoMemory = NoMemory

-- the refusal of a run, likewise
abbrev pub refused_by : sources.Refused → Refused
refused_by refusal = record { cause = cause_of refusal.cause; name = refusal.name }

-- Of two states: only how often a call of the files has failed may be another.
pub record OnlyCounts (before after : State) : Type 0 where
  pub network : after.network ≡ before.network
  pub luts : after.luts ≡ before.luts
  pub files : FilesUnchanged before.files after.files
  pub sink : after.sink ≡ before.sink

-- Nothing is run, since there are no commands.
pub record IsUnread (refusal : sources.Refused) (before : State) (outcome : Option Refused) (after : State) : Type 0 where
  pub told : outcome ≡ Some (refused_by refusal)
  pub only : OnlyCounts before after
  pub counted : CountsFailure refusal.cause before.files after.files

-- A script, or a file of commands: it is refused before any of its commands runs, or its commands are run.
abbrev pub RunsScript : Source → State → Option Refused → State → Type 0
RunsScript source before outcome after =
    ((refusal : sources.Refused) × LoadFails source before.files.told refusal × IsUnread refusal before outcome after)
    ⊎ ((commands : List Command) × (start : State) × Loads source before.files.told commands × OnlyCounts before start × RunsCommands commands start outcome after)

-- Of two states: only what the sink took may be another.
pub record OnlySink (before after : State) : Type 0 where
  pub network : after.network ≡ before.network
  pub luts : after.luts ≡ before.luts
  pub files : after.files ≡ before.files

-- The line of a refusal was put. A sink that failed has no line.
pub record Announced (refused : Refused) (before after : State) : Type 0 where
  pub only : OnlySink before after
  pub line : Took (refusal_line refused.cause refused.name) before.sink after.sink
  pub sink : refused.cause ≢ SinkFailed

-- What a sink that failed took of the line of a refusal: nothing more where it failed in the refused command, and else a first part of it.
abbrev pub TookLess : Refused → Screen → Screen → Type 0
TookLess refused before after = ((refused.cause ≡ SinkFailed) × (after ≡ before)) ⊎ ((refused.cause ≢ SinkFailed) × TookPart (refusal_line refused.cause refused.name) before after)

-- The sink failed: in the refused command, or while the line of the refusal was put.
pub record SinkGaveUp (refused : Refused) (before after : State) : Type 0 where
  pub only : OnlySink before after
  pub failed : TookLess refused before.sink after.sink
