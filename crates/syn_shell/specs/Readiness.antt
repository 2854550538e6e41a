-- When a run is ready: nothing stands in its way but want of memory and calls that fail. It is a condition on the run itself: what each command needs is there in the state in which the run ran it.
use Rattle.std.specs.Prelude.{◌≡◌, ◌⊎◌, ℕ, ◌+◌, ◌<◌, ◌≤◌, List, [], ◌∷◌, length, Bool, true, false, Option, IfSome, IsSome, IsSomeAnd, None, Some, Ok, ⊤}
use mathlib.Core.Logic.{inl, inr}
use Rattle.syn_io.specs.Outside.{Disk, Input, Screen, file_at, next_line}
use Rattle.syn_netlist.specs.Lists.{Netlist}
use Rattle.syn_reader.specs.Limits.{Within}
use Rattle.syn_reader.specs.Reading.{Reads}
use Rattle.syn_build.specs.BuildFaults.{most_gates}
use Rattle.syn_aiger_files.specs.declared.files.Aig.{Aig}
use Rattle.syn_aiger.specs.Faults.{Spells}
use Rattle.syn_aiger.specs.Faults as aiger
use Rattle.syn_aiger.specs.Writing.{first_typed}
use Rattle.syn_compare.specs.Matching.{AreMatched}
use Rattle.syn_words.specs.declared.formats.NetworkFile.{NetworkFile}
use Rattle.syn_words.specs.declared.formats.NetworkFile.TheVariants as files
use Rattle.syn_words.specs.declared.inputs.LutSizes.{LutSizes}
use Rattle.syn_words.specs.declared.Command.{Command}
use Rattle.syn_words.specs.declared.Command.TheVariants as commands
use Rattle.syn_command_files.specs.Luts.{sizes_in}
use Rattle.syn_command_files.specs.Loading.{ScriptSays}
use Rattle.syn_command_files.specs.Sources.{has_no_source, text_limit}
use Rattle.syn_shell.specs.Networks.{gates_in}
use Rattle.syn_shell.specs.Outside.{State}
use Rattle.syn_shell.specs.Comparing.{IsFirst, IsReadFrom}
use Rattle.syn_shell.specs.Reads.{file_limit}
use Rattle.syn_shell.specs.Steps.{gates_for}
use Rattle.syn_shell.specs.Scripts.{Refused, InFile, InText, Loads, RunsCommands, RunsScript, Source}
use Rattle.syn_shell.specs.LineMode.{RunsLines, most_lines}
use Rattle.syn_usage.specs.Usage.{Usage, OneScript, OneFile, EachLine, Faulty, usage_of}
use Rattle.syn_shell.specs.Counts.{SomeFault}
use Rattle.syn_shell.specs.Runs.{Ran, RunsUsage, RunsWords}

-- The file of that name is told and there; it is short enough, and spells a netlist within the three limits: words, sources and cost.
abbrev pub IsReadable : List ℕ → Disk → Type 0
IsReadable name files = IsSomeAnd files.told (λ list. IsSomeAnd (file_at name list) (λ bytes. (length bytes ≤ file_limit) × (net : Netlist) × Reads bytes net × Within bytes net))

-- The file of that name is told and there; it is short enough, and spells an AIGER file within both limits: sources and ANDs; with properties or without.
abbrev pub IsReadableAiger : Bool → List ℕ → Disk → Type 0
IsReadableAiger properties name files = IsSomeAnd files.told (λ list. IsSomeAnd (file_at name list) (λ bytes. (length bytes ≤ file_limit) × (g : Aig) × Spells properties bytes g × aiger.Within g))

-- The file of that name is told and there; it is short enough, and says what LUTs there are.
abbrev pub HasLuts : List ℕ → Disk → Type 0
HasLuts name files = IsSomeAnd files.told (λ list. IsSomeAnd (file_at name list) (λ bytes. (length bytes ≤ file_limit) × (sizes : LutSizes) × (sizes_in bytes ≡ Ok sizes)))

-- A file that holds a network can be read.
abbrev pub HoldsNetwork : NetworkFile → Disk → Type 0
HoldsNetwork (files.Blif name) disk = IsReadable name disk
HoldsNetwork (files.Aiger name) disk = IsReadableAiger false name disk

-- What is compared first is there: a file, or a network that not too many gates make a graph.
abbrev pub HasFirst : Option NetworkFile → State → Type 0
HasFirst None before = IsSomeAnd before.network (λ net. gates_in net ≤ most_gates)
HasFirst (Some file) before = HoldsNetwork file before.files

-- What is compared is there, and its names match.
pub record IsComparable (first : Option NetworkFile) (second : NetworkFile) (before : State) : Type 0 where
  pub first_is : HasFirst first before
  pub second_is : HoldsNetwork second before.files
  pub match : (n m : Netlist) → IsFirst first before.network before.files n → IsReadFrom second before.files m → AreMatched n.frame m.frame

-- What a command needs: its files, nothing, or a network; to write it as an AIGER file, or to make it anew but by resubstitution of LUTs, one that not too many gates make a graph, and for the file one without types of latches where these aren't left out.
abbrev pub Needs : Command → State → Type 0
Needs (commands.Read name) before = IsReadable name before.files
Needs (commands.ReadAiger properties name) before = IsReadableAiger properties name before.files
Needs (commands.ReadLuts name) before = HasLuts name before.files
Needs (commands.Generate seed size) before = ⊤
Needs commands.Stats before = IsSome before.network
Needs commands.Levels before = IsSome before.network
Needs commands.Time before = ⊤
Needs (commands.Compare conflicts first second) before = IsComparable first second before
Needs (commands.Write name) before = IsSome before.network
Needs (commands.WriteAiger ascii bare name) before = IsSomeAnd before.network (λ net. (gates_in net ≤ most_gates) × (bare ≡ false → first_typed net.netlist.frame ≡ None))
Needs (commands.Print text) before = ⊤
Needs (commands.Source name) before = ⊤
Needs commands.Quit before = ⊤
Needs (commands.Make recipe) before = IsSomeAnd before.network (λ net. gates_for recipe net ≤ most_gates)

-- What each command that was run needs is there.
abbrev pub CommandsReady : (commands : List Command) (before : State) (outcome : Option Refused) (after : State) → RunsCommands commands before outcome after → Type 0
CommandsReady [] before outcome after runs = ⊤
CommandsReady (c ∷ cs) before outcome after (inl (between, step, more)) = Needs c before × CommandsReady cs between outcome after more
CommandsReady (c ∷ cs) before outcome after (inr refused) = Needs c before

-- A script that says commands and names no file.
abbrev pub SaysAlone : Source → Type 0
SaysAlone (InText text) = (said : List Command) × ScriptSays text said × (has_no_source said ≡ true)
SaysAlone (InFile name) = ⊥

-- A script or a file comes to commands: the files are told, and by them it does; or it names none.
abbrev pub IsLoadable : Source → Disk → Type 0
IsLoadable source files = (IsSome files.told × (commands : List Command) × Loads source files.told commands) ⊎ SaysAlone source

-- It comes to commands, and what they need is there.
abbrev pub ScriptReady : (source : Source) (before : State) (outcome : Option Refused) (after : State) → RunsScript source before outcome after → Type 0
ScriptReady source before outcome after (inl refused) = IsLoadable source before.files
ScriptReady source before outcome after (inr (commands, start, loads, only, runs)) = CommandsReady commands start outcome after runs

-- A further line, where one is left, is within its limit, and the lines are within their number. It is told what is left.
abbrev pub LineReady : ℕ → Input → Type 0
LineReady taken i = IsSomeAnd i.told (λ left. IfSome (next_line left) (λ line. (length line ≤ text_limit) × (taken < most_lines)))

-- The same of all lines, and each script is ready.
abbrev pub LinesReady : (lines : List (List ℕ)) (taken : ℕ) (before : State) (i : Input) (refusals : List Refused) (after : State) (i' : Input) → RunsLines lines taken before i refusals after i' → Type 0
LinesReady [] taken before i refusals after i' runs = LineReady taken i
LinesReady (line ∷ lines) taken before i refusals after i' (j, outcome, done, lt, gave, runs, inl (announced, more, on, stays, is, rest)) =
    ScriptReady (InText line) before outcome done runs × LinesReady lines (taken + 1) announced j more after i' rest
LinesReady (line ∷ lines) taken before i refusals after i' (j, outcome, done, lt, gave, runs, inr ends) = ScriptReady (InText line) before outcome done runs

-- The words are well formed, and what they ask for is ready.
abbrev pub UsageReady : (usage : Usage) (before : State) (i : Input) (refusals : List Refused) (after : State) (i' : Input) → RunsUsage usage before i refusals after i' → Type 0
UsageReady (OneScript text) before i refusals after i' ((outcome, done, runs, is, ends), same) = ScriptReady (InText text) before outcome done runs
UsageReady (OneFile name) before i refusals after i' ((outcome, done, runs, is, ends), same) = ScriptReady (InFile name) before outcome done runs
UsageReady EachLine before i refusals after i' (lines, runs) = LinesReady lines 0 before i refusals after i' runs
UsageReady Faulty before i refusals after i' runs = ⊥

-- The same, where memory was not refused before.
abbrev pub WordsReady : (words : List (List ℕ)) (before : State) (i : Input) (refusals : List Refused) (after : State) (i' : Input) → RunsWords words before i refusals after i' → Type 0
WordsReady words before i refusals after i' (inl runs) = UsageReady (usage_of words) before i refusals after i' runs
WordsReady words before i refusals after i' (inr nothing) = ⊤

-- A run that was ready, and in which no call of the files, the lines or the sink failed, ends with 0, or for want of memory with 8.
abbrev pub IsComplete : List (List ℕ) → Disk → Screen → Input → Disk → Screen → Input → ℕ → Type 0
IsComplete words d s i d' s' i' status =
    (ran : Ran words d s i d' s' i' status) → WordsReady words _ i ran.refusals _ i' ran.runs → (SomeFault d s i d' s' i' → ⊥) → (status ≡ 0) ⊎ (status ≡ 8)
