-- What each command does, accepted or refused: a relation between what the session keeps, the files and the sink before and after it. There are commands that read a file, of either format or of LUTs, that generate a netlist, that print the network's line, its levels, seconds or a text, that compare networks, that write a file, in either format, and that make the network anew by a recipe.
use Rattle.std.specs.Prelude.{◌≡◌, ℕ, ◌≤◌, ◌<◌, Bool, true, false, List, Option, Some, None, unwrap_or, IsSome, IsSomeAnd, Result, Ok, Err, ⊤}
use Rattle.syn_io.specs.Outside.{Rose, Disk, Screen}
use Rattle.syn_netlist.specs.Lists.{Netlist}
use Rattle.syn_text.specs.Printed.{printed}
use Rattle.syn_build.specs.BuildFaults.{most_gates}
use Rattle.syn_gen.specs.Generated.{generated}
use Rattle.syn_aiger_files.specs.Printed as aiger_printed
use Rattle.syn_aiger.specs.Faults.{Spells}
use Rattle.syn_aiger.specs.Writing.{IsWrittenAs, aig_of, first_typed, without_types}
use Rattle.syn_words.specs.declared.Command.{Command}
use Rattle.syn_words.specs.declared.Command.TheVariants as commands
use Rattle.syn_words.specs.declared.inputs.LutSizes.{LutSizes}
use Rattle.syn_words.specs.declared.recipes.Recipe.{Recipe}
use Rattle.syn_words.specs.declared.recipes.Recipe.TheVariants as recipes
use Rattle.syn_reader.specs.Reading.{Reads}
use Rattle.syn_build.specs.Building.{IsGraphOf}
use Rattle.syn_shell.specs.declared.refusal.Refusal.{Refusal}
use Rattle.syn_shell.specs.declared.refusal.Refusal.TheVariants.{TooManyGates, LatchType, NoNetwork, PutFailed, SinkFailed, NoMemory}
use Rattle.syn_command_files.specs.Told.{FilesUnchanged, FileIs}
use Rattle.syn_shell.specs.Outside.{State, OthersUnchanged, Took, TookPart}
use Rattle.syn_shell.specs.Networks.{Written, gates_in, graph_network}
use Rattle.syn_shell.specs.Makes.{Makes}
use Rattle.syn_report.specs.Seconds.{seconds_text}
use Rattle.syn_shell.specs.Lines.{IsLevelsText, IsStatsLine}
use Rattle.syn_shell.specs.Comparing.{CompareRefused, Compared}
use Rattle.syn_shell.specs.Makes.{IsGraphFor}
use Rattle.syn_shell.specs.Reads.{IsReadAs, IsReadAsAiger, IsLutFile, ReadRefused, AigerReadRefused, LutsRefused}

-- Why a text that tells of a network is refused, and what the sink took of it.
abbrev pub PrintRefused : (Written → List ℕ → Type 0) → Option Written → Screen → Screen → Refusal → Type 0
PrintRefused tells m before after NoNetwork = (m ≡ None) × (after ≡ before)
PrintRefused tells m before after SinkFailed = (net : Written) × (text : List ℕ) × (m ≡ Some net) × tells net text × TookPart text before after
PrintRefused tells m before after NoMemory = after ≡ before
PrintRefused tells m before after other = ⊥

-- Why the seconds are refused, and what the sink took of them.
abbrev pub TimeRefused : Screen → Screen → Refusal → Type 0
TimeRefused before after SinkFailed = (hundredths : Option ℕ) × TookPart (seconds_text hundredths) before after
TimeRefused before after NoMemory = after ≡ before
TimeRefused before after other = ⊥

-- Why a text isn't put, and what the sink took of it.
abbrev pub TextRefused : List ℕ → Screen → Screen → Refusal → Type 0
TextRefused text before after SinkFailed = TookPart text before after
TextRefused text before after other = ⊥

-- Why a write is refused, and what became of the files.
abbrev pub WriteRefused : Option Written → List ℕ → Disk → Disk → Refusal → Type 0
WriteRefused m name before after NoNetwork = (m ≡ None) × (after ≡ before)
WriteRefused m name before after PutFailed = IsSome m × Rose before.faults after.faults × OthersUnchanged name before after
WriteRefused m name before after NoMemory = OthersUnchanged name before after
WriteRefused m name before after other = ⊥

-- The netlist that an AIGER file keeps: itself, or it without the types of its latches where these are left out.
abbrev pub kept_by : Bool → Netlist → Netlist
kept_by false m = m
kept_by true m = without_types m

-- What an accepted write of an AIGER file puts: the bytes of the file of a graph for the network, in the format; they spell that file, and it keeps what the network means, but for the types of latches where these are left out. Not too many gates make the network a graph, and else no latch has a type.
pub record IsAigerOf (ascii bare : Bool) (net : Written) (bytes : List ℕ) : Type 0 where
  pub graph : Written
  pub made : IsGraphFor net.mapped net graph
  pub gates : gates_in net ≤ most_gates
  pub typeless : bare ≡ false → first_typed net.netlist.frame ≡ None
  pub is : bytes ≡ aiger_printed.printed ascii (aig_of graph.netlist)
  pub spells : Spells false bytes (aig_of graph.netlist)
  pub keeps : IsWrittenAs (kept_by bare net.netlist) (aig_of graph.netlist)

-- Why a network has no AIGER file: too many gates make it a graph; else its first latch with a type is told, where types aren't left out. Memory may be refused.
abbrev pub AigerRefused : Bool → Written → Refusal → Type 0
AigerRefused bare net (TooManyGates gates) = (gates ≡ gates_in net) × (most_gates < gates)
AigerRefused bare net (LatchType latch) = (bare ≡ false) × (gates_in net ≤ most_gates) × (first_typed net.netlist.frame ≡ Some latch)
AigerRefused bare net NoMemory = ⊤
AigerRefused bare net other = ⊥

-- Why a write of an AIGER file is refused, and what became of the files: there is no such file of the network, or as any write.
abbrev pub AigerWriteRefused : Bool → Option Written → List ℕ → Disk → Disk → Refusal → Type 0
AigerWriteRefused bare m name before after (TooManyGates gates) = IsSomeAnd m (λ net. AigerRefused bare net (TooManyGates gates)) × (after ≡ before)
AigerWriteRefused bare m name before after (LatchType latch) = IsSomeAnd m (λ net. AigerRefused bare net (LatchType latch)) × (after ≡ before)
AigerWriteRefused bare m name before after other = WriteRefused m name before after other

-- The gates that are made before a recipe goes on: those that make the network a graph, and none where LUTs are resubstituted.
abbrev pub gates_for : Recipe → Written → ℕ
gates_for (recipes.ResubstituteLuts window sizes) = λ net. 0
gates_for other = gates_in

-- There is a network, not too many gates are made before, and the recipe makes another of it.
abbrev pub Remakes : Recipe → Option Written → Option Written → Type 0
Remakes recipe m m' = (old : Written) × (new : Written) × (m ≡ Some old) × (m' ≡ Some new) × (gates_for recipe old ≤ most_gates) × Makes recipe old new

-- A recipe with these LUTs where it names none.
abbrev pub with_luts : LutSizes → Recipe → Recipe
with_luts sizes (recipes.Map area named) = recipes.Map area (Some (unwrap_or named sizes))
with_luts sizes (recipes.MapLoosely slack named) = recipes.MapLoosely slack (Some (unwrap_or named sizes))
with_luts sizes (recipes.ResubstituteLuts window named) = recipes.ResubstituteLuts window (Some (unwrap_or named sizes))
with_luts sizes (recipes.MapByFlow named) = recipes.MapByFlow (Some (unwrap_or named sizes.most))
with_luts sizes other = other

-- Why a network is not made anew, where so many gates of it are made before.
abbrev pub MakingRefused : (Written → ℕ) → Option Written → Refusal → Type 0
MakingRefused gates_of m NoNetwork = m ≡ None
MakingRefused gates_of m (TooManyGates gates) = IsSomeAnd m (λ net. (gates ≡ gates_of net) × (most_gates < gates))
MakingRefused gates_of m NoMemory = ⊤
MakingRefused gates_of m other = ⊥

-- Why a netlist is not generated.
abbrev pub GeneratingRefused : Refusal → Type 0
GeneratingRefused NoMemory = ⊤
GeneratingRefused other = ⊥

-- What the session keeps stays, whatever becomes of the files and of the sink.
pub record Stays (before after : State) : Type 0 where
  pub network : after.network ≡ before.network
  pub luts : after.luts ≡ before.luts

-- The graph of a netlist becomes the network, and the LUTs stay.
pub record Becomes (net : Netlist) (before after : State) : Type 0 where
  pub network : after.network ≡ Some (graph_network net)
  pub luts : after.luts ≡ before.luts

-- A command that is accepted. What is written reads back as what the network is. The commands of a file stand in its place when a run begins, and nothing stands behind the end of a run, so both do nothing themselves.
abbrev pub Accepted : Command → State → State → Type 0
Accepted (commands.Read name) before after =
    (net : Netlist) × Becomes net before after × IsReadAs name before.files net × FilesUnchanged before.files after.files × (after.sink ≡ before.sink)
Accepted (commands.ReadAiger properties name) before after =
    (net : Netlist) × Becomes net before after × IsReadAsAiger properties name before.files net × FilesUnchanged before.files after.files × (after.sink ≡ before.sink)
Accepted (commands.ReadLuts name) before after =
    (after.network ≡ before.network) × IsLutFile name before.files after.luts × FilesUnchanged before.files after.files × (after.sink ≡ before.sink)
Accepted (commands.Generate seed size) before after =
    (net : Netlist) × Becomes net before after × IsGraphOf (generated seed size) net × (after.files ≡ before.files) × (after.sink ≡ before.sink)
Accepted commands.Stats before after =
    (net : Written) × (line : List ℕ) × (before.network ≡ Some net) × Stays before after × (after.files ≡ before.files) × IsStatsLine net line × Took line before.sink after.sink
Accepted commands.Levels before after =
    (net : Written) × (text : List ℕ) × (before.network ≡ Some net) × Stays before after × (after.files ≡ before.files) × IsLevelsText net text × Took text before.sink after.sink
Accepted commands.Time before after =
    (hundredths : Option ℕ) × Stays before after × (after.files ≡ before.files) × Took (seconds_text hundredths) before.sink after.sink
Accepted (commands.Compare conflicts first second) before after =
    Stays before after × FilesUnchanged before.files after.files × Compared first second before.network before.files before.sink after.sink
Accepted (commands.Write name) before after =
    (net : Written) × (before.network ≡ Some net) × Stays before after × FileIs name after.files (printed net.netlist) × Reads (printed net.netlist) net.netlist
    × OthersUnchanged name before.files after.files × (after.sink ≡ before.sink)
Accepted (commands.WriteAiger ascii bare name) before after =
    (net : Written) × (bytes : List ℕ) × (before.network ≡ Some net) × Stays before after × FileIs name after.files bytes × IsAigerOf ascii bare net bytes
    × OthersUnchanged name before.files after.files × (after.sink ≡ before.sink)
Accepted (commands.Print text) before after = Stays before after × (after.files ≡ before.files) × Took text before.sink after.sink
Accepted (commands.Source name) before after = after ≡ before
Accepted commands.Quit before after = after ≡ before
Accepted (commands.Make recipe) before after = Remakes (with_luts before.luts recipe) before.network after.network × (after.luts ≡ before.luts) × (after.files ≡ before.files) × (after.sink ≡ before.sink)

-- A command that is refused. It leaves what the session keeps.
abbrev pub Denied : Command → State → Refusal → State → Type 0
Denied (commands.Read name) before cause after = Stays before after × ReadRefused name before.files after.files cause × FilesUnchanged before.files after.files × (after.sink ≡ before.sink)
Denied (commands.ReadAiger properties name) before cause after = Stays before after × AigerReadRefused properties name before.files after.files cause × FilesUnchanged before.files after.files × (after.sink ≡ before.sink)
Denied (commands.ReadLuts name) before cause after = Stays before after × LutsRefused name before.files after.files cause × FilesUnchanged before.files after.files × (after.sink ≡ before.sink)
Denied (commands.Generate seed size) before cause after = Stays before after × GeneratingRefused cause × (after.files ≡ before.files) × (after.sink ≡ before.sink)
Denied commands.Stats before cause after = Stays before after × PrintRefused IsStatsLine before.network before.sink after.sink cause × (after.files ≡ before.files)
Denied commands.Levels before cause after = Stays before after × PrintRefused IsLevelsText before.network before.sink after.sink cause × (after.files ≡ before.files)
Denied commands.Time before cause after = Stays before after × TimeRefused before.sink after.sink cause × (after.files ≡ before.files)
Denied (commands.Compare conflicts first second) before cause after =
    Stays before after × CompareRefused first second before.network before.files after.files before.sink after.sink cause × FilesUnchanged before.files after.files
Denied (commands.Write name) before cause after = Stays before after × WriteRefused before.network name before.files after.files cause × (after.sink ≡ before.sink)
Denied (commands.WriteAiger ascii bare name) before cause after = Stays before after × AigerWriteRefused bare before.network name before.files after.files cause × (after.sink ≡ before.sink)
Denied (commands.Print text) before cause after = Stays before after × TextRefused text before.sink after.sink cause × (after.files ≡ before.files)
Denied (commands.Source name) before cause after = ⊥
Denied commands.Quit before cause after = ⊥
Denied (commands.Make recipe) before cause after = Stays before after × MakingRefused (gates_for (with_luts before.luts recipe)) before.network cause × (after.files ≡ before.files) × (after.sink ≡ before.sink)

-- One command, from what the session keeps, the files and the sink before it to those after it.
abbrev pub SessionStep : Command → State → Result (Unit {0}) Refusal → State → Type 0
SessionStep command before (Ok done) after = Accepted command before after
SessionStep command before (Err cause) after = Denied command before cause after
