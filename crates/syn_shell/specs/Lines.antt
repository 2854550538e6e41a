-- The lines that are printed: a network's numbers, and refusals.
use Rattle.std.specs.Prelude.{◌≡◌, ℕ, Bool, true, false, ◌++◌, List, [], ◌∷◌, length, map, flat_map, codes, decimal, Option, Some, None}
use Rattle.syn_rows.specs.Rows.{node_of}
use Rattle.syn_rows.specs.Reach.{Ands}
use Rattle.syn_rows.specs.Levels.{level_in, levels_of}
use Rattle.syn_netlist.specs.Lists.{Frame, Netlist, sources}
use Rattle.syn_network.specs.GraphShape.{rows_of, observed_of}
use Rattle.syn_lutnet.specs.LutData.{depth_in, signal_depths}
use Rattle.syn_network.specs.LutShape.{count_of, depth_of, luts_of}
use Rattle.syn_network.specs.LutShape as shape
use Rattle.syn_report.specs.Levels.{greatest, levels_text}
use Rattle.syn_words.specs.Files.{place_of}
use Rattle.syn_words.specs.declared.ScriptFault.{ScriptFault}
use Rattle.syn_words.specs.declared.ScriptFault.TheVariants as script
use Rattle.syn_reader.specs.declared.ReadFault.{ReadFault}
use Rattle.syn_reader.specs.declared.ReadFault.TheVariants as read
use Rattle.syn_aiger_files.specs.declared.fault.AigFault.{AigFault}
use Rattle.syn_aiger_files.specs.declared.fault.AigFault.TheVariants as aiger
use Rattle.syn_command_files.specs.Luts.{line_of}
use Rattle.syn_shell.specs.Networks.{Written}
use Rattle.syn_compare.specs.declared.answers.CompareFault.{CompareFault}
use Rattle.syn_compare.specs.declared.answers.CompareFault.TheVariants as compare
use Rattle.syn_shell.specs.declared.refusal.FileCause.{FileCause}
use Rattle.syn_shell.specs.declared.refusal.FileCause.TheVariants as causes
use Rattle.syn_shell.specs.declared.refusal.Refusal.{Refusal}
use Rattle.syn_shell.specs.declared.refusal.Refusal.TheVariants.{Words, Script, CommandFile, Read, ReadAiger, ReadLuts, NotRead, Unmatched, FileTooLong, LineTooLong, CommandFileTooLong, TooDeep, TooManyLines, TooManyGates, LatchType, NoNetwork, GetFailed, PutFailed, LineFailed, SinkFailed, NoMemory}

-- the greatest level of an observed node of the rows that a netlist spells
abbrev pub greatest_level : Netlist → ℕ
greatest_level m = greatest (map (λ l. level_in (levels_of (rows_of m)) (node_of l)) (observed_of m))

-- a network's line: its name, how many inputs and outputs and latches it has, how many parts behind what they are called, and how deep it is
abbrev pub numbers_text : Frame → List ℕ → ℕ → ℕ → List ℕ
numbers_text frame called count depth =
    frame.model ++ (codes " : i/o = " ++ decimal (length frame.inputs)) ++ (codes "/" ++ decimal (length frame.outputs)) ++ (codes " lat = " ++ decimal (length frame.latches))
    ++ (called ++ decimal count) ++ (codes " lev = " ++ decimal depth) ++ 10 ∷ []

-- The bytes are the line of a graph: its number of ANDs is that of the reached ANDs of the rows that the netlist spells, and its depth their greatest level.
pub record IsGraphLine (m : Netlist) (bytes : List ℕ) : Type 0 where
  pub ands : ℕ
  pub reached : Ands (rows_of m) (observed_of m) ands
  pub text : bytes ≡ numbers_text m.frame (codes " and = ") ands (greatest_level m)

-- The bytes are the line of a net of LUTs: the number of LUTs that the netlist spells, and their depth.
abbrev pub IsLutsLine : Netlist → List ℕ → Type 0
IsLutsLine m bytes = bytes ≡ numbers_text m.frame (codes " lut = ") (count_of m) (depth_of m)

-- The bytes are the line of a netlist by its mark.
abbrev pub LineBy : Bool → Netlist → List ℕ → Type 0
LineBy false netlist bytes = IsGraphLine netlist bytes
LineBy true netlist bytes = IsLutsLine netlist bytes

-- The bytes are the network's line of statistics.
abbrev pub IsStatsLine : Written → List ℕ → Type 0
IsStatsLine network bytes = LineBy network.mapped network.netlist bytes

-- the levels of the observed signals of a netlist by its mark: those of a graph's nodes, and the depths of a net's LUTs
abbrev pub levels_by : Bool → Netlist → List ℕ
levels_by false m = map (λ l. level_in (levels_of (rows_of m)) (node_of l)) (observed_of m)
levels_by true m = map (λ l. depth_in (signal_depths (length (sources m.frame)) (luts_of m)) (node_of l)) (shape.observed_of m)

-- The text tells how many observed signals of the network have each level.
abbrev pub IsLevelsText : Written → List ℕ → Type 0
IsLevelsText network text = text ≡ levels_text (levels_by network.mapped network.netlist)

-- pieces of text, one after the other
abbrev pub joined : List (List ℕ) → List ℕ
joined pieces = flat_map (λ piece. piece) pieces

-- a place in a script and what is wrong there
abbrev pub at_place : ℕ → List ℕ → List ℕ
at_place at what = joined (codes "script " ∷ decimal at ∷ codes ": " ∷ what ∷ [])

-- what is wrong by a fault of a script
abbrev pub fault_words : ScriptFault → List ℕ
fault_words (script.BadByte at) = codes "bad byte"
fault_words (script.UnknownCommand at) = codes "unknown command"
fault_words (script.MissingWord at) = codes "missing word"
fault_words (script.ExtraWord at) = codes "extra word"
fault_words (script.UnknownEnding at) = codes "unknown ending"
fault_words (script.BadNumber at) = codes "bad number"
fault_words (script.OutOfRange at) = codes "out of range"
fault_words script.NoMemory = codes "out of memory"

-- what a fault of a script says: its place, and what is wrong there
abbrev pub script_text : ScriptFault → List ℕ
script_text fault = at_place (place_of fault) (fault_words fault)

-- the blank before a word, where there is one
abbrev pub gap_before : List ℕ → List ℕ
gap_before [] = []
gap_before (b ∷ bs) = codes " "

-- what a fault of a file of commands says: the file and the line, what is wrong there, and the word
abbrev pub command_fault_text : List ℕ → ℕ → List ℕ → ScriptFault → List ℕ
command_fault_text name line word fault = joined (name ∷ codes ":" ∷ decimal line ∷ codes ": " ∷ fault_words fault ∷ gap_before word ∷ word ∷ [])

-- a name in a line of a file and what is wrong with it there
abbrev pub name_at_line : ℕ → List ℕ → List ℕ → List ℕ
name_at_line line name what = joined (codes "line " ∷ decimal line ∷ codes ": " ∷ name ∷ what ∷ [])

-- what a circle is called, and its names
abbrev pub chain_text : List ℕ → List (List ℕ) → List ℕ
chain_text called names = called ++ flat_map (λ name. codes " " ++ name) names

-- the line, the name in it, if any, and what is wrong there, where a fault of a file tells a line
abbrev pub fault_at_line : ReadFault → Option (ℕ × List ℕ × List ℕ)
fault_at_line (read.AfterEnd line) = Some (line, [], codes "after end")
fault_at_line (read.UnknownKeyword line) = Some (line, [], codes "unknown keyword")
fault_at_line (read.SecondModel line) = Some (line, [], codes "second model")
fault_at_line (read.NoName line) = Some (line, [], codes "no name")
fault_at_line (read.ExtraWord line) = Some (line, [], codes "extra word")
fault_at_line (read.StrayRow line) = Some (line, [], codes "stray row")
fault_at_line (read.RowShape line) = Some (line, [], codes "row shape")
fault_at_line (read.MixedRows line) = Some (line, [], codes "mixed rows")
fault_at_line (read.LatchShape line) = Some (line, [], codes "latch shape")
fault_at_line (read.LatchType line) = Some (line, [], codes "latch type")
fault_at_line (read.LatchInit line) = Some (line, [], codes "latch init")
fault_at_line (read.DefinedTwice line name) = Some (line, name, codes " defined twice")
fault_at_line (read.ModelTwice line) = Some (line, [], codes "model defined twice")
fault_at_line (read.SubcktShape line) = Some (line, [], codes "subckt shape")
fault_at_line (read.PortTwice line formal) = Some (line, formal, codes " bound twice")
fault_at_line (read.UnknownModel line) = Some (line, [], codes "unknown model")
fault_at_line (read.UnknownPort line formal) = Some (line, formal, codes " unknown port")
fault_at_line (read.PortMissing line port) = Some (line, port, codes " unbound")
fault_at_line fault = None

-- what any other fault of a file says
abbrev pub file_fault_text : ReadFault → List ℕ
file_fault_text (read.BadByte at) = joined (codes "byte " ∷ decimal at ∷ codes ": bad byte" ∷ [])
file_fault_text (read.Undriven name) = joined (name ∷ codes " undriven" ∷ [])
file_fault_text (read.Recursion names) = chain_text (codes "recursion") names
file_fault_text (read.TooManyWords count) = joined (decimal count ∷ codes " words" ∷ [])
file_fault_text (read.Cycle names) = chain_text (codes "cycle") names
file_fault_text (read.TooManySources count) = joined (decimal count ∷ codes " sources" ∷ [])
file_fault_text (read.TooLarge cost) = joined (codes "cost " ∷ decimal cost ∷ [])
file_fault_text read.NoMemory = codes "out of memory"
file_fault_text fault = []

-- a line of a file, the name in it, if any, and what is wrong there; or else what is told of the file
abbrev pub in_line_or : Option (ℕ × List ℕ × List ℕ) → List ℕ → List ℕ
in_line_or (Some (line, name, what)) text = name_at_line line name what
in_line_or None text = text

-- what a fault of a file says
abbrev pub read_text : ReadFault → List ℕ
read_text fault = in_line_or (fault_at_line fault) (file_fault_text fault)

-- what a fault of an AIGER file says; its places are offsets of bytes
abbrev pub aiger_text : AigFault → List ℕ
aiger_text aiger.Header = codes "aiger header"
aiger_text aiger.Justice = codes "aiger justice"
aiger_text (aiger.Line at) = joined (codes "byte " ∷ decimal at ∷ codes ": aiger line" ∷ [])
aiger_text (aiger.Pair at) = joined (codes "byte " ∷ decimal at ∷ codes ": aiger pair" ∷ [])
aiger_text (aiger.Symbol at) = joined (codes "byte " ∷ decimal at ∷ codes ": aiger symbol" ∷ [])
aiger_text (aiger.Undefined variable) = joined (codes "variable " ∷ decimal variable ∷ codes " undefined" ∷ [])
aiger_text (aiger.Cycle variables) = codes "aiger cycle" ++ flat_map (λ variable. codes " " ++ decimal variable) variables
aiger_text (aiger.TooManySources count) = joined (decimal count ∷ codes " sources" ∷ [])
aiger_text (aiger.TooManyGates count) = joined (decimal count ∷ codes " gates" ∷ [])
aiger_text aiger.NoMemory = codes "out of memory"

-- what is told of a file that is compared and holds no network
abbrev pub not_read_text : List ℕ → FileCause → List ℕ
not_read_text name (causes.Read fault) = joined (name ∷ codes ": " ∷ []) ++ read_text fault
not_read_text name (causes.ReadAiger fault) = joined (name ∷ codes ": " ∷ []) ++ aiger_text fault
not_read_text name causes.TooLong = joined (name ∷ codes ": file longer than 16777216 bytes" ∷ [])
not_read_text name causes.GetFailed = joined (codes "cannot read " ∷ name ∷ [])

-- what is told of networks whose names don't match
abbrev pub unmatched_text : CompareFault → List ℕ
unmatched_text (compare.Input word) = joined (codes "input " ∷ word ∷ codes " in one network only" ∷ [])
unmatched_text (compare.Output word) = joined (codes "output " ∷ word ∷ codes " in one network only" ∷ [])
unmatched_text (compare.Latch word) = joined (codes "latch " ∷ word ∷ codes " in one network only" ∷ [])
unmatched_text compare.NoMemory = codes "out of memory"

-- what a refusal says; the name is that of the file that the command names, or of the file of commands in which the cause is
abbrev pub refusal_text : Refusal → List ℕ → List ℕ
refusal_text Words name = codes "command line"
refusal_text (Script fault) name = script_text fault
refusal_text (CommandFile line word fault) name = command_fault_text name line word fault
refusal_text (Read fault) name = read_text fault
refusal_text (ReadAiger fault) name = aiger_text fault
refusal_text (ReadLuts fault) name = joined (codes "line " ∷ decimal (line_of fault) ∷ codes ": lut row" ∷ [])
refusal_text (NotRead file cause) name = not_read_text file cause
refusal_text (Unmatched fault) name = unmatched_text fault
refusal_text FileTooLong name = codes "file longer than 16777216 bytes"
refusal_text LineTooLong name = codes "line longer than 65536 bytes"
refusal_text CommandFileTooLong name = codes "file of commands longer than 65536 bytes"
refusal_text TooDeep name = codes "files of commands more than 16 deep"
refusal_text TooManyLines name = codes "more than 1048576 lines"
refusal_text (TooManyGates gates) name = joined (decimal gates ∷ codes " gates" ∷ [])
refusal_text (LatchType latch) name = joined (latch ∷ codes " has a latch type" ∷ [])
refusal_text NoNetwork name = codes "no network"
refusal_text GetFailed name = joined (codes "cannot read " ∷ name ∷ [])
refusal_text PutFailed name = joined (codes "cannot write " ∷ name ∷ [])
refusal_text LineFailed name = codes "cannot read a line"
refusal_text SinkFailed name = []
refusal_text NoMemory name = codes "out of memory"

-- the line of a refusal
abbrev pub refusal_line : Refusal → List ℕ → List ℕ
refusal_line refusal name = codes "refused: " ++ (refusal_text refusal name ++ 10 ∷ [])

-- the status that a run ends with where a file's fault is refused first: its three limits have one of their own
abbrev pub read_status : ReadFault → ℕ
read_status (read.TooManyWords count) = 5
read_status (read.TooManySources count) = 5
read_status (read.TooLarge cost) = 5
read_status read.NoMemory = 8
read_status fault = 4

-- the same of a fault of an AIGER file: its two limits have one of their own
abbrev pub aiger_status : AigFault → ℕ
aiger_status (aiger.TooManySources count) = 5
aiger_status (aiger.TooManyGates count) = 5
aiger_status aiger.NoMemory = 8
aiger_status fault = 4

-- the same of a file that is compared and holds no network
abbrev pub not_read_status : FileCause → ℕ
not_read_status (causes.Read fault) = read_status fault
not_read_status (causes.ReadAiger fault) = aiger_status fault
not_read_status causes.TooLong = 5
not_read_status causes.GetFailed = 7

-- the status that a run ends with where this is refused first
abbrev pub refusal_status : Refusal → ℕ
refusal_status Words = 2
refusal_status (Script fault) = 3
refusal_status (CommandFile line word fault) = 3
refusal_status (Read fault) = read_status fault
refusal_status (ReadAiger fault) = aiger_status fault
refusal_status (ReadLuts fault) = 4
refusal_status (NotRead file cause) = not_read_status cause
refusal_status (Unmatched fault) = 9
refusal_status FileTooLong = 5
refusal_status LineTooLong = 5
refusal_status CommandFileTooLong = 5
refusal_status TooDeep = 5
refusal_status TooManyLines = 5
refusal_status (TooManyGates gates) = 5
refusal_status (LatchType latch) = 9
refusal_status NoNetwork = 6
refusal_status GetFailed = 7
refusal_status PutFailed = 7
refusal_status LineFailed = 7
refusal_status SinkFailed = 7
refusal_status NoMemory = 8
