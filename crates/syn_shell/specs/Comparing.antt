-- Comparisons of networks: what is read for them, what they put, and why they are refused.
use Rattle.std.specs.Prelude.{◌≡◌, ◌≢◌, ◌⊎◌, ℕ, ◌≤◌, ◌<◌, false, List, Option, Some, None, IsSomeAnd, ⊤}
use Rattle.syn_io.specs.Outside.{Disk, Screen}
use Rattle.syn_netlist.specs.Lists.{Netlist, sources}
use Rattle.syn_build.specs.BuildFaults.{most_gates}
use Rattle.syn_compare.specs.declared.answers.CompareFault.{CompareFault}
use Rattle.syn_compare.specs.declared.answers.CompareFault.TheVariants as compare
use Rattle.syn_compare.specs.declared.answers.Comparison.{Comparison}
use Rattle.syn_compare.specs.Comparing.{Compares}
use Rattle.syn_compare.specs.Matching.{AreMatched, IsFault}
use Rattle.syn_report.specs.Comparisons.{comparison_text}
use Rattle.syn_words.specs.declared.formats.NetworkFile.{NetworkFile}
use Rattle.syn_words.specs.declared.formats.NetworkFile.TheVariants as files
use Rattle.syn_shell.specs.declared.refusal.FileCause.{FileCause}
use Rattle.syn_shell.specs.declared.refusal.FileCause.TheVariants as causes
use Rattle.syn_shell.specs.declared.refusal.Refusal.{Refusal}
use Rattle.syn_shell.specs.declared.refusal.Refusal.TheVariants.{Read, ReadAiger, FileTooLong, GetFailed, NotRead, Unmatched, TooManyGates, NoNetwork, SinkFailed, NoMemory}
use Rattle.syn_shell.specs.Outside.{Took, TookPart}
use Rattle.syn_shell.specs.Networks.{Written, gates_in}
use Rattle.syn_shell.specs.Makes.{IsGraphFor}
use Rattle.syn_shell.specs.Reads.{AigerReadRefused, IsReadAs, IsReadAsAiger, ReadRefused}

-- What is read from a file that holds a network, by its format.
abbrev pub IsReadFrom : NetworkFile → Disk → Netlist → Type 0
IsReadFrom (files.Blif name) disk m = IsReadAs name disk m
IsReadFrom (files.Aiger name) disk m = IsReadAsAiger false name disk m

-- the file's name
abbrev pub name_of : NetworkFile → List ℕ
name_of (files.Blif name) = name
name_of (files.Aiger name) = name

-- why the file alone would be refused
abbrev pub cause_in : FileCause → Refusal
cause_in (causes.Read fault) = Read fault
cause_in (causes.ReadAiger fault) = ReadAiger fault
cause_in causes.TooLong = FileTooLong
cause_in causes.GetFailed = GetFailed

-- Why it is refused, by its format.
abbrev pub FileRefused : NetworkFile → Disk → Disk → Refusal → Type 0
FileRefused (files.Blif name) before after cause = ReadRefused name before after cause
FileRefused (files.Aiger name) before after cause = AigerReadRefused false name before after cause

-- Why it is not read to be compared: the same, with its name; memory may be refused.
abbrev pub IsNotRead : NetworkFile → Disk → Disk → Refusal → Type 0
IsNotRead file before after (NotRead name cause) = (name ≡ name_of file) × FileRefused file before after (cause_in cause)
IsNotRead file before after NoMemory = ⊤
IsNotRead file before after other = ⊥

-- The graph that is compared first: that of the first file; or that of the network, itself or what hashing makes of a net of LUTs, where not too many gates make it one.
abbrev pub IsFirst : Option NetworkFile → Option Written → Disk → Netlist → Type 0
IsFirst (Some file) network disk n = IsReadFrom file disk n
IsFirst None network disk n = (net : Written) × (graph : Written) × (network ≡ Some net) × (gates_in net ≤ most_gates) × IsGraphFor net.mapped net graph × (n ≡ graph.netlist)

-- Two netlists have the same names, and compare so.
pub record AreCompared (n m : Netlist) (comparison : Comparison) : Type 0 where
  pub matched : AreMatched n.frame m.frame
  pub compares : Compares n m comparison

-- A comparison is answered: the text says how the graph that is compared first compares with that of the second file.
pub record IsAnswered (first : Option NetworkFile) (second : NetworkFile) (network : Option Written) (disk : Disk) (answer : List ℕ → Type 0) : Type 0 where
  pub n : Netlist
  pub m : Netlist
  pub comparison : Comparison
  pub first_is : IsFirst first network disk n
  pub second_is : IsReadFrom second disk m
  pub compared : AreCompared n m comparison
  pub took : answer (comparison_text (sources n.frame) comparison)

-- The sink took that text.
abbrev pub Compared : Option NetworkFile → NetworkFile → Option Written → Disk → Screen → Screen → Type 0
Compared first second network disk before after = IsAnswered first second network disk (λ text. Took text before after)

-- Why two netlists aren't compared: a name is in one of them only; memory may be refused.
abbrev pub IsUnmatched : Netlist → Netlist → Refusal → Type 0
IsUnmatched n m (Unmatched fault) = IsFault n.frame m.frame fault × (fault ≢ compare.NoMemory)
IsUnmatched n m NoMemory = ⊤
IsUnmatched n m other = ⊥

-- A name of the networks that are compared is in one of them only.
pub record AreUnmatched (first : Option NetworkFile) (second : NetworkFile) (network : Option Written) (disk : Disk) (fault : CompareFault) : Type 0 where
  pub n : Netlist
  pub m : Netlist
  pub first_is : IsFirst first network disk n
  pub second_is : IsReadFrom second disk m
  pub fault_is : IsFault n.frame m.frame fault
  pub name : fault ≢ compare.NoMemory

-- Why a comparison is refused: there is no network, or too many gates make it a graph; a file isn't read; the names don't match; the sink failed, or memory was refused.
abbrev pub CompareRefused : Option NetworkFile → NetworkFile → Option Written → Disk → Disk → Screen → Screen → Refusal → Type 0
CompareRefused first second network d d' s s' NoNetwork = (first ≡ None) × (network ≡ None) × (s' ≡ s)
CompareRefused first second network d d' s s' (TooManyGates gates) = (first ≡ None) × IsSomeAnd network (λ net. (gates ≡ gates_in net) × (most_gates < gates)) × (s' ≡ s)
CompareRefused first second network d d' s s' (NotRead name cause) = (IsSomeAnd first (λ file. IsNotRead file d d' (NotRead name cause)) ⊎ IsNotRead second d d' (NotRead name cause)) × (s' ≡ s)
CompareRefused first second network d d' s s' (Unmatched fault) = AreUnmatched first second network d fault × (s' ≡ s)
CompareRefused first second network d d' s s' SinkFailed = IsAnswered first second network d (λ text. TookPart text s s')
CompareRefused first second network d d' s s' NoMemory = s' ≡ s
CompareRefused first second network d d' s s' other = ⊥
