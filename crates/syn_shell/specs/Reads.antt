-- What is read from files: a netlist, an AIGER file, what LUTs there are; and why a file is refused.
use Rattle.std.specs.Prelude.{◌≡◌, ℕ, ◌≤◌, ◌<◌, Bool, List, length, IfSome, IsSomeAnd, Ok, Err, ⊤}
use Rattle.syn_io.specs.Outside.{Rose, file_at, Disk}
use Rattle.syn_netlist.specs.Lists.{Netlist}
use Rattle.syn_aiger_files.specs.declared.fault.AigFault.{AigFault}
use Rattle.syn_aiger_files.specs.declared.files.Aig.{Aig}
use Rattle.syn_aiger.specs.Faults.{Spells}
use Rattle.syn_aiger.specs.Faults as aiger
use Rattle.syn_aiger.specs.Networks.{IsGraphOfAig}
use Rattle.syn_command_files.specs.declared.luts.LutFileFault.{LutFileFault}
use Rattle.syn_command_files.specs.Luts.{line_of, sizes_in}
use Rattle.syn_words.specs.declared.inputs.LutSizes.{LutSizes}
use Rattle.syn_reader.specs.declared.ReadFault.{ReadFault}
use Rattle.syn_reader.specs.Causes.{fault_in}
use Rattle.syn_reader.specs.Limits.{Within, IsFirstFault}
use Rattle.syn_reader.specs.Reading.{Reads}
use Rattle.syn_build.specs.Building.{IsGraphOf}
use Rattle.syn_shell.specs.declared.refusal.Refusal.{Refusal}
use Rattle.syn_shell.specs.declared.refusal.Refusal.TheVariants.{Read, ReadAiger, ReadLuts, FileTooLong, GetFailed, NoMemory}
use Rattle.syn_command_files.specs.Told.{FileIs}

-- the most bytes of a file that is read
abbrev pub file_limit : ℕ
file_limit = 16777216

-- What an accepted read makes of a file: its bytes spell a netlist, that of their models flattened, within the limits, and the network is that netlist's graph.
pub record IsReadAs (name : List ℕ) (files : Disk) (m : Netlist) : Type 0 where
  pub bytes : List ℕ
  pub netlist : Netlist
  pub file : FileIs name files bytes
  pub short : length bytes ≤ file_limit
  pub reads : Reads bytes netlist
  pub within : Within bytes netlist
  pub graph : IsGraphOf netlist m

-- What an accepted read makes of an AIGER file: its bytes spell a file of that format within the limits, with bad states and constraints as outputs or without any, and the network is a graph of it.
pub record IsReadAsAiger (properties : Bool) (name : List ℕ) (files : Disk) (m : Netlist) : Type 0 where
  pub bytes : List ℕ
  pub aig : Aig
  pub file : FileIs name files bytes
  pub short : length bytes ≤ file_limit
  pub spells : Spells properties bytes aig
  pub within : aiger.Within aig
  pub graph : IsGraphOfAig aig m

-- The bytes of a file have this first fault, which is none of memory.
pub record IsFaulty (name : List ℕ) (files : Disk) (fault : ReadFault) : Type 0 where
  pub bytes : List ℕ
  pub file : FileIs name files bytes
  pub short : length bytes ≤ file_limit
  pub first : IsSomeAnd (fault_in fault) (IsFirstFault bytes)

-- The bytes of an AIGER file have this first fault, which is none of memory.
pub record IsFaultyAiger (properties : Bool) (name : List ℕ) (files : Disk) (fault : AigFault) : Type 0 where
  pub bytes : List ℕ
  pub file : FileIs name files bytes
  pub short : length bytes ≤ file_limit
  pub first : aiger.IsFirstFault properties bytes fault

-- What an accepted file of LUTs makes the LUTs that mapping uses: its bytes say them.
pub record IsLutFile (name : List ℕ) (files : Disk) (sizes : LutSizes) : Type 0 where
  pub bytes : List ℕ
  pub file : FileIs name files bytes
  pub short : length bytes ≤ file_limit
  pub says : sizes_in bytes ≡ Ok sizes

-- The bytes of a file of LUTs have this first fault.
pub record AreFaultyLuts (name : List ℕ) (files : Disk) (fault : LutFileFault) : Type 0 where
  pub bytes : List ℕ
  pub file : FileIs name files bytes
  pub short : length bytes ≤ file_limit
  pub first : sizes_in bytes ≡ Err (line_of fault)

-- Why bytes spell no netlist: their first fault, or memory was refused.
abbrev pub ParseRefused : List ℕ → Refusal → Type 0
ParseRefused bytes (Read fault) = IsSomeAnd (fault_in fault) (IsFirstFault bytes)
ParseRefused bytes NoMemory = ⊤
ParseRefused bytes other = ⊥

-- Why bytes spell no AIGER file, likewise.
abbrev pub AigerParseRefused : Bool → List ℕ → Refusal → Type 0
AigerParseRefused properties bytes (ReadAiger fault) = aiger.IsFirstFault properties bytes fault
AigerParseRefused properties bytes NoMemory = ⊤
AigerParseRefused properties bytes other = ⊥

-- Why the bytes of a file are not there: it could not be read, or it is too long, or memory was refused.
abbrev pub GetRefused : List ℕ → Disk → Disk → Refusal → Type 0
GetRefused name before after GetFailed = Rose before.faults after.faults
GetRefused name before after FileTooLong = IfSome before.told (λ list. IsSomeAnd (file_at name list) (λ bytes. file_limit < length bytes))
GetRefused name before after NoMemory = ⊤
GetRefused name before after other = ⊥

-- Why a read is refused: the file has a fault, or its bytes are not there.
abbrev pub ReadRefused : List ℕ → Disk → Disk → Refusal → Type 0
ReadRefused name before after (Read fault) = IsFaulty name before fault
ReadRefused name before after other = GetRefused name before after other

-- The same of an AIGER file.
abbrev pub AigerReadRefused : Bool → List ℕ → Disk → Disk → Refusal → Type 0
AigerReadRefused properties name before after (ReadAiger fault) = IsFaultyAiger properties name before fault
AigerReadRefused properties name before after other = GetRefused name before after other

-- The same of a file of LUTs.
abbrev pub LutsRefused : List ℕ → Disk → Disk → Refusal → Type 0
LutsRefused name before after (ReadLuts fault) = AreFaultyLuts name before fault
LutsRefused name before after other = GetRefused name before after other
