-- Files that spell something, their limits, and their first fault. Which faults there are, and their order, is this project's choice.
use Rattle.std.specs.Prelude.{ℕ, ◌≡◌, ◌<◌, ◌≤◌, Bool, List, true, length, map, None, Some, Ok, Err, ⊤}
use Rattle.std.specs.List.{list_all}
use Rattle.syn_netlist.specs.Faults.{AnswersCircle}
use Rattle.syn_lists.specs.Numbers.{has_number}
use Rattle.syn_reader.specs.Limits.{most_sources}
use Rattle.syn_aiger_files.specs.declared.fault.AigFault.{AigFault}
use Rattle.syn_aiger_files.specs.declared.fault.AigFault.TheVariants as faults
use Rattle.syn_aiger_files.specs.declared.files.Aig.{Aig}
use Rattle.syn_aiger_files.specs.Spelling.{spelled}
use Rattle.syn_aiger.specs.Values.{NoCircle, and_tables, and_variable, first_undefined, source_literals, variable_word}

-- The most ANDs of a file that is read.
abbrev pub most_ands : ℕ
most_ands = 4194304

-- The bytes spell the file: they say it, each variable that it reads is defined, and no ANDs read each other in a circle. There are no limits in this. By the mark bad states and constraints are outputs behind the file's own; else they are refused.
pub record Spells (properties : Bool) (bytes : List ℕ) (g : Aig) : Type 0 where
  pub says : spelled properties bytes ≡ Ok g
  pub defined : first_undefined g ≡ None
  pub acyclic : NoCircle g

-- The file has few enough sources, and few enough ANDs.
pub record Within (g : Aig) : Type 0 where
  pub sources : length (source_literals g) ≤ most_sources
  pub gates : length g.ands ≤ most_ands

-- What is wrong with what a file says: the first variable that is read and not defined; else the circle that is answered of the ANDs' tables, as variables of ANDs; else too many sources; else too many ANDs.
abbrev pub IsAigFault : Aig → AigFault → Type 0
IsAigFault g (faults.Undefined v) = first_undefined g ≡ Some v
IsAigFault g (faults.Cycle vs) = (first_undefined g ≡ None) × (list_all (has_number (map and_variable g.ands)) vs ≡ true) × AnswersCircle (and_tables g) (map variable_word vs)
IsAigFault g (faults.TooManySources n) = (first_undefined g ≡ None) × NoCircle g × (n ≡ length (source_literals g)) × (most_sources < n)
IsAigFault g (faults.TooManyGates n) = (first_undefined g ≡ None) × NoCircle g × (length (source_literals g) ≤ most_sources) × (n ≡ length g.ands) × (most_ands < n)
IsAigFault g other = ⊥

-- The first fault of a file: one of its first line, a line, a pair or a symbol; where there is none, one of what it says.
abbrev pub IsFirstFault : Bool → List ℕ → AigFault → Type 0
IsFirstFault properties bytes faults.NoMemory = ⊥
IsFirstFault properties bytes (faults.Undefined v) = (g : Aig) × (spelled properties bytes ≡ Ok g) × IsAigFault g (faults.Undefined v)
IsFirstFault properties bytes (faults.Cycle vs) = (g : Aig) × (spelled properties bytes ≡ Ok g) × IsAigFault g (faults.Cycle vs)
IsFirstFault properties bytes (faults.TooManySources n) = (g : Aig) × (spelled properties bytes ≡ Ok g) × IsAigFault g (faults.TooManySources n)
IsFirstFault properties bytes (faults.TooManyGates n) = (g : Aig) × (spelled properties bytes ≡ Ok g) × IsAigFault g (faults.TooManyGates n)
IsFirstFault properties bytes fault = spelled properties bytes ≡ Err fault

-- An answer names the first fault, or it is want of memory.
abbrev pub NamesFirstFault : Bool → List ℕ → AigFault → Type 0
NamesFirstFault properties bytes faults.NoMemory = ⊤
NamesFirstFault properties bytes fault = IsFirstFault properties bytes fault
