-- Laws of files.
use Rattle.std.specs.Prelude.{ℕ, ◌≡◌, ◌⊎◌, ◌^◌, ◌<◌, ◌≤◌, Bool, true, List, ◌∷◌, ◌++◌, length, map, None, Ok}
use Rattle.std.specs.List.{list_all}
use Rattle.syn_netlist.specs.Lists.{Frame, Netlist, latch_output}
use Rattle.syn_lists.specs.Numbers.{distinct_numbers}
use Rattle.syn_netlist.specs.Order.{Ordered}
use Rattle.syn_netlist.specs.Words.{is_word}
use Rattle.syn_network.specs.GraphShape.{GraphShape, rows_of}
use Rattle.syn_aiger_files.specs.declared.fault.AigFault.{AigFault}
use Rattle.syn_aiger.specs.Again.{HasListsOf, IsReadBack}
use Rattle.syn_aiger.specs.Faults.{IsFirstFault, Spells, Within}
use Rattle.syn_aiger.specs.Networks.{IsGraphOfAig}
use Rattle.syn_aiger_files.specs.declared.files.Aig.{Aig}
use Rattle.syn_aiger_files.specs.Laws.{IsNormal}
use Rattle.syn_aiger_files.specs.Printed.{printed}
use Rattle.syn_aiger_files.specs.Spelling.{spelled}
use Rattle.syn_aiger.specs.Values.{NoCircle, defined_variables, reads_above, source_variables}
use Rattle.syn_aiger.specs.Writing.{IsWrittenAs, aig_of, first_typed, free_signals, without_types}

-- The bytes spell one file at most.
abbrev pub OneAig : Type 0
OneAig = (properties : Bool) (bytes : List ℕ) (g h : Aig) → Spells properties bytes g → Spells properties bytes h → g ≡ h

-- Bytes spell a file within the limits, or have a first fault.
abbrev pub EitherOr : Type 0
EitherOr = (properties : Bool) (bytes : List ℕ) → ((g : Aig) × Spells properties bytes g × Within g) ⊎ ((fault : AigFault) × IsFirstFault properties bytes fault)

-- What spells a file within the limits has no first fault.
abbrev pub NotBoth : Type 0
NotBoth = (properties : Bool) (bytes : List ℕ) (g : Aig) (fault : AigFault) → Spells properties bytes g → Within g → IsFirstFault properties bytes fault → ⊥

-- Bytes have one first fault at most.
abbrev pub OneFault : Type 0
OneFault = (properties : Bool) (bytes : List ℕ) (f g : AigFault) → IsFirstFault properties bytes f → IsFirstFault properties bytes g → f ≡ g

-- A spelled file defines no variable twice.
abbrev pub SpelledDefinesOnce : Type 0
SpelledDefinesOnce = (properties : Bool) (bytes : List ℕ) (g : Aig) → spelled properties bytes ≡ Ok g → distinct_numbers (defined_variables g) ≡ true

-- Where each AND of a spelled file reads only variables of sources and of ANDs above it, no ANDs read each other in a circle.
abbrev pub OrderHasNoCircle : Type 0
OrderHasNoCircle = (properties : Bool) (bytes : List ℕ) (g : Aig) → spelled properties bytes ≡ Ok g → reads_above (0 ∷ source_variables g) g.ands ≡ true → NoCircle g

-- What is printed of a file that can be written spells it, in both formats.
abbrev pub PrintedSpells : Type 0
PrintedSpells = (properties : Bool) (g : Aig) → IsNormal g → (ascii : Bool) → Spells properties (printed ascii g) g

-- the names that are written of a frame: those of the sources and of the outputs
abbrev pub written_names : Frame → List (List ℕ)
written_names frame = free_signals frame ++ (map latch_output frame.latches ++ frame.outputs)

-- The file of a network with so few nodes and outputs, whose written names are words, can be written.
abbrev pub AigOfIsNormal : Type 0
AigOfIsNormal =
    (m : Netlist) → Ordered m → GraphShape m
    → length (rows_of m) ≤ 2 ^ 28 → length m.frame.outputs < 2 ^ 28
    → list_all is_word (written_names m.frame) ≡ true → IsNormal (aig_of m)

-- The file of a network without types of latches, whose written names are words, keeps what the network means.
abbrev pub AigOfKeeps : Type 0
AigOfKeeps =
    (m : Netlist) → Ordered m → GraphShape m → first_typed m.frame ≡ None
    → list_all is_word (written_names m.frame) ≡ true → IsWrittenAs m (aig_of m)

-- The file of a network whose written names are words keeps what the network means without the types of its latches.
abbrev pub AigOfLeavesTypes : Type 0
AigOfLeavesTypes = (m : Netlist) → Ordered m → GraphShape m → list_all is_word (written_names m.frame) ≡ true → IsWrittenAs (without_types m) (aig_of m)

-- A graph of a file has the file's lists by place.
abbrev pub GraphHasLists : Type 0
GraphHasLists = (g : Aig) (n : Netlist) → IsGraphOfAig g n → HasListsOf g n

-- A graph of what is written is the network read again.
abbrev pub WrittenReadsBack : Type 0
WrittenReadsBack = (properties : Bool) (bytes : List ℕ) (m n : Netlist) (g : Aig) → Spells properties bytes g → IsWrittenAs m g → IsGraphOfAig g n → IsReadBack m n
