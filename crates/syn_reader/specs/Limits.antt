-- The limits of a file, and its first fault.
use Rattle.std.specs.Prelude.{ℕ, ◌≡◌, ◌⊎◌, ◌<◌, ◌≤◌, Bool, List, length, Some}
use Rattle.syn_models.specs.declared.flat_fault.FlatFault.{FlatFault}
use Rattle.syn_models.specs.FlatFaults.{Flattens, IsFirstFlatFault, WithinWords}
use Rattle.syn_models.specs.Models.{Models}
use Rattle.syn_netlist.specs.Costs.{cost_of}
use Rattle.syn_netlist.specs.Faults.{IsAnsweredCircle}
use Rattle.syn_netlist.specs.Lists.{Netlist, sources}
use Rattle.syn_reader.specs.Faults.{Fault, Cycle, TooManySources, TooLarge, models_fault}
use Rattle.syn_reader.specs.ModelFaults.{first_line_fault}
use Rattle.syn_reader.specs.Reading.{NoCircle, Spells}

-- The most sources of a netlist that is read.
abbrev pub most_sources : ℕ
most_sources = 1048576

-- The greatest cost of a netlist that is read.
abbrev pub most_cost : ℕ
most_cost = 4194304

-- The netlist has few enough sources, and its cost is small enough.
pub record NetWithin (n : Netlist) : Type 0 where
  pub sources : length (sources n.frame) ≤ most_sources
  pub cost : cost_of n ≤ most_cost

-- The faults of a netlist without the ones above: a circle of tables, else too many sources, else a cost that is too large.
abbrev pub IsNetFault : Netlist → Fault → Type 0
IsNetFault n (Cycle names) = (first : List ℕ) × (before : List (List ℕ)) × (set : List ℕ → Bool) × IsAnsweredCircle n.tables first before names set
IsNetFault n (TooManySources k) = NoCircle n × (k ≡ length (sources n.frame)) × (most_sources < k)
IsNetFault n (TooLarge k) = NoCircle n × (length (sources n.frame) ≤ most_sources) × (k ≡ cost_of n) × (most_cost < k)
IsNetFault n other = ⊥

-- The models of the file have few enough words, and the netlist has few enough sources, and its cost is small enough.
pub record Within (bytes : List ℕ) (n : Netlist) : Type 0 where
  pub words : (models : Models) × Spells bytes models × WithinWords models
  pub netlist : NetWithin n

-- The first fault of models as subcircuits of each other.
abbrev pub IsModelsFault : Models → Fault → Type 0
IsModelsFault models fault = (flat : FlatFault) × IsFirstFlatFault models flat × (models_fault flat ≡ Some fault)

-- The first fault of a file: the first disallowed byte or fault of a line; where there is none, the first fault of the models that it spells; where there is none, that of the netlist that they are flattened to.
abbrev pub IsFirstFault : List ℕ → Fault → Type 0
IsFirstFault bytes fault =
    (first_line_fault bytes ≡ Some fault)
    ⊎ (((models : Models) × Spells bytes models × IsModelsFault models fault)
    ⊎ ((models : Models) × Spells bytes models × WithinWords models × ((n : Netlist) × Flattens models n × IsNetFault n fault)))
