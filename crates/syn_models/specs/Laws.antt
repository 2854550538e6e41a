-- Laws of flattening.
use Rattle.std.specs.Prelude.{◌≡◌, ◌⊎◌, ℕ, ◌≤◌, Bool, true, All, List, [], map, None}
use Rattle.std.specs.List.{list_all}
use Rattle.syn_netlist.specs.Words.{has_word, distinct}
use Rattle.syn_netlist.specs.Lists.{Table, Netlist}
use Rattle.syn_netlist.specs.Values.{table_value, Consistent}
use Rattle.syn_netlist.specs.Order.{DefinedOnce}
use Rattle.syn_netlist.specs.Faults.{first_undriven}
use Rattle.syn_models.specs.Models.{Model, name_of, Models, all_of, is_closed, alone, formals_once, subcircuits_of}
use Rattle.syn_models.specs.Opening.{Opened}
use Rattle.syn_models.specs.Flattening.{inner_name, as_it_is, called_table, AreSlashes, IsFlattening}
use Rattle.syn_models.specs.Families.{IsFamily, Agrees, names_inside}
use Rattle.syn_models.specs.declared.flat_fault.FlatFault.{FlatFault}
use Rattle.syn_models.specs.FlatFaults.{first_fault_of_models, IsFirstFlatFault, Flattens, WithinWords}

-- A table with its names called otherwise gives under a valuation what the table gives under the valuation of what they are called.
abbrev pub CalledTableValue : Type 0
CalledTableValue = (called : List ℕ → List ℕ) (table : Table) (v : List ℕ → Bool) → table_value (called_table called table) v ≡ table_value table (λ name. v (called name))

-- Inner names with one or more slashes are different for different instances and for different names.
abbrev pub InnerNamesDiffer : Type 0
InnerNamesDiffer = (count k l : ℕ) (x y : List ℕ) → 1 ≤ count → inner_name count k x ≡ inner_name count l y → (k ≡ l) × (x ≡ y)

-- There is a fewest number of slashes.
abbrev pub SlashesAreThere : Type 0
SlashesAreThere = (main : Model) (tree : Opened) → (count : ℕ) × AreSlashes main tree count

-- Each valuation that is consistent with the flattening is a family, name by name.
abbrev pub ValuationsAreFamilies : Type 0
ValuationsAreFamilies =
    (models : Models) (n : Netlist) (f : IsFlattening models n) (v : List ℕ → Bool) → Consistent n v
    → (family : ℕ → List ℕ → Bool) × IsFamily family 1 v f.tree × Agrees (inner_name f.count) 1 as_it_is v family f.tree

-- Each family is, name by name, a valuation that is consistent with the flattening.
abbrev pub FamiliesAreValuations : Type 0
FamiliesAreValuations =
    (models : Models) (n : Netlist) (f : IsFlattening models n) (own : List ℕ → Bool) (family : ℕ → List ℕ → Bool)
    → list_all is_closed (all_of models) ≡ true → IsFamily family 1 own f.tree
    → (v : List ℕ → Bool) × Consistent n v × ((name : List ℕ) → has_word models.main.names name ≡ true → v name ≡ own name) × Agrees (inner_name f.count) 1 as_it_is v family f.tree

-- Two valuations that agree with one family give each name of each instance one value.
abbrev pub OneValuation : Type 0
OneValuation =
    (models : Models) (n : Netlist) (f : IsFlattening models n) (v w : List ℕ → Bool) (family : ℕ → List ℕ → Bool)
    → Agrees (inner_name f.count) 1 as_it_is v family f.tree → Agrees (inner_name f.count) 1 as_it_is w family f.tree
    → map v (names_inside (inner_name f.count) 1 as_it_is f.tree) ≡ map w (names_inside (inner_name f.count) 1 as_it_is f.tree)

-- Models are flattened to at most one netlist.
abbrev pub OneFlattening : Type 0
OneFlattening = (models : Models) (n m : Netlist) → IsFlattening models n → IsFlattening models m → n ≡ m

-- Models of different names are flattened to a netlist within the limit of words, or have a first fault.
abbrev pub EitherFlat : Type 0
EitherFlat = (models : Models) → distinct (map name_of (all_of models)) ≡ true → ((n : Netlist) × Flattens models n × WithinWords models) ⊎ ((fault : FlatFault) × IsFirstFlatFault models fault)

-- Models that are flattened within the limit have no first fault.
abbrev pub NotBothFlat : Type 0
NotBothFlat = (models : Models) (n : Netlist) (fault : FlatFault) → Flattens models n → WithinWords models → IsFirstFlatFault models fault → ⊥

-- Models have at most one first fault.
abbrev pub OneFlatFault : Type 0
OneFlatFault = (models : Models) (f g : FlatFault) → IsFirstFlatFault models f → IsFirstFlatFault models g → f ≡ g

-- Models in which no fault stands, and in each of which alone no name is defined twice, are flattened to a netlist in which none is.
abbrev pub FlatteningDefinesOnce : Type 0
FlatteningDefinesOnce =
    (models : Models) (n : Netlist) → list_all is_closed (all_of models) ≡ true → All (λ m. DefinedOnce (alone m)) (all_of models)
    → first_fault_of_models models ≡ None → IsFlattening models n → DefinedOnce n

-- Models in which no fault stands, and in which no formal is bound twice, are flattened to a netlist in which each name that is read is defined.
abbrev pub FlatteningIsDriven : Type 0
FlatteningIsDriven =
    (models : Models) (n : Netlist) → list_all formals_once (all_of models) ≡ true
    → first_fault_of_models models ≡ None → IsFlattening models n → first_undriven n ≡ None

-- A main model without subcircuits is flattened to what it is alone.
abbrev pub AloneIsFlat : Type 0
AloneIsFlat = (models : Models) (n : Netlist) → subcircuits_of models.main ≡ [] → IsFlattening models n → n ≡ alone models.main
