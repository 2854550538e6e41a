-- What flattening answers.
use Rattle.std.specs.Prelude.{◌≡◌, List, [], ◌∷◌, map}
use Rattle.syn_netlist.specs.Lists as lists
use Rattle.syn_models.specs.declared.flat_fault.FlatFault.{FlatFault}
use Rattle.syn_models.specs.declared.flat_fault.FlatFault.TheVariants.{NoMemory}
use Rattle.syn_models.specs.declared.hierarchy.Model.{Model}
use Rattle.syn_models.specs.Models as models
use Rattle.syn_models.specs.FlatFaults.{IsFirstFlatFault}
use Rattle.syn_models.specs.Views.{model_in}

-- no model; nothing reads it
abbrev no_model : models.Model
no_model = record { name = []; names = []; statements = []; words = 0 }

-- the models in words, the first of which is the main model
abbrev pub models_in : List Model → models.Models
models_in [] = record { main = no_model; others = [] }
models_in (main ∷ others) = record { main = model_in main; others = map model_in others }

-- What a fault says: it is the first one of the models. Want of memory says nothing.
abbrev pub IsFlatFault : models.Models → FlatFault → Type 0
IsFlatFault models NoMemory = Unit {0}
IsFlatFault models fault = IsFirstFlatFault models fault

-- The model is the first of the models.
pub record IsFirst (models : List Model) (main : Model) : Type 0 where
  pub others : List Model
  pub is : models ≡ main ∷ others

-- what the main model has beside its tables, with these latches
abbrev pub frame_with : Model → List lists.Latch → lists.Frame
frame_with main latches = record { model = main.name; inputs = models.inputs_of (model_in main); clocks = models.clocks_of (model_in main); outputs = models.outputs_of (model_in main); latches = latches }
