-- What a file's models give.
use Rattle.std.proofs.Common.{arith, ◌≡◌, ℕ, ◌^◌, ◌<◌, ◌≤◌, true, List, [], ◌∷◌, length, map, refl, sym, ap, ◌∙◌, subst, Option, None, IfSome}
use Rattle.std.specs.List.{list_all}
use Rattle.std.proofs.lemmas.Bool.{and_from}
use Rattle.syn_netlist.specs.Costs.{cost_of}
use Rattle.syn_netlist.specs.Faults.{IsChecked, first_undriven}
use Rattle.syn_netlist.proofs.Checked.{orderable_reaches_no_circle}
use Rattle.syn_netlist.specs.Lists.{Netlist}
use Rattle.syn_netlist.specs.Views.{netlist_in}
use Rattle.syn_netlist.specs.declared.checked_netlist.CheckedNetlist.{CheckedNetlist}
use Rattle.syn_netlist.proofs.Arranging.{puts_in_order, put_is_checked}
use Rattle.syn_models.proofs.Driven.{flattening_is_driven}
use Rattle.syn_models.specs.declared.flat_fault.FlatFault.{FlatFault}
use Rattle.syn_models.specs.declared.flat_fault.FlatFault.TheVariants as flat
use Rattle.syn_models.specs.Answers.{IsFlatFault, models_in}
use Rattle.syn_models.specs.declared.hierarchy.Model.{Model}
use Rattle.syn_models.specs.declared.models.Models.{Models}
use Rattle.syn_models.specs.FlatFaults.{Flattens, WithinWords}
use Rattle.syn_models.specs.Models as words
use Rattle.syn_models.specs.Models.{all_of, formals_once}
use Rattle.syn_models.specs.Views.{model_in}
use Rattle.syn_reader.specs.Faults.{Fault, models_fault}
use Rattle.syn_reader.specs.Limits.{IsModelsFault}
use Rattle.syn_reader.specs.Saying.{SpellsModels}
use Rattle.syn_reader.specs.Reading.{NoCircle, Reads, Spells}
use Rattle.syn_reader.proofs.Costs.{flat_cost_few}

pub no_circle : (n : Netlist) → IsChecked n → NoCircle n
no_circle n c = λ word reached. orderable_reaches_no_circle n c.order word c.ordered reached

-- the models in words
same_models : (ms : List Model) → 1 ≤ length ms → all_of (models_in ms) ≡ map model_in ms
same_models [] h = absurd (omega arith)
same_models (m ∷ ms) h = refl

pub spells_all : (bytes : List ℕ) (r : Models) → SpellsModels bytes (map model_in r.models) → Spells bytes (models_in r.models)
spells_all bytes r s = subst (SpellsModels bytes) (sym (same_models r.models r.some)) s

each_once : (ms : List Model) → list_all formals_once (map model_in ms) ≡ true
each_once [] = refl
each_once (m ∷ ms) = and_from (formals_once (model_in m)) (list_all formals_once (map model_in ms)) m.formals_once (each_once ms)

pub driven_in : (r : Models) (n : Netlist) → Flattens (models_in r.models) n → first_undriven n ≡ None
driven_in r n f =
    let once : list_all formals_once (all_of (models_in r.models)) ≡ true = ap (list_all formals_once) (same_models r.models r.some) ∙ each_once r.models in
    flattening_is_driven (models_in r.models) n once f.faultless f.flattening

pub cost_in : (bytes : List ℕ) (r : Models) (n : Netlist) → length bytes < 2 ^ 32 → SpellsModels bytes (map model_in r.models) → Flattens (models_in r.models) n → WithinWords (models_in r.models) → cost_of n < 2 ^ 64
cost_in bytes r n short s f few = flat_cost_few bytes (models_in r.models) n short (spells_all bytes r s) f few

-- a checked netlist that such models are flattened to is the one that the file spells
pub checked_reads : (bytes : List ℕ) (r : Models) (checked : CheckedNetlist) → SpellsModels bytes (map model_in r.models) → Flattens (models_in r.models) (netlist_in checked.netlist) → Reads bytes (netlist_in checked.netlist)
checked_reads bytes r checked s f = record {
  models = models_in r.models;
  spelled = spells_all bytes r s;
  flattened = f;
  acyclic = no_circle (netlist_in checked.netlist) (put_is_checked (netlist_in checked.netlist) checked.order (puts_in_order checked.netlist checked.order checked.in_order));
}

-- the first fault of models, told as one of their file
pub is_told : (models : words.Models) (fault : FlatFault) (told : Option Fault) → told ≡ models_fault fault → IsFlatFault models fault → IfSome told (IsModelsFault models)
is_told models fault told e h = subst (λ (o : Option Fault). IfSome o (IsModelsFault models)) (sym e) (go fault h)
  where
    go : (f : FlatFault) → IsFlatFault models f → IfSome (models_fault f) (IsModelsFault models)
    go flat.NoMemory h = tt
    go (flat.UnknownModel line) h = (flat.UnknownModel line, h, refl)
    go (flat.UnknownPort line formal) h = (flat.UnknownPort line formal, h, refl)
    go (flat.PortMissing line port) h = (flat.PortMissing line port, h, refl)
    go (flat.DefinedTwice line name) h = (flat.DefinedTwice line name, h, refl)
    go (flat.Undriven name) h = (flat.Undriven name, h, refl)
    go (flat.Recursion names) h = (flat.Recursion names, h, refl)
    go (flat.TooManyWords count) h = (flat.TooManyWords count, h, refl)
