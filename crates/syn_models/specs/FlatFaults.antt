-- What is wrong with models as subcircuits of each other. Which one is answered first is this project's choice.
use Rattle.std.specs.Prelude.{◌≡◌, ◌⊎◌, ℕ, ◌≤◌, ◌<◌, nat_lt, not, Bool, true, false, if◌then◌else◌, List, [], ◌∷◌, ◌++◌, map, flat_map, filter, find, option_map, Option, Some, None}
use Rattle.std.specs.Option.{option_or}
use Rattle.syn_netlist.specs.Words.{has_word}
use Rattle.syn_netlist.specs.Lists.{Table, Netlist, latch_reads}
use Rattle.syn_netlist.specs.Faults.{ReachesCircle, AnswersCircle}
use Rattle.syn_models.specs.declared.flat_fault.FlatFault.{FlatFault}
use Rattle.syn_models.specs.declared.flat_fault.FlatFault.TheVariants.{UnknownModel, UnknownPort, PortMissing, DefinedTwice, Undriven, Recursion, TooManyWords}
use Rattle.syn_models.specs.Models.{Bind, Subcircuit, StatementKind, Inputs, Outputs, Clock, OneLatch, OneTable, OneSubcircuit, Statement, Model, Models, all_of, model_named, reading_ports, is_reading, is_port, formal_of, actual_in, is_bound, subcircuits_of}
use Rattle.syn_models.specs.Opening.{Opened, Opens, words_of}
use Rattle.syn_models.specs.Flattening.{IsFlattening}

-- A place where a subcircuit stands: its line and the subcircuit, the model of its name, all models, the model that it stands in, and that one's statements above.
pub record Site : Type 0 where
  pub line : ℕ
  pub here : Subcircuit
  pub models : List Model
  pub home : Model
  pub above : List Statement

-- the model that is contained
abbrev pub contained : Site → Option Model
contained site = model_named site.models site.here.model

-- No model of the file has the name.
abbrev pub is_absent : Option Model → Bool
is_absent None = true
is_absent (Some m) = false

abbrev pub unknown_model : Site → Bool
unknown_model site = is_absent (contained site)

-- The first formal, in word order, that is no input, clock or output of the model.
abbrev pub foreign : List Bind → Option Model → Option (List ℕ)
foreign binds None = None
foreign binds (Some m) = find (λ formal. not (is_port m formal)) (map formal_of binds)

abbrev pub unknown_port : Site → Option (List ℕ)
unknown_port site = foreign site.here.binds (contained site)

-- The first input, or else clock, in list order, that isn't bound.
abbrev pub unbound : List Bind → Option Model → Option (List ℕ)
unbound binds None = None
unbound binds (Some m) = find (λ port. not (is_bound binds port)) (reading_ports m)

abbrev pub port_missing : Site → Option (List ℕ)
port_missing site = unbound site.here.binds (contained site)

-- The actuals of a subcircuit that it reads, and those that it defines, in word order.
abbrev pub reads_of : List Bind → Option Model → List (List ℕ)
reads_of binds None = []
reads_of binds (Some m) = map actual_in (filter (λ b. is_reading m b.formal) binds)

abbrev pub defines_of : List Bind → Option Model → List (List ℕ)
defines_of binds None = []
defines_of binds (Some m) = map actual_in (filter (λ b. not (is_reading m b.formal)) binds)

-- The names that statements define by themselves, and by subcircuits.
abbrev pub defined_plainly : StatementKind → List (List ℕ)
defined_plainly (Inputs words) = words
defined_plainly (Clock words) = words
defined_plainly (OneLatch latch) = latch.output ∷ []
defined_plainly (OneTable table) = table.output ∷ []
defined_plainly kind = []

abbrev pub defined_inside : List Model → StatementKind → List (List ℕ)
defined_inside models (OneSubcircuit c) = defines_of c.binds (model_named models c.model)
defined_inside models kind = []

-- The first of the names that stands among those before it.
abbrev pub first_again : List (List ℕ) → List (List ℕ) → Option (List ℕ)
first_again before [] = None
first_again before (w ∷ ws) = if has_word before w then Some w else first_again (w ∷ before) ws

-- The first actual of an output, in word order, that another statement of its model defines, or a subcircuit's word before it.
abbrev pub defined_twice : Site → Option (List ℕ)
defined_twice site = first_again
    (flat_map (λ s. defined_plainly s.kind) site.home.statements ++ flat_map (λ s. defined_inside site.models s.kind) site.above)
    (defines_of site.here.binds (contained site))

-- A check of a subcircuit at its place.
abbrev pub Check : Type 0
Check = Site → Option FlatFault

abbrev pub where_holds : (Site → Bool) → (ℕ → FlatFault) → Check
where_holds test fault site = if test site then Some (fault site.line) else None

abbrev pub where_named : (Site → Option (List ℕ)) → (ℕ → List ℕ → FlatFault) → Check
where_named found fault site = option_map (fault site.line) (found site)

-- The faults of a subcircuit, in their order on one line.
abbrev pub checks : List Check
checks =
    where_holds unknown_model UnknownModel
    ∷ where_named unknown_port UnknownPort
    ∷ where_named port_missing PortMissing
    ∷ where_named defined_twice DefinedTwice
    ∷ []

-- The first of the checks that finds a fault.
abbrev pub first_found : List Check → Site → Option FlatFault
first_found [] site = None
first_found (check ∷ more) site = option_or (check site) (first_found more site)

-- The fault of a statement below those above it: of a subcircuit alone.
abbrev pub statement_fault : List Check → List Model → Model → List Statement → ℕ → StatementKind → Option FlatFault
statement_fault list models home above line (OneSubcircuit c) = first_found list (record { line = line; here = c; models = models; home = home; above = above })
statement_fault list models home above line kind = None

-- The fault of the first statement, from the top, that has one.
abbrev pub first_of_statements : List Check → List Model → Model → List Statement → List Statement → Option FlatFault
first_of_statements list models home above [] = None
first_of_statements list models home above (s ∷ ss) = option_or (statement_fault list models home above s.line s.kind) (first_of_statements list models home (s ∷ above) ss)

-- That of the first model, from the top, that has one.
abbrev pub first_of_models : List Check → List Model → List Model → Option FlatFault
first_of_models list models [] = None
first_of_models list models (m ∷ ms) = option_or (first_of_statements list models m [] m.statements) (first_of_models list models ms)

-- The names that a statement reads, in word order.
abbrev pub names_read : List Model → StatementKind → List (List ℕ)
names_read models (Outputs words) = words
names_read models (OneLatch latch) = latch_reads latch
names_read models (OneTable table) = table.inputs
names_read models (OneSubcircuit c) = reads_of c.binds (model_named models c.model)
names_read models kind = []

-- The names that a model defines.
abbrev pub defined_in : List Model → Model → List (List ℕ)
defined_in models m = flat_map (λ s. defined_plainly s.kind) m.statements ++ flat_map (λ s. defined_inside models s.kind) m.statements

-- The first reading place of a model, by line and word, whose name it never defines.
abbrev pub undriven_in : List Model → Model → Option (List ℕ)
undriven_in models m = find (λ name. not (has_word (defined_in models m) name)) (flat_map (λ s. names_read models s.kind) m.statements)

-- That of the first model that has one.
abbrev pub first_undriven : List Model → List Model → Option (List ℕ)
first_undriven models [] = None
first_undriven models (m ∷ ms) = option_or (undriven_in models m) (first_undriven models ms)

-- The first fault of a subcircuit, or else the first name that is read and never defined.
abbrev pub first_fault_of_models : Models → Option FlatFault
first_fault_of_models models =
    option_or (first_of_models checks (all_of models) (all_of models))
    (option_map Undriven (first_undriven (all_of models) (all_of models)))

-- What a model contains, as a table that reads: circles of models are circles of such tables, and the first subcircuit is the first input.
abbrev pub model_of : Subcircuit → List ℕ
model_of c = c.model

abbrev pub contents : Model → Table
contents m = record { inputs = map model_of (subcircuits_of m); output = m.name; rows = []; on = true }

-- No model is in a circle of models, or contains one that is.
abbrev pub NoRecursion : Models → Type 0
NoRecursion models = (name : List ℕ) → ReachesCircle (map contents (all_of models)) name → ⊥

-- The most words, of the main model and of the models of all instances together.
abbrev pub most_words : ℕ
most_words = 16777216

-- A number as it is told: the greatest one of 64 bits stands for all that are greater.
abbrev pub greatest : ℕ
greatest = 18446744073709551615

abbrev pub told : ℕ → ℕ
told n = if nat_lt greatest n then greatest else n

-- The faults of models without the ones above: models that contain each other in a circle, else too many words.
abbrev pub IsTreeFault : Models → FlatFault → Type 0
IsTreeFault models (Recursion names) = AnswersCircle (map contents (all_of models)) names
IsTreeFault models (TooManyWords n) =
    NoRecursion models × ((tree : Opened) × Opens (all_of models) models.main.statements tree × (most_words < words_of models.main tree) × (n ≡ told (words_of models.main tree)))
IsTreeFault models other = ⊥

-- The first fault of models.
abbrev pub IsFirstFlatFault : Models → FlatFault → Type 0
IsFirstFlatFault models fault = (first_fault_of_models models ≡ Some fault) ⊎ ((first_fault_of_models models ≡ None) × IsTreeFault models fault)

-- The models are flattened to the netlist, and no fault stands in them.
pub record Flattens (models : Models) (n : Netlist) : Type 0 where
  pub faultless : first_fault_of_models models ≡ None
  pub acyclic : NoRecursion models
  pub flattening : IsFlattening models n

-- The words are few enough.
abbrev pub WithinWords : Models → Type 0
WithinWords models = (tree : Opened) × Opens (all_of models) models.main.statements tree × (words_of models.main tree ≤ most_words)
