-- Models that contain each other, as plain data (BLIF manual, sections .model and .subckt). A name is its word.
use Rattle.std.specs.Prelude.{ℕ, ◌||◌, Bool, if◌then◌else◌, List, [], ◌∷◌, ◌++◌, map, flat_map, bytes_eq, Option, Some, None}
use Rattle.std.specs.List.{list_all}
use Rattle.syn_netlist.specs.Words.{has_word, distinct}
use Rattle.syn_netlist.specs.Lists.{Latch, Table, Netlist, control_of}

-- A bind: a formal, which is a name of the model that is contained, and its actual, a name of the model that contains it.
pub record Bind : Type 0 where
  pub formal : List ℕ
  pub actual : List ℕ

-- A subcircuit: the name of the model that it contains, and its binds in order.
pub record Subcircuit : Type 0 where
  pub model : List ℕ
  pub binds : List Bind

-- What a statement says.
pub data StatementKind : Type 0 where
  Inputs : List (List ℕ) → StatementKind
  Outputs : List (List ℕ) → StatementKind
  Clock : List (List ℕ) → StatementKind
  OneLatch : Latch → StatementKind
  OneTable : Table → StatementKind
  OneSubcircuit : Subcircuit → StatementKind

-- A statement: its line, and what it says.
pub record Statement : Type 0 where
  pub line : ℕ
  pub kind : StatementKind

-- A model: its name, the names of its signals, its statements in order, and how many words its lines have.
pub record Model : Type 0 where
  pub name : List ℕ
  pub names : List (List ℕ)
  pub statements : List Statement
  pub words : ℕ

-- The models of a file. The first is the main model.
pub record Models : Type 0 where
  pub main : Model
  pub others : List Model

abbrev pub name_of : Model → List ℕ
name_of m = m.name

abbrev pub all_of : Models → List Model
all_of models = models.main ∷ models.others

-- the model of this name
abbrev pub model_named : List Model → List ℕ → Option Model
model_named [] name = None
model_named (m ∷ ms) name = if bytes_eq m.name name then Some m else model_named ms name

-- What a statement says, sorted: names of each list, latches, tables, subcircuits.
abbrev pub inputs_in : StatementKind → List (List ℕ)
inputs_in (Inputs words) = words
inputs_in kind = []

abbrev pub clocks_in : StatementKind → List (List ℕ)
clocks_in (Clock words) = words
clocks_in kind = []

abbrev pub outputs_in : StatementKind → List (List ℕ)
outputs_in (Outputs words) = words
outputs_in kind = []

abbrev pub latches_in : StatementKind → List Latch
latches_in (OneLatch latch) = latch ∷ []
latches_in kind = []

abbrev pub tables_in : StatementKind → List Table
tables_in (OneTable table) = table ∷ []
tables_in kind = []

abbrev pub subcircuits_in : StatementKind → List Subcircuit
subcircuits_in (OneSubcircuit c) = c ∷ []
subcircuits_in kind = []

-- The lists of a model, each concatenated over its statements.
abbrev pub inputs_of : Model → List (List ℕ)
inputs_of m = flat_map (λ s. inputs_in s.kind) m.statements

abbrev pub clocks_of : Model → List (List ℕ)
clocks_of m = flat_map (λ s. clocks_in s.kind) m.statements

abbrev pub outputs_of : Model → List (List ℕ)
outputs_of m = flat_map (λ s. outputs_in s.kind) m.statements

abbrev pub latches_of : Model → List Latch
latches_of m = flat_map (λ s. latches_in s.kind) m.statements

abbrev pub tables_of : Model → List Table
tables_of m = flat_map (λ s. tables_in s.kind) m.statements

abbrev pub subcircuits_of : Model → List Subcircuit
subcircuits_of m = flat_map (λ s. subcircuits_in s.kind) m.statements

-- The ports that read their actuals, in list order: inputs, then clocks.
abbrev pub reading_ports : Model → List (List ℕ)
reading_ports m = inputs_of m ++ clocks_of m

-- a formal that is an input or clock of the model reads its actual; any other formal defines it
abbrev pub is_reading : Model → List ℕ → Bool
is_reading m formal = has_word (reading_ports m) formal

-- an input, clock or output of the model
abbrev pub is_port : Model → List ℕ → Bool
is_port m formal = is_reading m formal || has_word (outputs_of m) formal

-- the actual of a formal, where it is bound
abbrev pub actual_of : List Bind → List ℕ → Option (List ℕ)
actual_of [] formal = None
actual_of (b ∷ bs) formal = if bytes_eq b.formal formal then Some b.actual else actual_of bs formal

abbrev pub formal_of : Bind → List ℕ
formal_of b = b.formal

abbrev pub actual_in : Bind → List ℕ
actual_in b = b.actual

-- whether a formal is bound
abbrev pub is_bound : List Bind → List ℕ → Bool
is_bound binds formal = has_word (map formal_of binds) formal

-- All names that a statement has.
abbrev pub names_in : StatementKind → List (List ℕ)
names_in (Inputs words) = words
names_in (Outputs words) = words
names_in (Clock words) = words
names_in (OneLatch latch) = latch.feed ∷ latch.output ∷ control_of latch.kind
names_in (OneTable table) = table.output ∷ table.inputs
names_in (OneSubcircuit c) = map actual_in c.binds

-- The names of a model have those of its statements.
abbrev pub is_closed : Model → Bool
is_closed m = list_all (λ s. list_all (has_word m.names) (names_in s.kind)) m.statements

-- A model alone, as a netlist: its lists, its latches and its tables, without its subcircuits.
abbrev pub alone : Model → Netlist
alone m = record { frame = record { model = m.name; inputs = inputs_of m; clocks = clocks_of m; outputs = outputs_of m; latches = latches_of m }; tables = tables_of m }

-- No formal is bound twice in a subcircuit.
abbrev pub binds_once : Subcircuit → Bool
binds_once c = distinct (map formal_of c.binds)

-- Nor in any of a model.
abbrev pub formals_once : Model → Bool
formals_once m = list_all binds_once (subcircuits_of m)
