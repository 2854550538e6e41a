-- A file's only model, without subcircuits.
use Rattle.std.specs.Prelude.{Bool, true, false, List, [], ◌∷◌}
use Rattle.std.specs.List.{list_all}
use Rattle.syn_models.specs.declared.hierarchy.Model.{Model}
use Rattle.syn_models.specs.declared.hierarchy.Statement.{Statement}
use Rattle.syn_models.specs.declared.hierarchy.StatementKind.{StatementKind}
use Rattle.syn_models.specs.declared.hierarchy.StatementKind.TheVariants as kinds
use Rattle.syn_netlist.specs.declared.Latch.{Latch}
use Rattle.syn_netlist.specs.declared.tables.Table.{Table}

-- the statement is no subcircuit
abbrev pub is_plain_kind : StatementKind → Bool
is_plain_kind (kinds.Subckt c) = false
is_plain_kind kind = true

abbrev pub is_plain : Statement → Bool
is_plain s = is_plain_kind s.kind

-- the models are only one, and none of its statements is a subcircuit
abbrev pub is_alone : List Model → Bool
is_alone [] = false
is_alone (main ∷ []) = list_all is_plain main.statements
is_alone (main ∷ other ∷ others) = false

-- the latch or the table of a statement
abbrev pub latch_in_kind : StatementKind → List Latch
latch_in_kind (kinds.Latch latch) = latch ∷ []
latch_in_kind kind = []

abbrev pub table_in_kind : StatementKind → List Table
table_in_kind (kinds.Table table) = table ∷ []
table_in_kind kind = []

abbrev pub latches_in : Statement → List Latch
latches_in s = latch_in_kind s.kind

abbrev pub tables_in : Statement → List Table
tables_in s = table_in_kind s.kind
