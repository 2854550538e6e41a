-- What statements read, by numbers of names.
use Rattle.std.specs.Prelude.{ℕ, List, [], map, filter, Option, Some, None}
use Rattle.syn_netlist.specs.Marks.{read_numbers}
use Rattle.syn_models.specs.declared.hierarchy.Bind.{Bind}
use Rattle.syn_models.specs.declared.hierarchy.Statement.{Statement}
use Rattle.syn_models.specs.declared.hierarchy.StatementKind.{StatementKind}
use Rattle.syn_models.specs.declared.hierarchy.StatementKind.TheVariants as kinds
use Rattle.syn_models.specs.Kept.{actual_number}
use Rattle.syn_models.specs.Models.{Model, is_reading, model_named}

-- the numbers of the actuals whose formals read, where the model that is contained is there
abbrev pub bound_numbers : List Bind → Option Model → List ℕ
bound_numbers binds None = []
bound_numbers binds (Some m) = map actual_number (filter (λ b. is_reading m b.formal) binds)

-- the numbers of the names that a statement reads, in word order
abbrev pub numbers_read : List Model → StatementKind → List ℕ
numbers_read models (kinds.Outputs numbers) = numbers
numbers_read models (kinds.Latch latch) = read_numbers latch
numbers_read models (kinds.Table table) = table.inputs
numbers_read models (kinds.Subckt c) = bound_numbers c.binds (model_named models c.model)
numbers_read models kind = []

abbrev pub read_in : List Model → Statement → List ℕ
read_in models s = numbers_read models s.kind
