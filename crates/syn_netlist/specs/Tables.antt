-- The table in words that a table by numbers stands for.
use Rattle.std.specs.Prelude.{ℕ, ◌&&◌, nat_lt, Bool, List}
use Rattle.std.specs.List.{list_all}
use Rattle.syn_netlist.specs.declared.tables.Table.{Table}
use Rattle.syn_netlist.specs.Lists as lists
use Rattle.syn_netlist.specs.Numbers.{word_at, words_at, all_below}

-- each number stands for the word at its place in the names
abbrev pub table_in : List (List ℕ) → Table → lists.Table
table_in names table = record { inputs = words_at names table.inputs; output = word_at names table.output; rows = table.rows; on = table.on }

-- all names of the tables are below the count
abbrev pub tables_below : ℕ → List Table → Bool
tables_below count tables = list_all (λ table. nat_lt table.output count && all_below count table.inputs) tables
