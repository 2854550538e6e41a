use Rattle.std.proofs.Common.{◌≡◌, ◌++◌, true, length, map, drop}
use Rattle.std.specs.List.{list_all}
use Rattle.syn_netlist.specs.Tables.{table_in, tables_below}
use Rattle.syn_aiger.specs.Placing.{has_sides}
use Rattle.syn_aiger.specs.Values.{and_table, and_tables, defined_variables, variable_word}
use Rattle.syn_aiger.proofs.circles.and_tables.Given as goal

abbrev pub invariant-loop-k : goal.invariant-loop-k
invariant-loop-k l = record {
  below : tables_below (length (defined_variables l.file.aig)) l.tables.items ≡ true;
  tables : map (table_in (map variable_word (defined_variables l.file.aig))) l.tables.items ++ map and_table (drop l.k l.file.aig.ands) ≡ and_tables l.file.aig;
  sides : list_all (has_sides l.file.aig) (drop l.k l.file.aig.ands) ≡ true;
}
