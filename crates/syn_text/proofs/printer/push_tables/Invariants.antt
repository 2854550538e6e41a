use Rattle.std.proofs.Common.{◌≡◌, ◌++◌, flat_map, map, drop, length, true}
use Rattle.syn_netlist.specs.Tables.{table_in, tables_below}
use Rattle.syn_text.specs.Printed.{table_lines}
use Rattle.syn_text.proofs.printer.push_tables.Given as goal

abbrev pub invariant-loop-table : goal.invariant-loop-table
invariant-loop-table l = record {
  left : l.out.items ++ flat_map table_lines (map (table_in l.names) (drop l.table-index l.tables)) ≡ l.initial.out.items ++ flat_map table_lines (map (table_in l.names) l.tables);
  below : tables_below (length l.names) (drop l.table-index l.tables) ≡ true;
}
