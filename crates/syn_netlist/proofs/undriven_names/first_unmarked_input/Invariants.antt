use Rattle.std.proofs.Common.{◌≡◌, drop, find, flat_map}
use Rattle.syn_netlist.specs.Walk.{is_unmarked, table_inputs}
use Rattle.syn_netlist.proofs.undriven_names.first_unmarked_input.Given as goal

abbrev pub invariant-loop-table : goal.invariant-loop-table
invariant-loop-table l = find (is_unmarked l.marks) (flat_map table_inputs (drop l.table-index l.tables)) ≡ find (is_unmarked l.marks) (flat_map table_inputs l.tables)
