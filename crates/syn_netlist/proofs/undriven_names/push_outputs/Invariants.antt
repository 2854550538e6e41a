use Rattle.std.proofs.Common.{◌≡◌, ◌++◌, map, drop}
use Rattle.syn_netlist.specs.Walk.{table_output}
use Rattle.syn_netlist.proofs.undriven_names.push_outputs.Given as goal

abbrev pub invariant-loop-table : goal.invariant-loop-table
invariant-loop-table l = l.all.items ++ map table_output (drop l.table-index l.tables) ≡ l.initial.all.items ++ map table_output l.tables
