use Rattle.std.proofs.Common.{◌≡◌, flat_map, take}
use Rattle.syn_netlist.specs.Walk.{table_inputs}
use Rattle.syn_gen.proofs.tables.signals_read.Given as goal

abbrev pub invariant-loop-table : goal.invariant-loop-table
invariant-loop-table l = l.signals.items ≡ flat_map table_inputs (take l.table-index l.tables)
