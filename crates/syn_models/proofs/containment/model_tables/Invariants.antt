use Rattle.std.proofs.Common.{◌≡◌, true, map, length, take}
use Rattle.syn_netlist.specs.Tables.{table_in, tables_below}
use Rattle.syn_models.specs.Contained.{names_of}
use Rattle.syn_models.specs.Files.{all_in}
use Rattle.syn_models.specs.FlatFaults.{contents}
use Rattle.syn_models.proofs.containment.model_tables.Given as goal

abbrev pub invariant-loop-i : goal.invariant-loop-i
invariant-loop-i l = record {
  below : tables_below (length l.file.models.now) l.tables.items ≡ true;
  tables : map (table_in (names_of l.file)) l.tables.items ≡ take l.i (map contents (all_in l.file));
}
