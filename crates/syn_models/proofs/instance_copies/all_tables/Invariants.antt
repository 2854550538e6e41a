use Rattle.std.proofs.Common.{◌≡◌, ◌++◌, ℕ, List, true, drop, flat_map, map}
use Rattle.std.specs.List.{AllByRecursion}
use Rattle.syn_netlist.specs.Tables.{table_in, tables_below}
use Rattle.syn_models.specs.Calling.{BelowPart, IsMapped, SpelledPart, tables_by}
use Rattle.syn_models.specs.Walking.{part_in}
use Rattle.syn_models.proofs.instance_copies.all_tables.Given as goal

abbrev pub invariant-loop-part : goal.invariant-loop-part
invariant-loop-part l = record {
  mapped : AllByRecursion (IsMapped l.maps) (drop l.part-index l.parts);
  each : (all : List (List ℕ)) (calls : ℕ → List ℕ → List ℕ) → AllByRecursion (SpelledPart all calls l.maps) l.parts
      → AllByRecursion (SpelledPart all calls l.maps) (drop l.part-index l.parts) × (map (table_in all) l.tables.items ++ flat_map (tables_by calls) (map part_in (drop l.part-index l.parts)) ≡ flat_map (tables_by calls) (map part_in l.parts));
  below : (count : ℕ) → AllByRecursion (BelowPart count l.maps) l.parts → AllByRecursion (BelowPart count l.maps) (drop l.part-index l.parts) × (tables_below count l.tables.items ≡ true);
}
