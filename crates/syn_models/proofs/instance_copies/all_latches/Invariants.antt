use Rattle.std.proofs.Common.{◌≡◌, ◌++◌, ℕ, List, true, drop, flat_map, map}
use Rattle.std.specs.List.{AllByRecursion}
use Rattle.syn_netlist.specs.Kept.{latch_in, latches_below}
use Rattle.syn_models.specs.Calling.{BelowPart, IsMapped, SpelledPart, latches_by}
use Rattle.syn_models.specs.Walking.{part_in}
use Rattle.syn_models.proofs.instance_copies.all_latches.Given as goal

abbrev pub invariant-loop-part : goal.invariant-loop-part
invariant-loop-part l = record {
  mapped : AllByRecursion (IsMapped l.maps) (drop l.part-index l.parts);
  each : (all : List (List ℕ)) (calls : ℕ → List ℕ → List ℕ) → AllByRecursion (SpelledPart all calls l.maps) l.parts
      → AllByRecursion (SpelledPart all calls l.maps) (drop l.part-index l.parts) × (map (latch_in all) l.latches.items ++ flat_map (latches_by calls) (map part_in (drop l.part-index l.parts)) ≡ flat_map (latches_by calls) (map part_in l.parts));
  below : (count : ℕ) → AllByRecursion (BelowPart count l.maps) l.parts → AllByRecursion (BelowPart count l.maps) (drop l.part-index l.parts) × (latches_below count l.latches.items ≡ true);
}
