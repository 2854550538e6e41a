use Rattle.std.proofs.Common.{◌≡◌, ◌++◌, true, drop, flat_map, length, map}
use Rattle.std.specs.List.{list_all}
use Rattle.syn_netlist.specs.Numbers.{all_below, words_at}
use Rattle.syn_models.specs.Contained.{contained_by, names_of}
use Rattle.syn_models.proofs.containment.all_contained.Given as goal

abbrev pub invariant-loop-m : goal.invariant-loop-m
invariant-loop-m l = record {
  size : length l.all.items ≡ l.m-index;
  below : list_all (all_below (length l.file.models.now)) l.all.items ≡ true;
  words : map (words_at (names_of l.file)) l.all.items ++ map (λ m. flat_map contained_by m.statements) (drop l.m-index l.file.models.now) ≡ map (λ m. flat_map contained_by m.statements) l.file.models.now;
}
