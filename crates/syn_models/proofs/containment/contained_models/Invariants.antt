use Rattle.std.proofs.Common.{◌≡◌, ◌++◌, true, drop, flat_map, length}
use Rattle.std.specs.List.{list_all}
use Rattle.syn_netlist.specs.Numbers.{all_below, words_at}
use Rattle.syn_netlist.specs.Words.{has_word}
use Rattle.syn_models.specs.Contained.{contained_by, names_of}
use Rattle.syn_models.proofs.containment.contained_models.Given as goal

abbrev pub invariant-loop-s : goal.invariant-loop-s
invariant-loop-s l = record {
  below : all_below (length l.file.models.now) l.numbers.items ≡ true;
  there : list_all (has_word (names_of l.file)) (flat_map contained_by (drop l.s-index l.m.statements)) ≡ true;
  words : words_at (names_of l.file) l.numbers.items ++ flat_map contained_by (drop l.s-index l.m.statements) ≡ flat_map contained_by l.m.statements;
}
