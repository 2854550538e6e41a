use Rattle.std.proofs.Common.{◌≡◌, ◌++◌, true, drop, length, map}
use Rattle.syn_netlist.specs.Kept.{latch_in}
use Rattle.syn_netlist.specs.Lists.{latch_output}
use Rattle.syn_netlist.specs.Numbers.{all_below, words_at}
use Rattle.syn_compare.proofs.matching.latch_numbers.Given as goal

abbrev pub invariant-loop-latch : goal.invariant-loop-latch
invariant-loop-latch l = record {
  words : words_at l.frame.names l.numbers.items ++ map latch_output (map (latch_in l.frame.names) (drop l.latch-index l.frame.latches)) ≡ map latch_output (map (latch_in l.frame.names) l.frame.latches);
  below : all_below (length l.frame.names) l.numbers.items ≡ true;
}
