use Rattle.std.proofs.Common.{◌≡◌, true, ◌++◌, drop, length}
use Rattle.syn_netlist.specs.Numbers.{all_below, words_at}
use Rattle.syn_netlist.proofs.frame_names.Chosen.numbers.Given as goal

abbrev pub invariant-loop-number : goal.invariant-loop-number
invariant-loop-number l = record {
  words : words_at l.self.names l.found.items ++ words_at l.self.all.now (drop l.number-index l.numbers) ≡ words_at l.self.all.now l.numbers;
  below : all_below (length l.self.names) l.found.items ≡ true;
}
