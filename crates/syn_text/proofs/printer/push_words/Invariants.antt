use Rattle.std.proofs.Common.{◌≡◌, ◌++◌, drop, length, true}
use Rattle.syn_netlist.specs.Numbers.{all_below, words_at}
use Rattle.syn_netlist.specs.TextLines.{blanked}
use Rattle.syn_text.proofs.printer.push_words.Given as goal

abbrev pub invariant-loop-n : goal.invariant-loop-n
invariant-loop-n l = record {
  left : l.out.items ++ blanked (words_at l.names (drop l.n-index l.numbers)) ≡ l.initial.out.items ++ blanked (words_at l.names l.numbers);
  below : all_below (length l.names) (drop l.n-index l.numbers) ≡ true;
}
