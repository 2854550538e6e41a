use Rattle.std.proofs.Common.{◌≡◌, ◌++◌, true, drop, length}
use Rattle.syn_netlist.specs.Numbers.{all_below, words_at}
use Rattle.syn_compare.proofs.ordering.output_numbers.Given as goal

abbrev pub invariant-loop-output : goal.invariant-loop-output
invariant-loop-output l = record {
  words : words_at l.frame.names l.numbers.items ++ words_at l.order.names (drop l.output-index l.order.outputs) ≡ words_at l.order.names l.order.outputs;
  below : all_below (length l.frame.names) l.numbers.items ≡ true;
}
