use Rattle.std.proofs.Common.{◌≡◌, ◌++◌, true, drop, length, map}
use Rattle.syn_netlist.specs.Frames.{frame_in}
use Rattle.syn_netlist.specs.Numbers.{all_below, words_at}
use Rattle.syn_compare.specs.Comparing.{feed_of}
use Rattle.syn_compare.proofs.ordering.feed_numbers.Given as goal

abbrev pub invariant-loop-number : goal.invariant-loop-number
invariant-loop-number l = record {
  words : words_at l.frame.names l.numbers.items ++ map (feed_of (frame_in l.frame).latches) (words_at l.order.names (drop l.number-index l.named))
      ≡ map (feed_of (frame_in l.frame).latches) (words_at l.order.names l.named);
  below : all_below (length l.frame.names) l.numbers.items ≡ true;
}
