use Rattle.std.proofs.Common.{◌≡◌, ◌+◌, ◌-◌, ◌<◌, ◌≤◌, length, true}
use Rattle.syn_netlist.specs.Numbers.{words_at, all_below, Grows}
use Rattle.syn_network.specs.Spelling.{free_names}
use Rattle.syn_text.proofs.graph_netlist.add_inner_names.Given as goal

abbrev pub invariant-seek : goal.invariant-seek
invariant-seek l = record {
  words : words_at l.names l.numbers.items ≡ free_names (words_at l.taken.names.now l.taken.numbers.items) (l.k - 1);
  below : all_below (length l.names) l.numbers.items ≡ true;
  grows : Grows l.initial.names l.names;
  few : length l.names ≤ length l.initial.names + length l.numbers.items;
  positive : 0 < l.k;
  most : length l.numbers.items ≤ l.count;
  sought : l.k - 1 ≤ l.count + length l.taken.numbers.items;
}

abbrev pub decreases-seek : goal.decreases-seek
decreases-seek l = l.count + length l.taken.numbers.items + 1 - l.k
