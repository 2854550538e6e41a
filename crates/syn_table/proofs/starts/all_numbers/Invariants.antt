use Rattle.std.proofs.Common.{◌≡◌, length}
use Rattle.syn_table.specs.Numbers.{numbers_below}
use Rattle.syn_table.proofs.starts.all_numbers.Given as goal

abbrev pub invariant-loop-number : goal.invariant-loop-number
invariant-loop-number l = record {
  list : l.numbers.items ≡ numbers_below l.number;
  count : length l.numbers.items ≡ l.number;
}
