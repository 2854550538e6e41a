use Rattle.std.proofs.Common.{◌≡◌, ℕ, true, List}
use Rattle.syn_netlist.specs.Numbers.{all_below, words_at}
use Rattle.syn_gen.specs.Generated.{signals}
use Rattle.syn_gen.specs.Signals.{AreSignals}
use Rattle.syn_gen.proofs.names.input_numbers.Given as goal

abbrev pub invariant-loop-number : goal.invariant-loop-number
invariant-loop-number l = record {
  words : (names : List (List ℕ)) → AreSignals 16 names → words_at names l.numbers.items ≡ signals l.number;
  below : all_below 16 l.numbers.items ≡ true;
}
