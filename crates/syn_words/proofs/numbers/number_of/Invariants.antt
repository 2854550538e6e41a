use Rattle.std.proofs.Common.{◌≡◌, true, drop}
use Rattle.std.specs.List.{list_all}
use Rattle.syn_words.specs.Numbers.{is_digit, number_after, number_of}
use Rattle.syn_words.proofs.numbers.number_of.Given as goal

abbrev pub invariant-loop-digit : goal.invariant-loop-digit
invariant-loop-digit l = record {
  number : number_after l.number (drop l.digit-index l.digits) ≡ number_of l.digits;
  digits : list_all is_digit (drop l.digit-index l.digits) ≡ true;
}
