use Rattle.std.specs.List.{list_all}
use Rattle.std.proofs.Common.{◌≡◌, ◌≤◌, drop}
use Rattle.syn_aiger_files.specs.Texts.{is_digit, most_literal, value_from}
use Rattle.syn_aiger_files.proofs.numbers.value_of.Given as goal

abbrev pub invariant-loop-digit : goal.invariant-loop-digit
invariant-loop-digit l = record {
  digits : list_all is_digit (drop l.digit-index l.word) ≡ list_all is_digit l.word;
  left : value_from l.value (drop l.digit-index l.word) ≡ value_from 0 l.word;
  small : l.value ≤ most_literal;
}
