use Rattle.std.proofs.Common.{◌≡◌, ◌+◌, ◌<◌, ◌≤◌, ◌^◌, length, filter}
use Rattle.syn_lex.specs.Lines.{has_words, joined_lines, physical_lines}
use Rattle.syn_lex.proofs.next_from.Given as goal

abbrev pub invariant-loop-rest : goal.invariant-loop-rest
invariant-loop-rest l = record {
  rest : filter has_words (joined_lines l.number l.at (physical_lines l.rest)) ≡ filter has_words (joined_lines l.first l.start (physical_lines l.text));
  numbers : l.number + length l.rest ≤ 2 ^ 32;
  offsets : l.at + length l.rest < 2 ^ 32;
}

abbrev pub decreases-loop-rest : goal.decreases-loop-rest
decreases-loop-rest l = length l.rest
