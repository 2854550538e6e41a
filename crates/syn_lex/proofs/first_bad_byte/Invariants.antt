use Rattle.std.proofs.Common.{◌≡◌, ◌+◌, length}
use Rattle.syn_lex.specs.Lines.{bad_byte, bad_byte_of_lines, physical_lines}
use Rattle.syn_lex.proofs.first_bad_byte.Given as goal

abbrev pub invariant-loop-rest : goal.invariant-loop-rest
invariant-loop-rest l = record {
  rest : bad_byte_of_lines l.at (physical_lines l.rest) ≡ bad_byte l.bytes;
  sizes : l.at + length l.rest ≡ length l.bytes;
}

abbrev pub decreases-loop-rest : goal.decreases-loop-rest
decreases-loop-rest l = length l.rest
