use Rattle.std.proofs.Common.{◌≡◌, drop}
use Rattle.syn_words.specs.Bytes.{bad_byte, bad_byte_at}
use Rattle.syn_words.proofs.words.bad_byte.Given as goal

abbrev pub invariant-loop-i : goal.invariant-loop-i
invariant-loop-i l = bad_byte_at l.held l.i (drop l.i l.text) ≡ bad_byte l.held l.text
