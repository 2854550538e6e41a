use Rattle.std.proofs.Common.{◌≡◌, drop}
use Rattle.syn_words.specs.Flags.{with_flags}
use Rattle.syn_words.proofs.flags.with_flags.Given as goal

abbrev pub invariant-loop-letter : goal.invariant-loop-letter
invariant-loop-letter l = with_flags l.form l.given (drop l.letter-index l.letters) ≡ with_flags l.form l.fn.flags l.letters
