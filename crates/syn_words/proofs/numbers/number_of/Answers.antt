use Rattle.std.proofs.Common.{arith}
use Rattle.syn_words.proofs.Values.{too_great}
use Rattle.syn_words.proofs.numbers.number_of.Goals as goal

pub returns-in_default-clause-greater : goal.returns-in_default-clause-greater
returns-in_default-clause-greater c =
    too_great c.loop-digit.number c.loop-digit.digit-index c.args.digits.now c.loop-digit-test.true c.loop-digit.invariant.number (omega arith)
