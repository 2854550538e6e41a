use Rattle.syn_aiger_files.proofs.Reading.{too_great}
use Rattle.syn_aiger_files.proofs.numbers.value_of.Goals as goal

pub returns-then-value-gt-MAX_LITERAL : goal.returns-then-value-gt-MAX_LITERAL
returns-then-value-gt-MAX_LITERAL c = too_great c.args.word.now c.loop-digit.digit-index c.loop-digit.value c.loop-digit.invariant.left c.loop-digit-test.true c.if-value-gt-MAX_LITERAL.true
