use Rattle.std.proofs.Common.{◌≡◌}
use Rattle.syn_words.specs.Texts.{echoed, echoed_after}
use Rattle.syn_words.proofs.texts.echoed.Given as goal

abbrev pub invariant-loop-word : goal.invariant-loop-word
invariant-loop-word l = echoed_after l.line.items l.word-iterator ≡ echoed l.fn.words
