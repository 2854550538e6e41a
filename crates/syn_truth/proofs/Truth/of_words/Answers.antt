use Rattle.std.proofs.Common.{sym, ◌∙◌, arith}
use Rattle.syn_truth.proofs.Halves.{only_word}
use Rattle.syn_truth.proofs.Truth.of_words.Goals as goal

pub returns-then-vars-le-WORD_VARS-clause-values : goal.returns-then-vars-le-WORD_VARS-clause-values
returns-then-vars-le-WORD_VARS-clause-values c = λ xs e.
    c.of_word.ensures.values xs e ∙ sym (only_word c.args.low c.args.high xs (omega (arith, e)))
