use Rattle.std.proofs.Common.{◌∙◌}
use Rattle.std.specs.List.{swap}
use Rattle.syn_truth.proofs.Halves.{by_words, swap_stays}
use Rattle.syn_truth.proofs.Truth.swap_rising.Goals as goal

pub returns-then-high-lt-WORD_VARS-clause-values : goal.returns-then-high-lt-WORD_VARS-clause-values
returns-then-high-lt-WORD_VARS-clause-values c = λ xs e.
    c.of_words.ensures.values xs e
    ∙ by_words c.args.self c.args.high (λ xs. swap xs c.args.low c.args.high) c.requires.within c.if-high-lt-WORD_VARS.true
    (swap_stays c.args.self.vars c.args.low c.args.high c.requires.rising c.if-high-lt-WORD_VARS.true c.requires.within)
    c.swapped-low_word.result c.swapped-high_word.result c.swapped-low_word.ensures c.swapped-high_word.ensures xs e
