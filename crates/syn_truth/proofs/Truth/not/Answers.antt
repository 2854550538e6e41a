use Rattle.std.proofs.Common.{false, not, get_or, take, sym, ap, ◌∙◌}
use Rattle.syn_truth.proofs.Halves.{by_word, first_fits, not_words, low_fits, high_fits}
use Rattle.syn_truth.proofs.Truth.not.Goals as goal

pub returns-clause-values : goal.returns-clause-values
returns-clause-values c = λ xs e.
    c.of_words.ensures.values xs e
    ∙ not_words (take 7 xs) (first_fits xs) (get_or xs 7 false) c.args.self.low c.args.self.high (low_fits c.args.self) (high_fits c.args.self)
    ∙ sym (ap not (by_word c.args.self xs e))
