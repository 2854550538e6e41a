use Rattle.std.proofs.Common.{false, ◌&&◌, get_or, take, sym, ap₂, ◌∙◌}
use Rattle.syn_truth.proofs.Halves.{by_word, first_fits, and_words}
use Rattle.syn_truth.proofs.Truth.and.Goals as goal

pub returns-clause-values : goal.returns-clause-values
returns-clause-values c = λ xs e.
    by_word _ xs e
    ∙ and_words (take 7 xs) (first_fits xs) (get_or xs 7 false) c.args.self.low c.args.self.high c.args.other.low c.args.other.high
    ∙ sym (ap₂ (λ a b. a && b) (by_word c.args.self xs e) (by_word c.args.other xs (e ∙ c.requires)))
