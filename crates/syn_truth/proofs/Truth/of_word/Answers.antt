use Rattle.std.proofs.Common.{false, cond, get_or, take, bit_and, ap, ◌∙◌}
use Rattle.syn_truth.specs.Words.{value_in}
use Rattle.syn_truth.proofs.Halves.{by_word, masked_word}
use Rattle.syn_truth.proofs.Truth.of_word.Goals as goal

pub returns-clause-values : goal.returns-clause-values
returns-clause-values c = λ xs e.
    by_word _ xs e
    ∙ ap (λ ones. value_in (cond (get_or xs 7 false) 0 (bit_and c.args.word ones)) (take 7 xs)) c.ones.ensures
    ∙ masked_word c.args.word 0 c.args.vars xs c.requires e
