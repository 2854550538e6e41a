use Rattle.std.proofs.Common.{false, cond, get_or, take, bit_and, ap, ◌∙◌, arith}
use Rattle.syn_truth.specs.Words.{value_in}
use Rattle.syn_truth.proofs.Halves.{by_word, masked_word}
use Rattle.syn_cones.proofs.words.table_of.Goals as goal

pub returns-clause-values : goal.returns-clause-values
returns-clause-values c = λ xs e.
    by_word _ xs e
    ∙ ap (λ low. value_in (cond (get_or xs 7 false) 0 low) (take 7 xs)) (c.from.ensures ∙ ap (bit_and c.args.word) c.ones.ensures)
    ∙ masked_word c.args.word 0 c.args.vars xs (omega arith) e
