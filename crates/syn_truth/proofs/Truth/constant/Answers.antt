use Rattle.std.proofs.Common.{false, get_or, take, sym, ap, ◌∙◌}
use Rattle.syn_truth.specs.Words.{value_in}
use Rattle.syn_truth.proofs.Halves.{one_word, first_fits, all_true, all_false}
use Rattle.syn_truth.proofs.Truth.constant.Goals as goal
use Rattle.syn_truth.proofs.Truth.constant.Goals.{then-value, else-value}

pub returns-clause-values : goal.returns-clause-values
returns-clause-values c = λ xs e.
    c.of_words.ensures.values xs e
    ∙ ap (λ w. value_in w (take 7 xs)) (one_word (get_or xs 7 false) c.if-value.word)
    ∙ elim c.if-value.branch [
      | then-value w ↦ ap (λ n. value_in n (take 7 xs)) w.word-is ∙ all_true (take 7 xs) (first_fits xs) ∙ sym w.if-value.true
      | else-value w ↦ ap (λ n. value_in n (take 7 xs)) w.word-is ∙ all_false (take 7 xs) (first_fits xs) ∙ sym w.if-value.false
    ]
