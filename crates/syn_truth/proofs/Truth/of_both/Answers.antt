use Rattle.syn_truth.proofs.Halves.{by_word}
use Rattle.syn_truth.proofs.Truth.of_both.Goals as goal

pub returns-clause-values : goal.returns-clause-values
returns-clause-values c = λ xs e. by_word _ xs e
