use Rattle.std.proofs.Common.{ap, nat_eq}
use Rattle.syn_truth.proofs.Operations.{chosen_at}
use Rattle.syn_truth.proofs.words.chosen.Goals as goal

pub returns : goal.returns
returns c = λ xs within few. ap (λ b. nat_eq b 1) (chosen_at c.args.where_false c.variable-mask.result c.args.i xs c.variable-mask.ensures within few c.args.where_true)
