use Rattle.syn_truth.proofs.Each.{same_table}
use Rattle.syn_truth.proofs.laws.one_table.Goals as goal

pub returns : goal.returns
returns c = same_table
