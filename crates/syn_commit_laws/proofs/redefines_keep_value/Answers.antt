use Rattle.syn_commit_laws.proofs.Keeping.{met_leaves_are_few, redefines_keep_value}
use Rattle.syn_commit_laws.proofs.redefines_keep_value.Goals as goal

pub returns-clause-value : goal.returns-clause-value
returns-clause-value c = redefines_keep_value

pub returns-clause-few : goal.returns-clause-few
returns-clause-few c = met_leaves_are_few
