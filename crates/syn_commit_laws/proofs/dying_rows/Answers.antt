use Rattle.syn_commit_laws.proofs.Deaths.{dying_are_explained, new_rows_spare}
use Rattle.syn_commit_laws.proofs.dying_rows.Goals as goal

pub returns-clause-explained : goal.returns-clause-explained
returns-clause-explained c = dying_are_explained

pub returns-clause-spared : goal.returns-clause-spared
returns-clause-spared c = new_rows_spare
