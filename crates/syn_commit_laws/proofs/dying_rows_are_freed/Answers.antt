use Rattle.syn_commit_laws.proofs.Cored as Cored
use Rattle.syn_commit_laws.proofs.dying_rows_are_freed.Goals as goal

pub returns-clause-stores : goal.returns-clause-stores
returns-clause-stores c = Cored.dying_rows_are_freed

pub returns-clause-whole : goal.returns-clause-whole
returns-clause-whole c = Cored.committed_rows_are_freed
