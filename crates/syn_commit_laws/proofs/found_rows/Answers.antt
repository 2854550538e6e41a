use Rattle.syn_commit_laws.proofs.Deaths.{finding_begins, finding_goes_on, finding_ends}
use Rattle.syn_commit_laws.proofs.found_rows.Goals as goal

pub returns-clause-begins : goal.returns-clause-begins
returns-clause-begins c = finding_begins

pub returns-clause-goes_on : goal.returns-clause-goes_on
returns-clause-goes_on c = finding_goes_on

pub returns-clause-ends : goal.returns-clause-ends
returns-clause-ends c = finding_ends
