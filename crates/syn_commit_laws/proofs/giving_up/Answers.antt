use Rattle.syn_commit_laws.proofs.Giving.{giving_up_begins, giving_up_goes_on, given_up_tells, early_tells, roots_are_out}
use Rattle.syn_commit_laws.proofs.giving_up.Goals as goal

pub returns-clause-begins : goal.returns-clause-begins
returns-clause-begins c = giving_up_begins

pub returns-clause-goes_on : goal.returns-clause-goes_on
returns-clause-goes_on c = giving_up_goes_on

pub returns-clause-tells : goal.returns-clause-tells
returns-clause-tells c = given_up_tells

pub returns-clause-roots : goal.returns-clause-roots
returns-clause-roots c = roots_are_out

pub returns-clause-early : goal.returns-clause-early
returns-clause-early c = early_tells
