use Rattle.syn_commit_laws.proofs.Goings.{freeing_begins, freeing_goes_on, freeing_ends, freed_tell_gain, commits_free}
use Rattle.syn_commit_laws.proofs.freeing.Goals as goal

pub returns-clause-begins : goal.returns-clause-begins
returns-clause-begins c = freeing_begins

pub returns-clause-goes_on : goal.returns-clause-goes_on
returns-clause-goes_on c = freeing_goes_on

pub returns-clause-ends : goal.returns-clause-ends
returns-clause-ends c = freeing_ends

pub returns-clause-gain : goal.returns-clause-gain
returns-clause-gain c = freed_tell_gain

pub returns-clause-lists : goal.returns-clause-lists
returns-clause-lists c = commits_free
