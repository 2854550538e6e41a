use Rattle.syn_commit_laws.proofs.Goings.{telling_begins, telling_goes_on, differences_tell, lists_tell, redefines_append, frees_add_none, redefines_add_one}
use Rattle.syn_commit_laws.proofs.differences.Goals as goal

pub returns-clause-begins : goal.returns-clause-begins
returns-clause-begins c = telling_begins

pub returns-clause-goes_on : goal.returns-clause-goes_on
returns-clause-goes_on c = telling_goes_on

pub returns-clause-tells : goal.returns-clause-tells
returns-clause-tells c = differences_tell

pub returns-clause-lists : goal.returns-clause-lists
returns-clause-lists c = lists_tell

pub returns-clause-redefines : goal.returns-clause-redefines
returns-clause-redefines c = redefines_append

pub returns-clause-free : goal.returns-clause-free
returns-clause-free c = frees_add_none

pub returns-clause-redefine : goal.returns-clause-redefine
returns-clause-redefine c = redefines_add_one
