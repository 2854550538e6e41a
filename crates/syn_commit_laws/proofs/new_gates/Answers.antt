use Rattle.syn_commit_laws.proofs.Gains.{done_tells_gain, new_gates_are_stored, stored_rows_spare}
use Rattle.syn_commit_laws.proofs.new_gates.Goals as goal

pub returns-clause-gain : goal.returns-clause-gain
returns-clause-gain c = done_tells_gain

pub returns-clause-stored : goal.returns-clause-stored
returns-clause-stored c = new_gates_are_stored

pub returns-clause-spare : goal.returns-clause-spare
returns-clause-spare c = stored_rows_spare
