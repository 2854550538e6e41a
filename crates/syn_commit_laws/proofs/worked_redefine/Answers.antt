use Rattle.syn_commit_laws.proofs.WorkedRows.{worked_redefine}
use Rattle.syn_commit_laws.proofs.worked_redefine.Goals as goal

pub returns : goal.returns
returns c = worked_redefine
