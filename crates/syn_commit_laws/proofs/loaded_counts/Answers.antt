use Rattle.syn_commit_laws.proofs.Deaths.{counts_load, loads_tell, dying_are_doomed, free_nodes_live}
use Rattle.syn_commit_laws.proofs.loaded_counts.Goals as goal

pub returns-clause-one : goal.returns-clause-one
returns-clause-one c = counts_load

pub returns-clause-loads : goal.returns-clause-loads
returns-clause-loads c = loads_tell

pub returns-clause-doomed : goal.returns-clause-doomed
returns-clause-doomed c = dying_are_doomed

pub returns-clause-live : goal.returns-clause-live
returns-clause-live c = free_nodes_live
