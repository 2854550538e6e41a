use Rattle.syn_command_files.proofs.Working.{worked}
use Rattle.syn_command_files.proofs.laws.worked_loads.Goals as goal

pub returns : goal.returns
returns c = worked
