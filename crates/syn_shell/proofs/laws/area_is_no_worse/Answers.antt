use Rattle.syn_shell.proofs.MappedGraphs.{area_is_no_worse}
use Rattle.syn_shell.proofs.laws.area_is_no_worse.Goals as goal

pub returns : goal.returns
returns c = area_is_no_worse
