use Rattle.syn_paths.proofs.OneCut.{one_least_cut}
use Rattle.syn_paths.proofs.laws.one_least_cut.Goals as goal

pub returns : goal.returns
returns c = one_least_cut
