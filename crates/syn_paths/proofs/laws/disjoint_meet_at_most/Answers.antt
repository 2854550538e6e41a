use Rattle.syn_paths.proofs.Disjoint.{disjoint_meet}
use Rattle.syn_paths.proofs.laws.disjoint_meet_at_most.Goals as goal

pub returns : goal.returns
returns c = disjoint_meet
