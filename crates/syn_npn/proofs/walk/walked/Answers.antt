use Rattle.std.proofs.Common.{refl}
use Rattle.syn_npn.specs.Walk.{walk_at}
use Rattle.syn_npn.proofs.walk.walked.Goals as goal

pub returns-clause-place : goal.returns-clause-place
unfolding walk_at
returns-clause-place c = refl
