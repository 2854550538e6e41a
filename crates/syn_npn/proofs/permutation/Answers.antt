use Rattle.syn_npn.specs.Permutations.{permutation_at}
use Rattle.syn_npn.proofs.permutation.Goals as goal
use Rattle.std.proofs.Common.{refl}

pub returns : goal.returns
unfolding permutation_at
returns c = refl
