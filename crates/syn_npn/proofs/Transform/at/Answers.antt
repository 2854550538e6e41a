use Rattle.std.proofs.Common.{arith, ap, ◌∙◌}
use Rattle.syn_npn.specs.Images.{is_permutation}
use Rattle.syn_npn.proofs.Permuting.{permutation_at-permutes}
use Rattle.syn_npn.proofs.Transform.at.Goals as goal

pub invariant_of-result-clause-permutes : goal.invariant_of-result-clause-permutes
invariant_of-result-clause-permutes c = ap is_permutation c.permutation.ensures ∙ permutation_at-permutes _ (omega arith)
