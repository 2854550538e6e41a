use Rattle.std.proofs.Common.{◌≡◌, ◌++◌, drop}
use Rattle.syn_gain.proofs.owned_proposals.owned.Given as goal

abbrev pub invariant-loop-leaf : goal.invariant-loop-leaf
invariant-loop-leaf l = l.leaves.items ++ drop l.leaf-index l.candidate.leaves.now ≡ l.candidate.leaves.now
