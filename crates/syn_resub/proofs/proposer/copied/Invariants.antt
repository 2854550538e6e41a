use Rattle.std.proofs.Common.{◌≡◌, ◌++◌, drop}
use Rattle.syn_resub.proofs.proposer.copied.Given as goal

abbrev pub invariant-loop-leaf : goal.invariant-loop-leaf
invariant-loop-leaf l = l.copy.items ++ drop l.leaf-index l.leaves ≡ l.leaves
