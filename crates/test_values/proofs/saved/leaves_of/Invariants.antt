use Rattle.std.proofs.Common.{◌≡◌, ◌++◌, drop}
use Rattle.test_values.proofs.saved.leaves_of.Given as goal

abbrev pub invariant-loop-node : goal.invariant-loop-node
invariant-loop-node l = l.leaves.items ++ drop l.node-index l.nodes ≡ l.nodes
