use Rattle.std.proofs.Common.{◌≡◌, ◌≤◌, ◌++◌, drop, length}
use Rattle.syn_growing.specs.Growing.{without_node}
use Rattle.syn_growing.proofs.leaves.without.Given as goal

abbrev pub invariant-loop-node : goal.invariant-loop-node
invariant-loop-node l = record {
  rest : l.rest.items ++ without_node l.leaf (drop l.node-index l.leaves) ≡ without_node l.leaf l.leaves;
  few : length l.rest.items ≤ l.node-index;
}
