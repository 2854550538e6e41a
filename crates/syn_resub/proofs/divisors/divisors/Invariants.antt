use Rattle.std.proofs.Common.{◌≡◌, ◌-◌, ◌≤◌, length, take}
use Rattle.syn_resub.specs.Scanning.{IsScannedAt}
use Rattle.syn_resub.proofs.divisors.divisors.Given as goal

abbrev pub invariant-loop-leaf : goal.invariant-loop-leaf
invariant-loop-leaf l = record {
  within : l.leaf-index ≤ length l.leaves;
  rest : l.nodes.items ≡ take l.leaf-index l.leaves;
}

abbrev pub invariant-loop-i : goal.invariant-loop-i
invariant-loop-i l = IsScannedAt l.graph.rows l.leaves l.node l.i l.nodes.items

abbrev pub decreases-loop-i : goal.decreases-loop-i
decreases-loop-i l = 65 - l.i
