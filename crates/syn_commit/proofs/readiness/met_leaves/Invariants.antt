use Rattle.std.proofs.Common.{◌≡◌, ◌++◌, ◌≤◌, drop, length}
use Rattle.std.specs.List.{filter}
use Rattle.syn_decide.specs.Walk.{is_met}
use Rattle.syn_commit.proofs.readiness.met_leaves.Given as goal

abbrev pub invariant-loop-leaf : goal.invariant-loop-leaf
invariant-loop-leaf l = record {
  rest : l.met.items ++ filter (is_met l.deciding.inner) (drop l.leaf-index l.leaves) ≡ filter (is_met l.deciding.inner) l.leaves;
  few : length l.met.items ≤ l.leaf-index;
}
