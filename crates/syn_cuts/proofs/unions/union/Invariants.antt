use Rattle.std.proofs.Common.{◌≡◌, ◌-◌, ◌≤◌, ◌++◌}
use Rattle.arrayvec.specs.ArrayVec.{array_vec_len}
use Rattle.syn_cuts.specs.Cuts.{union}
use Rattle.syn_cuts.proofs.unions.union.Given as goal

abbrev pub invariant-loop-node : goal.invariant-loop-node
invariant-loop-node l = record {
  whole : l.found.items ++ union l.left l.right ≡ union l.fn.left l.fn.right;
  few : array_vec_len l.found ≤ l.k;
}

abbrev pub decreases-loop-node : goal.decreases-loop-node
decreases-loop-node l = l.k - array_vec_len l.found
