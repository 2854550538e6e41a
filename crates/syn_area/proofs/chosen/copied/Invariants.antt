use Rattle.std.proofs.Common.{◌≡◌, ◌++◌, drop}
use Rattle.arrayvec.specs.ArrayVec.{array_vec_len}
use Rattle.syn_area.proofs.chosen.copied.Given as goal

abbrev pub invariant-loop-leaf : goal.invariant-loop-leaf
invariant-loop-leaf l = record {
  left : l.cut.items ++ drop l.leaf-index l.leaves ≡ l.leaves;
  count : array_vec_len l.cut ≡ l.leaf-index;
}
