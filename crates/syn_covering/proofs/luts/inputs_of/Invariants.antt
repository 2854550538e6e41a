use Rattle.std.proofs.Common.{◌≡◌, ◌++◌, map, drop}
use Rattle.arrayvec.specs.ArrayVec.{array_vec_len}
use Rattle.syn_covering.specs.Making.{number_at}
use Rattle.syn_covering.proofs.luts.inputs_of.Given as goal

abbrev pub invariant-loop-leaf : goal.invariant-loop-leaf
invariant-loop-leaf l = record {
  left : l.inputs.items ++ map (number_at l.signals) (drop l.leaf-index l.cut) ≡ map (number_at l.signals) l.cut;
  count : array_vec_len l.inputs ≡ l.leaf-index;
}
