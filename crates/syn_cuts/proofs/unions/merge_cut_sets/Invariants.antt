use Rattle.std.proofs.Common.{◌≡◌, ◌≤◌, true, take, drop}
use Rattle.arrayvec.specs.ArrayVec.{array_vec_len}
use Rattle.syn_cuts.specs.Cuts.{arranged, unions, merge_cut_sets}
use Rattle.syn_cuts.specs.Laws.{are_in_order}
use Rattle.syn_cuts.specs.Leaves.{leaves_of}
use Rattle.syn_cuts.proofs.unions.merge_cut_sets.Given as goal

abbrev pub invariant-loop-cut : goal.invariant-loop-cut
invariant-loop-cut l = record {
  rest : take 31 (arranged (leaves_of l.kept.items) (unions l.k (drop l.cut-index (leaves_of l.left)) (leaves_of l.right))) ≡ merge_cut_sets l.k (leaves_of l.left) (leaves_of l.right);
  few : array_vec_len l.kept ≤ 31;
  order : are_in_order (leaves_of l.kept.items) ≡ true;
}
