use Rattle.std.proofs.Common.{◌≡◌, ◌≤◌, true, take, drop}
use Rattle.arrayvec.specs.ArrayVec.{array_vec_len}
use Rattle.syn_cuts.specs.Cuts.{arranged, unions_with}
use Rattle.syn_cuts.specs.Keeping.{NoneLonger}
use Rattle.syn_cuts.specs.Laws.{are_in_order}
use Rattle.syn_cuts.specs.Leaves.{leaves_of}
use Rattle.syn_cuts.proofs.unions.keep_unions.Given as goal

abbrev pub invariant-loop-i : goal.invariant-loop-i
invariant-loop-i l = record {
  rest : take 31 (arranged (leaves_of l.kept.items) (unions_with l.k l.left (drop l.i (leaves_of l.others)))) ≡ take 31 (arranged (leaves_of l.initial.kept.items) (unions_with l.k l.left (leaves_of l.others)));
  few : array_vec_len l.kept ≤ 31;
  order : are_in_order (leaves_of l.kept.items) ≡ true;
  most : l.most ≤ l.k;
  longer : NoneLonger l.most l.k (leaves_of l.kept.items);
}
