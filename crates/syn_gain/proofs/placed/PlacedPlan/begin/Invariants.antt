use Rattle.std.proofs.Common.{◌≡◌, ◌+◌, [], ◌∷◌}
use Rattle.arrayvec.specs.ArrayVec.{array_vec_len}
use Rattle.syn_rows.specs.Joining.{constant}
use Rattle.syn_gain.specs.Placing.{leaf_literals}
use Rattle.syn_gain.proofs.placed.PlacedPlan.begin.Given as goal

abbrev pub invariant-loop-i : goal.invariant-loop-i
invariant-loop-i g l = record {
  literals : l.self.literals.items ≡ constant ∷ leaf_literals l.i l.leaves;
  count : array_vec_len l.self.literals ≡ 1 + l.i;
  none : l.self.extra.items ≡ [];
}
