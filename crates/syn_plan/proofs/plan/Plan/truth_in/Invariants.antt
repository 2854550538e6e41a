use Rattle.std.proofs.Common.{◌≡◌, ◌+◌, true, false, ◌∷◌, drop}
use Rattle.arrayvec.specs.ArrayVec.{array_vec_len}
use Rattle.syn_truth.specs.Truth.{AtEach}
use Rattle.syn_plan.specs.Gates.{in_order, values_after}
use Rattle.syn_plan.specs.Tables.{values_in}
use Rattle.syn_plan.proofs.plan.Plan.truth_in.Given as goal

abbrev pub invariant-loop-a : goal.invariant-loop-a
invariant-loop-a g l = record {
  vars : l.tables.vars ≡ l.self.leaves;
  count : array_vec_len l.tables.items ≡ 1 + l.self.leaves + l.a-index;
  ordered : in_order (array_vec_len l.tables.items) (drop l.a-index l.self.gates.items) ≡ true;
  values : AtEach l.self.leaves (λ xs. values_after (values_in l.tables.items.items xs) (drop l.a-index l.self.gates.items) ≡ values_after (false ∷ xs) l.self.gates.items);
}
