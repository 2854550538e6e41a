use Rattle.std.proofs.Common.{◌≡◌, length}
use Rattle.syn_apply.specs.Applied.{leaves_by}
use Rattle.syn_apply.proofs.batch.leaf_literals.Given as goal

abbrev pub invariant-loop-i : goal.invariant-loop-i
invariant-loop-i l = record {
  count : length l.found.items ≡ l.i;
  found : l.found.items ≡ leaves_by l.literals l.i l.leaves;
}
