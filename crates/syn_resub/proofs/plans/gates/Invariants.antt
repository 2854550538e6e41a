use Rattle.std.proofs.Common.{◌≡◌, ◌-◌, ◌≤◌, length, take}
use Rattle.syn_resub.specs.Resubstitution.{gates_of}
use Rattle.syn_resub.proofs.plans.gates.Given as goal

abbrev pub invariant-loop-plan : goal.invariant-loop-plan
invariant-loop-plan l = record {
  within : length l.plan.gates.items ≤ length l.inner;
  leaves : l.plan.leaves ≡ length l.leaves;
  gates : l.plan.gates.items ≡ take (length l.plan.gates.items) (gates_of l.graph.rows l.leaves l.inner);
}

abbrev pub decreases-loop-plan : goal.decreases-loop-plan
decreases-loop-plan l = length l.inner - length l.plan.gates.items
