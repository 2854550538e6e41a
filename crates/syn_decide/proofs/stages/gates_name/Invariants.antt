use Rattle.std.proofs.Common.{◌≡◌, drop}
use Rattle.syn_plan.specs.Naming.{gates_name}
use Rattle.syn_decide.proofs.stages.gates_name.Given as goal

abbrev pub invariant-loop-gate : goal.invariant-loop-gate
invariant-loop-gate l = gates_name l.fn.i (drop l.gate-index l.gates) ≡ gates_name l.fn.i l.gates
