use Rattle.std.proofs.Common.{◌≡◌, drop}
use Rattle.syn_gain.specs.Leaves.{gates_within}
use Rattle.syn_gain.proofs.candidates.gates_within.Given as goal

abbrev pub invariant-loop-gate : goal.invariant-loop-gate
invariant-loop-gate l = gates_within l.count l.leaves (drop l.gate-index l.gates) ≡ gates_within l.count l.leaves l.gates
