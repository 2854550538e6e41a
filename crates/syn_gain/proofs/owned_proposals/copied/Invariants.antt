use Rattle.std.proofs.Common.{◌≡◌, ◌++◌, drop}
use Rattle.syn_gain.proofs.owned_proposals.copied.Given as goal

abbrev pub invariant-loop-gate : goal.invariant-loop-gate
invariant-loop-gate l = l.gates.items ++ drop l.gate-index l.plan.gates.items ≡ l.plan.gates.items
