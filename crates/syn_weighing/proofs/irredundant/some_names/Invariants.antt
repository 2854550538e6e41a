use Rattle.std.proofs.Common.{◌≡◌, drop}
use Rattle.std.specs.List.{list_any}
use Rattle.syn_weighing.specs.Irredundant.{gate_names}
use Rattle.syn_weighing.proofs.irredundant.some_names.Given as goal

abbrev pub invariant-loop-gate : goal.invariant-loop-gate
invariant-loop-gate l = list_any (gate_names l.index) (drop l.gate-index l.gates) ≡ list_any (gate_names l.index) l.gates
