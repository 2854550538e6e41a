use Rattle.std.proofs.Common.{◌≡◌, ◌++◌, map, drop}
use Rattle.syn_seq.specs.Code.{moved_row}
use Rattle.syn_seq.proofs.kept_graph.moved_gates.Given as goal

abbrev pub invariant-loop-gate : goal.invariant-loop-gate
invariant-loop-gate l = l.found.items ++ map (moved_row l.places) (drop l.gate-index l.gates) ≡ map (moved_row l.places) l.gates
