use Rattle.std.proofs.Common.{◌≡◌, ◌++◌, flat_map, drop}
use Rattle.syn_aiger_files.specs.Printed.{binary_and}
use Rattle.syn_aiger_files.proofs.printer.push_binary_ands.Given as goal

abbrev pub invariant-loop-gate : goal.invariant-loop-gate
invariant-loop-gate l = l.out.items ++ flat_map binary_and (drop l.gate-index l.gates) ≡ l.initial.out.items ++ flat_map binary_and l.gates
