use Rattle.std.proofs.Common.{◌≡◌, ◌++◌, flat_map, drop}
use Rattle.syn_aiger_files.specs.Printed.{ascii_and}
use Rattle.syn_aiger_files.proofs.printer.push_ascii_ands.Given as goal

abbrev pub invariant-loop-gate : goal.invariant-loop-gate
invariant-loop-gate l = l.out.items ++ flat_map ascii_and (drop l.gate-index l.gates) ≡ l.initial.out.items ++ flat_map ascii_and l.gates
