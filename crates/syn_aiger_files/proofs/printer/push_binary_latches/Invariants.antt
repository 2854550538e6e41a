use Rattle.std.proofs.Common.{◌≡◌, ◌++◌, flat_map, drop}
use Rattle.syn_aiger_files.specs.Printed.{binary_latch}
use Rattle.syn_aiger_files.proofs.printer.push_binary_latches.Given as goal

abbrev pub invariant-loop-latch : goal.invariant-loop-latch
invariant-loop-latch l = l.out.items ++ flat_map binary_latch (drop l.latch-index l.latches) ≡ l.initial.out.items ++ flat_map binary_latch l.latches
