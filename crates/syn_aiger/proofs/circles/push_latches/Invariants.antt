use Rattle.std.proofs.Common.{◌≡◌, ◌++◌, drop, map}
use Rattle.syn_aiger_files.specs.Files.{latch_literal, variable_of}
use Rattle.syn_aiger.proofs.circles.push_latches.Given as goal

abbrev pub invariant-loop-latch : goal.invariant-loop-latch
invariant-loop-latch l = l.variables.items ++ map variable_of (map latch_literal (drop l.latch-index l.latches)) ≡ l.initial.variables.items ++ map variable_of (map latch_literal l.latches)
