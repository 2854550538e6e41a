use Rattle.std.proofs.Common.{◌≡◌, ◌++◌, drop, map}
use Rattle.syn_aiger_files.specs.Files.{latch_literal}
use Rattle.syn_aiger.proofs.names.latch_literals.Given as goal

abbrev pub invariant-loop-latch : goal.invariant-loop-latch
invariant-loop-latch l = l.literals.items ++ map latch_literal (drop l.latch-index l.latches) ≡ map latch_literal l.latches
