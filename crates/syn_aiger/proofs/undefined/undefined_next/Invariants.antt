use Rattle.std.proofs.Common.{◌≡◌, drop, find, map}
use Rattle.syn_aiger_files.specs.Files.{next_of, variable_of}
use Rattle.syn_aiger.specs.Placing.{is_undefined}
use Rattle.syn_aiger.proofs.undefined.undefined_next.Given as goal

abbrev pub invariant-loop-latch : goal.invariant-loop-latch
invariant-loop-latch l = find (is_undefined l.file.aig) (map variable_of (map next_of (drop l.latch-index l.file.aig.latches))) ≡ find (is_undefined l.file.aig) (map variable_of (map next_of l.file.aig.latches))
