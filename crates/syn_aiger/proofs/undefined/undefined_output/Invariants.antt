use Rattle.std.proofs.Common.{◌≡◌, drop, find, map}
use Rattle.syn_aiger_files.specs.Files.{variable_of}
use Rattle.syn_aiger.specs.Placing.{is_undefined}
use Rattle.syn_aiger.proofs.undefined.undefined_output.Given as goal

abbrev pub invariant-loop-l : goal.invariant-loop-l
invariant-loop-l l = find (is_undefined l.file.aig) (map variable_of (drop l.l-index l.file.aig.outputs)) ≡ find (is_undefined l.file.aig) (map variable_of l.file.aig.outputs)
