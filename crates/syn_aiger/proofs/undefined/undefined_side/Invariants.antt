use Rattle.std.proofs.Common.{◌≡◌, drop, find, flat_map, map}
use Rattle.syn_aiger_files.specs.Files.{variable_of}
use Rattle.syn_aiger.specs.Placing.{is_undefined}
use Rattle.syn_aiger.specs.Values.{right_sides}
use Rattle.syn_aiger.proofs.undefined.undefined_side.Given as goal

abbrev pub invariant-loop-a : goal.invariant-loop-a
invariant-loop-a l = find (is_undefined l.file.aig) (map variable_of (flat_map right_sides (drop l.a-index l.file.aig.ands))) ≡ find (is_undefined l.file.aig) (map variable_of (flat_map right_sides l.file.aig.ands))
