use Rattle.std.proofs.Common.{◌≡◌, ◌++◌, drop, map}
use Rattle.syn_aiger_files.specs.Files.{variable_of}
use Rattle.syn_aiger.proofs.circles.push_inputs.Given as goal

abbrev pub invariant-loop-l : goal.invariant-loop-l
invariant-loop-l l = l.variables.items ++ map variable_of (drop l.l-index l.literals) ≡ l.initial.variables.items ++ map variable_of l.literals
