use Rattle.std.proofs.Common.{◌≡◌, ◌++◌, flat_map, drop}
use Rattle.syn_aiger_files.specs.Printed.{single}
use Rattle.syn_aiger_files.proofs.printer.push_singles.Given as goal

abbrev pub invariant-loop-literal : goal.invariant-loop-literal
invariant-loop-literal l = l.out.items ++ flat_map single (drop l.literal-index l.literals) ≡ l.initial.out.items ++ flat_map single l.literals
