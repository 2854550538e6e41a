use Rattle.std.proofs.Common.{◌≡◌, ◌++◌, ◌+◌, ◌-◌, flat_map}
use Rattle.syn_aiger_files.specs.Literals.{literals_from}
use Rattle.syn_aiger_files.specs.Printed.{single}
use Rattle.syn_aiger_files.proofs.printer.push_first.Given as goal

abbrev pub invariant-loop-k : goal.invariant-loop-k
invariant-loop-k l = l.out.items ++ flat_map single (literals_from (1 + l.k) (l.count - l.k)) ≡ l.initial.out.items ++ flat_map single (literals_from 1 l.count)
