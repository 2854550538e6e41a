use Rattle.std.proofs.Common.{◌≡◌, ◌++◌, ◌∷◌, [], drop}
use Rattle.syn_netlist.specs.TextLines.{blanked}
use Rattle.syn_aiger_files.specs.Printed.{decimals}
use Rattle.syn_aiger_files.proofs.printer.push_more.Given as goal

abbrev pub invariant-loop-number : goal.invariant-loop-number
invariant-loop-number l = l.out.items ++ (blanked (decimals (drop l.number-index l.numbers)) ++ 10 ∷ []) ≡ l.initial.out.items ++ (blanked (decimals l.numbers) ++ 10 ∷ [])
