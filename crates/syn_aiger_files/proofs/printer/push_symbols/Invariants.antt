use Rattle.std.proofs.Common.{◌≡◌, ◌++◌, flat_map, drop}
use Rattle.syn_aiger_files.specs.Printed.{symbol_line}
use Rattle.syn_aiger_files.proofs.printer.push_symbols.Given as goal

abbrev pub invariant-loop-symbol : goal.invariant-loop-symbol
invariant-loop-symbol l = l.out.items ++ flat_map symbol_line (drop l.symbol-index l.symbols) ≡ l.initial.out.items ++ flat_map symbol_line l.symbols
