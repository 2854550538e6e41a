use Rattle.std.proofs.Common.{◌≡◌, ◌++◌, drop}
use Rattle.syn_netlist.specs.Numbers.{words_at}
use Rattle.syn_aiger.specs.Writing.{symbols_by}
use Rattle.syn_aiger.proofs.writer.push_symbols.Given as goal

abbrev pub invariant-loop-i : goal.invariant-loop-i
invariant-loop-i l = l.symbols.items ++ symbols_by l.place l.i (words_at l.names (drop l.i l.numbers)) ≡ l.initial.symbols.items ++ symbols_by l.place 0 (words_at l.names l.numbers)
