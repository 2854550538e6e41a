use Rattle.std.proofs.Common.{◌≡◌, ◌++◌}
use Rattle.syn_network.specs.LutSpelling.{minterm_row}
use Rattle.syn_text.proofs.lut_netlist.minterm_row.Given as goal

abbrev pub invariant-loop-left : goal.invariant-loop-left
invariant-loop-left l = l.row.items ++ minterm_row l.left l.rest ≡ minterm_row l.inputs l.minterm
