use Rattle.std.proofs.Common.{◌≡◌, ◌++◌, map, drop}
use Rattle.syn_text.specs.Numbered.{signal_number}
use Rattle.syn_text.proofs.lut_netlist.names_of.Given as goal

abbrev pub invariant-loop-signal : goal.invariant-loop-signal
invariant-loop-signal l = l.names.items ++ map (signal_number l.nodes) (drop l.signal-index l.signals) ≡ map (signal_number l.nodes) l.signals
