use Rattle.std.proofs.Common.{◌≡◌, ◌++◌, flat_map, drop}
use Rattle.syn_netlist.specs.Marks.{read_numbers}
use Rattle.syn_netlist.proofs.signals.latch_reads.Given as goal

abbrev pub invariant-loop-latch : goal.invariant-loop-latch
invariant-loop-latch l = l.read.items ++ flat_map read_numbers (drop l.latch-index l.latches) ≡ flat_map read_numbers l.latches
