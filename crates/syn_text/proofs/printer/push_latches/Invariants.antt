use Rattle.std.proofs.Common.{◌≡◌, ◌++◌, flat_map, map, drop, length, true}
use Rattle.syn_netlist.specs.Kept.{latch_in, latches_below}
use Rattle.syn_text.specs.Printed.{latch_line}
use Rattle.syn_text.proofs.printer.push_latches.Given as goal

abbrev pub invariant-loop-latch : goal.invariant-loop-latch
invariant-loop-latch l = record {
  left : l.out.items ++ flat_map latch_line (map (latch_in l.names) (drop l.latch-index l.latches)) ≡ l.initial.out.items ++ flat_map latch_line (map (latch_in l.names) l.latches);
  below : latches_below (length l.names) (drop l.latch-index l.latches) ≡ true;
}
