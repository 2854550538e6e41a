use Rattle.std.proofs.Common.{◌≡◌, true, ◌++◌, drop, length, map}
use Rattle.syn_netlist.specs.Kept.{latch_in, latches_below}
use Rattle.syn_netlist.proofs.frame_names.Chosen.latches.Given as goal

abbrev pub invariant-loop-latch : goal.invariant-loop-latch
invariant-loop-latch l = record {
  words : map (latch_in l.self.names) l.found.items ++ map (latch_in l.self.all.now) (drop l.latch-index l.latches) ≡ map (latch_in l.self.all.now) l.latches;
  below : latches_below (length l.self.names) l.found.items ≡ true;
}
