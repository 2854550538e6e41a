use Rattle.std.proofs.Common.{◌≡◌, ◌++◌, map, drop}
use Rattle.arrayvec.specs.ArrayVec.{array_vec_len}
use Rattle.syn_absorb.specs.Flips.{flip_in}
use Rattle.syn_absorb.proofs.luts.flips_of.Given as goal

abbrev pub invariant-loop-signal : goal.invariant-loop-signal
invariant-loop-signal l = record {
  left : l.flips.items ++ map (flip_in l.first l.marks) (drop l.signal-index l.signals) ≡ map (flip_in l.first l.marks) l.signals;
  count : array_vec_len l.flips ≡ l.signal-index;
}
