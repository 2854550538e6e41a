use Rattle.std.proofs.Common.{◌≡◌, ℕ, ◌+◌, ◌<◌, length}
use Rattle.syn_lutnet.specs.LutData.{lut_at}
use Rattle.syn_lutnet.specs.Data.{luts_data}
use Rattle.syn_absorb.specs.Flips.{IsFlipped, flip_in}
use Rattle.syn_absorb.proofs.luts.flipped_luts.Given as goal

abbrev pub invariant-loop-lut : goal.invariant-loop-lut
invariant-loop-lut l = record {
  long : length l.flipped.items ≡ l.lut-index;
  place : l.signal ≡ l.first + l.lut-index;
  each : (j : ℕ) → j < l.lut-index → IsFlipped (flip_in l.first l.marks) (l.first + j) (lut_at (luts_data l.luts) j) (lut_at (luts_data l.flipped.items) j);
}
