use Rattle.std.proofs.Common.{◌≡◌, ◌+◌, ◌≤◌, All, length, drop, vec_len}
use Rattle.syn_lutnet.specs.LutData.{fold_luts, lut_depth, signal_depths}
use Rattle.syn_lutnet.specs.Data.{luts_data}
use Rattle.syn_lutnet.proofs.depths.signal_depths.Given as goal

abbrev pub invariant-loop-lut : goal.invariant-loop-lut
invariant-loop-lut l = record {
  left : fold_luts lut_depth 0 l.depths.items (luts_data (drop l.lut-index l.luts)) ≡ signal_depths l.source_count (luts_data l.luts);
  count : vec_len l.depths ≡ l.source_count + 1 + l.lut-index;
  same : length l.depths.items ≡ l.source_count + 1 + l.lut-index;
  low : All (λ d. d ≤ length l.depths.items) l.depths.items;
}
