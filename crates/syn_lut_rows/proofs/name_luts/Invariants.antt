use Rattle.std.proofs.Common.{◌≡◌, ℕ, ◌+◌, ◌<◌, ◌≤◌, Bool, false, length, map, drop}
use Rattle.syn_hashed.specs.Hashed.{lit_at}
use Rattle.syn_hashed.specs.Growing.{value_by}
use Rattle.syn_lutnet.specs.LutData.{fold_luts, lut_value, net_gates}
use Rattle.syn_lutnet.specs.Data.{luts_data}
use Rattle.syn_lut_rows.specs.LutLiterals.{AllThere}
use Rattle.syn_lut_rows.proofs.name_luts.Given as goal

abbrev pub invariant-loop-lut : goal.invariant-loop-lut
invariant-loop-lut l = record {
  sources : l.hashed.source_count ≡ l.initial.hashed.source_count;
  few : length l.hashed.rows.items + net_gates (luts_data (drop l.lut-index l.luts)) ≤ length l.initial.hashed.rows.items + net_gates (luts_data l.luts);
  there : AllThere l.hashed.rows.items l.signals.items;
  len : length l.signals.items ≡ length l.initial.signals.items + l.lut-index;
  begins : (i : ℕ) → i < length l.initial.signals.items → lit_at l.signals.items i ≡ lit_at l.initial.signals.items i;
  values : (given : ℕ → Bool) → given 0 ≡ false → fold_luts lut_value false (map (value_by given l.hashed.rows.items) l.signals.items) (luts_data (drop l.lut-index l.luts)) ≡ fold_luts lut_value false (map (value_by given l.initial.hashed.rows.items) l.initial.signals.items) (luts_data l.luts);
}
