use Rattle.std.proofs.Common.{◌≡◌, ◌+◌, ◌*◌, ◌≤◌, drop}
use Rattle.syn_lutnet.specs.Data.{luts_data}
use Rattle.syn_area.specs.Areas.{luts_cost}
use Rattle.syn_area.proofs.areas.luts_cost.Given as goal

abbrev pub invariant-loop-lut : goal.invariant-loop-lut
invariant-loop-lut l = record {
  left : l.cost + luts_cost l.areas (luts_data (drop l.lut-index l.luts)) ≡ luts_cost l.areas (luts_data l.luts);
  few : l.cost ≤ 4294967295 * l.lut-index;
}
