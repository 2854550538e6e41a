use Rattle.std.proofs.Common.{◌≡◌, ◌≤◌, min, drop}
use Rattle.syn_area.specs.Areas.{least_area}
use Rattle.syn_area.proofs.areas.least_area.Given as goal

abbrev pub invariant-loop-area : goal.invariant-loop-area
invariant-loop-area l = record {
  left : min l.least (least_area (drop l.area-index l.areas)) ≡ least_area l.areas;
  few : l.least ≤ 4294967295;
}
