use Rattle.std.proofs.Common.{◌≡◌, ◌++◌, map, drop}
use Rattle.syn_cuts.specs.Leaves.{leaves_of}
use Rattle.syn_area.specs.Kept as kept
use Rattle.syn_area.proofs.chosen.Chosen.fan_ins.Given as goal

abbrev pub invariant-loop-row : goal.invariant-loop-row
invariant-loop-row l = leaves_of l.cuts.items ++ map kept.fan_ins (drop l.row-index l.rows) ≡ map kept.fan_ins l.rows
