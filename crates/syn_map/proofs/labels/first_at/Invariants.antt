use Rattle.std.proofs.Common.{◌≡◌, drop}
use Rattle.syn_rows.specs.Levels.{level_in}
use Rattle.syn_cuts.specs.Leaves.{leaves_of}
use Rattle.syn_map.specs.Labels.{first_at}
use Rattle.syn_map.proofs.labels.first_at.Given as goal

abbrev pub invariant-loop-cut : goal.invariant-loop-cut
invariant-loop-cut l = first_at l.level (level_in l.labels) (drop l.cut-index (leaves_of l.cuts)) ≡ first_at l.level (level_in l.labels) (leaves_of l.cuts)
