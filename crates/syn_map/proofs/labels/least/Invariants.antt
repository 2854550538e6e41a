use Rattle.std.proofs.Common.{◌≡◌, drop}
use Rattle.syn_rows.specs.Levels.{level_in}
use Rattle.syn_cuts.specs.Leaves.{leaves_of}
use Rattle.syn_map.specs.Labels.{least}
use Rattle.syn_map.proofs.Leastness.{least_after}
use Rattle.syn_map.proofs.labels.least.Given as goal

abbrev pub invariant-loop-cut : goal.invariant-loop-cut
invariant-loop-cut l = least_after (level_in l.labels) l.least (drop l.cut-index (leaves_of l.rest)) ≡ least (level_in l.labels) (leaves_of l.fn.cuts)
