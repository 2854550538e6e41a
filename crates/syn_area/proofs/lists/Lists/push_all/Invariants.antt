use Rattle.std.proofs.Common.{All, List}
use Rattle.syn_rows.specs.declared.Row.{Row}
use Rattle.syn_cuts.specs.Leaves.{leaves_of}
use Rattle.syn_area.specs.Kept.{AreListed, IsKept}
use Rattle.syn_area.proofs.lists.Lists.push_all.Given as goal

abbrev pub invariant-loop-cut : goal.invariant-loop-cut
invariant-loop-cut l = (rows : List Row) → AreListed rows l.initial.self.listed.items → All (IsKept rows l.node) (leaves_of l.cuts) → AreListed rows l.self.listed.items
