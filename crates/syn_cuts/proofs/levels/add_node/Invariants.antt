use Rattle.std.proofs.Common.{◌+◌, ◌-◌, length}
use Rattle.syn_cuts.proofs.levels.add_node.Given as goal

abbrev pub decreases-loop-alloc : goal.decreases-loop-alloc
decreases-loop-alloc l = l.level + 1 - length l.by_level.items
