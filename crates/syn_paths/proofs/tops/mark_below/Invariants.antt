use Rattle.std.proofs.Common.{◌≡◌, [], length}
use Rattle.syn_paths.specs.Checking.{AreUpTo}
use Rattle.syn_paths.specs.Walking.{AreOffLevel, IsTopWalk, walk_left}
use Rattle.syn_paths.proofs.tops.mark_below.Given as goal

abbrev pub invariant-loop-node : goal.invariant-loop-node
invariant-loop-node l = record {
  stamps : AreUpTo l.marks l.stamp;
  long : length l.marks ≡ length l.rows;
  walk : IsTopWalk l.rows l.labels l.root l.level l.marks l.stamp l.waiting.items [];
  starts : AreOffLevel l.labels l.level l.marks l.stamp l.starts.items;
}

abbrev pub decreases-loop-node : goal.decreases-loop-node
decreases-loop-node l = walk_left l.marks l.stamp l.waiting.items
