use Rattle.std.proofs.Common.{◌≡◌, drop, length}
use Rattle.syn_paths.specs.Checking.{AreUpTo, are_lists}
use Rattle.syn_paths.proofs.path_checks.are_paths.Given as goal

abbrev pub invariant-loop-list : goal.invariant-loop-list
invariant-loop-list l = record {
  stamps : AreUpTo l.met l.stamp;
  long : length l.met ≡ length l.initial.met;
  paths : are_lists l.rows l.labels l.level l.marks l.stamp l.initial.met l.lists ≡ are_lists l.rows l.labels l.level l.marks l.stamp l.met (drop l.list-index l.lists);
}
