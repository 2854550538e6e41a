use Rattle.std.proofs.Common.{◌≡◌, drop, length}
use Rattle.syn_paths.specs.Checking.{AreUpTo, are_new, mark_all}
use Rattle.syn_paths.proofs.path_checks.meet.Given as goal

abbrev pub invariant-loop-node : goal.invariant-loop-node
invariant-loop-node l = record {
  stamps : AreUpTo l.met l.stamp;
  long : length l.met ≡ length l.initial.met;
  new : are_new l.initial.met l.stamp l.list ≡ are_new l.met l.stamp (drop l.node-index l.list);
  marks : mark_all l.initial.met l.stamp l.list ≡ mark_all l.met l.stamp (drop l.node-index l.list);
}
