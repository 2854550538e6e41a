use Rattle.std.proofs.Common.{◌≡◌, ◌≤◌, length}
use Rattle.syn_proposals.proofs.compatible.select_compatible.Given as goal

abbrev pub invariant-loop-left : goal.invariant-loop-left
invariant-loop-left l = record {
  within : l.left ≤ length l.proposals;
  same : length l.marks.items ≡ length l.proposals;
}

abbrev pub decreases-loop-left : goal.decreases-loop-left
decreases-loop-left l = l.left
