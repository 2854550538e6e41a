use Rattle.std.proofs.Common.{◌≡◌, ◌≤◌, length}
use Rattle.syn_gain.specs.Searching.{literal_new}
use Rattle.syn_gain.proofs.placed.literal_new.Given as goal

abbrev pub invariant-loop-i : goal.invariant-loop-i
invariant-loop-i l = record {
  rest : literal_new l.first l.extra l.i l.x l.y ≡ literal_new l.first l.extra (length l.extra) l.x l.y;
  within : l.i ≤ length l.extra;
}

abbrev pub decreases-loop-i : goal.decreases-loop-i
decreases-loop-i l = l.i
