use Rattle.std.proofs.Common.{◌≡◌, ◌++◌, reverse, true}
use Rattle.syn_cones.specs.Walk.{IsConeWalk, rises, top}
use Rattle.syn_cones.proofs.cones.cone_of.Given as goal

abbrev pub invariant-loop-node : goal.invariant-loop-node
invariant-loop-node l = record {
  walk : IsConeWalk l.rows l.leaves l.root l.cone.items l.waiting.items;
  rising : rises (l.waiting.items ++ reverse l.cone.items) ≡ true;
}

abbrev pub decreases-loop-node : goal.decreases-loop-node
decreases-loop-node l = top l.waiting.items
