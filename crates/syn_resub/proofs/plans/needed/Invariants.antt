use Rattle.std.proofs.Common.{◌≡◌, ◌≤◌, length, take}
use Rattle.syn_resub.specs.Needed.{Needs}
use Rattle.syn_resub.proofs.plans.needed.Given as goal

abbrev pub invariant-loop-root : goal.invariant-loop-root
invariant-loop-root l = record {
  within : l.root-index ≤ length l.roots;
  rest : l.wanted.items ≡ take l.root-index l.roots;
}

abbrev pub invariant-loop-i : goal.invariant-loop-i
invariant-loop-i l = record {
  within : l.i ≤ length l.nodes;
  needs : Needs l.graph.rows l.leaves l.nodes l.node l.roots l.i l.gathered.wanted.items l.gathered.inner.items;
}

abbrev pub decreases-loop-i : goal.decreases-loop-i
decreases-loop-i l = l.i
