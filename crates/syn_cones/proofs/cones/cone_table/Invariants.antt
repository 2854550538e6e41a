use Rattle.std.proofs.Common.{◌≡◌, ◌++◌, reverse, true, length}
use Rattle.syn_cones.specs.Walk.{AreFunctions, IsConeWalk, have_vars, rises}
use Rattle.syn_cones.proofs.cones.cone_table.Given as goal

abbrev pub invariant-loop-node : goal.invariant-loop-node
invariant-loop-node l = record {
  walk : IsConeWalk l.rows l.leaves l.root l.cone.items l.nodes.items;
  functions : AreFunctions l.rows l.leaves l.root l.nodes.items l.tables.items;
  rising : rises (l.nodes.items ++ reverse l.cone.items) ≡ true;
  vars : have_vars (length l.leaves) l.tables.items ≡ true;
}

abbrev pub decreases-loop-node : goal.decreases-loop-node
decreases-loop-node l = length l.cone.items
