use Rattle.syn_growing.specs.Cones.{AreLeaves}
use Rattle.syn_growing.specs.Growing.{cone_of}
use Rattle.syn_growing.proofs.Falling.{GrowsTo, weight}
use Rattle.syn_growing.proofs.grown_cone.grown_leaves.Given as goal

abbrev pub invariant-loop-leaf : goal.invariant-loop-leaf
invariant-loop-leaf l = record {
  growing : GrowsTo l.rows l.cone (cone_of l.rows l.node);
  are : AreLeaves l.rows l.node l.cone.leaves;
}

abbrev pub decreases-loop-leaf : goal.decreases-loop-leaf
decreases-loop-leaf l = weight l.cone.leaves
