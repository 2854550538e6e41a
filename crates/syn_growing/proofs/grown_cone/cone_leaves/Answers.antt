use Rattle.std.proofs.Common.{sym, subst}
use Rattle.syn_growing.specs.Cones.{HaveFanIns}
use Rattle.syn_growing.proofs.InGraphs.{have_fan_ins}
use Rattle.syn_growing.proofs.Sorted.{below_from, rise_from}
use Rattle.syn_growing.proofs.grown_cone.cone_leaves.Goals as goal

pub grown_leaves-requires-clause-rows : goal.grown_leaves-requires-clause-rows
grown_leaves-requires-clause-rows c = subst HaveFanIns (sym c.as_slice.ensures) (have_fan_ins c.args.graph.now)

pub returns-clause-rising : goal.returns-clause-rising
returns-clause-rising c =
    let are = c.grown_leaves.ensures.are in
    rise_from 0 c.grown_leaves.result.items are.rise (λ n h. (are.within n h).0)

pub returns-clause-below : goal.returns-clause-below
returns-clause-below c =
    let are = c.grown_leaves.ensures.are in
    below_from c.args.node c.grown_leaves.result.items (λ n h. (are.within n h).1)
