use Rattle.std.specs.List.{sum_by}
use Rattle.syn_netlist.specs.Walk.{IsOrderWalk, GoOn, weight}
use Rattle.syn_netlist.proofs.order_walk.walk_on.Given as goal

abbrev pub invariant-loop-top : goal.invariant-loop-top
invariant-loop-top l = record {
  walk : IsOrderWalk l.tables l.drivers l.stages l.seen l.path.items l.order.items;
  goes : GoOn l.initial.stages l.stages;
}

abbrev pub decreases-loop-top : goal.decreases-loop-top
decreases-loop-top l = sum_by weight l.stages
