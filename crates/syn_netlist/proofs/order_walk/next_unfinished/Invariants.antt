use Rattle.std.proofs.Common.{◌≡◌, true, take}
use Rattle.std.specs.List.{list_all}
use Rattle.syn_netlist.specs.Walk.{is_finished}
use Rattle.syn_netlist.proofs.order_walk.next_unfinished.Given as goal

abbrev pub invariant-loop-at : goal.invariant-loop-at
invariant-loop-at l = list_all (is_finished l.drivers l.stages) (take l.at l.inputs) ≡ true
