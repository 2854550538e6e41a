use Rattle.std.proofs.Common.{take}
use Rattle.syn_netlist.specs.Walk.{AreDrivers}
use Rattle.syn_netlist.proofs.order_walk.set_drivers.Given as goal

abbrev pub invariant-loop-t : goal.invariant-loop-t
invariant-loop-t l = AreDrivers (take l.t l.tables) l.drivers
