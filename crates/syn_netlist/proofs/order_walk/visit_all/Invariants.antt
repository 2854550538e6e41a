use Rattle.std.proofs.Common.{◌≡◌, ℕ, ◌<◌, true, []}
use Rattle.syn_netlist.specs.Walk.{IsOrderWalk, is_done, stage_at}
use Rattle.syn_netlist.proofs.order_walk.visit_all.Given as goal

abbrev pub invariant-loop-root : goal.invariant-loop-root
invariant-loop-root l = record {
  walk : IsOrderWalk l.tables l.drivers l.stages l.seen [] l.order.items;
  empty : l.path.items ≡ [];
  before : (k : ℕ) → k < l.root → is_done (stage_at l.stages k) ≡ true;
}
