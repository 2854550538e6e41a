use Rattle.std.proofs.Common.{◌≡◌, drop, take}
use Rattle.syn_table.specs.Seating.{IsOf, known_of, view_of}
use Rattle.syn_table.specs.Steps.{with_view}
use Rattle.syn_commit.specs.Pools.{IsEmptied, KeepsPool}
use Rattle.syn_commit.proofs.spare.Spare.empty.Given as goal

abbrev pub invariant-loop-node : goal.invariant-loop-node
invariant-loop-node l = record {
  table : IsOf l.seat l.shared;
  pool : KeepsPool (view_of l.seat) (drop l.node-index l.fn.self);
  emptied : IsEmptied (view_of l.fn.seat) (take l.node-index l.fn.self) (view_of l.seat);
  known : known_of l.seat ≡ with_view (known_of l.fn.seat) (view_of l.seat);
}
