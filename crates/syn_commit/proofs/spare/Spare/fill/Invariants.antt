use Rattle.std.proofs.Common.{◌≡◌, ◌+◌, List, length}
use Rattle.syn_core_laws.specs.declared.Seen.{Seen}
use Rattle.syn_table.specs.Seating.{IsOf, known_of, view_of}
use Rattle.syn_table.specs.Steps.{with_view}
use Rattle.syn_commit.specs.Pools.{AreTried, KeepsPool}
use Rattle.syn_commit.proofs.spare.Spare.fill.Given as goal

abbrev pub invariant-loop-node : goal.invariant-loop-node
invariant-loop-node l = record {
  table : IsOf l.seat l.shared;
  pool : KeepsPool (view_of l.seat) l.self;
  tried : (met : List Seen) × AreTried l.fn.from (view_of l.fn.seat) l.fn.self met (view_of l.seat) l.self × (l.fn.from + length met ≡ l.node);
  known : known_of l.seat ≡ with_view (known_of l.fn.seat) (view_of l.seat);
}
