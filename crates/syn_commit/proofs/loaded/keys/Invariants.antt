use Rattle.std.proofs.Common.{◌≡◌, []}
use Rattle.syn_table.specs.Seating.{known_of, view_of}
use Rattle.syn_table.specs.Steps.{with_view}
use Rattle.syn_commit.specs.Trials.{IsUnderWay}
use Rattle.syn_commit.proofs.Loads.{IsKeying, keys_left}
use Rattle.syn_commit.proofs.loaded.keys.Given as goal

abbrev pub invariant-loop-node : goal.invariant-loop-node
invariant-loop-node l = record {
  known : known_of l.seat ≡ with_view (known_of l.fn.seat) (view_of l.seat);
  misses : (view_of l.seat).misses ≡ (view_of l.fn.seat).misses;
  way : IsUnderWay l.trial l.seat l.pins.items l.deciding;
  keying : IsKeying l.pins.items l.deciding;
  uncounted : l.deciding.counts ≡ [];
}

abbrev pub decreases-loop-node : goal.decreases-loop-node
decreases-loop-node l = keys_left l.deciding
