use Rattle.std.proofs.Common.{◌≡◌}
use Rattle.syn_fanout_free.specs.Freeing.{ands_among, IsFreeing, open_to}
use Rattle.syn_fanout_free.specs.Saved.{count_in}
use Rattle.syn_fanout_free.specs.Waits.{waits_in}
use Rattle.syn_fanout_free.proofs.cone.freed.Given as goal

abbrev pub invariant-loop-node : goal.invariant-loop-node
invariant-loop-node l = record {
  freeing : IsFreeing l.rows (count_in l.counts) l.n (open_to l.rows l.n l.used) l.bound l.dead.nodes.items (waits_in l.waiting);
  ands : l.dead.ands ≡ ands_among l.rows l.dead.nodes.items;
}

abbrev pub decreases-loop-node : goal.decreases-loop-node
decreases-loop-node l = l.bound
