use Rattle.std.proofs.Common.{◌≡◌}
use Rattle.syn_rows.specs.Levels.{levels_of}
use Rattle.syn_balance.specs.Balancing.{IsBalancing}
use Rattle.syn_balance.proofs.balancer.balance_nodes.Given as goal

abbrev pub invariant-loop-node : goal.invariant-loop-node
invariant-loop-node l = record {
  sources : l.hashed.source_count ≡ l.initial.hashed.source_count;
  levels : l.levels.items ≡ levels_of l.hashed.rows.items;
  balancing : IsBalancing l.initial.hashed.source_count l.rows l.roots l.node l.literals l.waiting l.hashed.rows.items;
}
