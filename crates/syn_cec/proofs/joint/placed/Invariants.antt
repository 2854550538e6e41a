use Rattle.std.proofs.Common.{◌≡◌, ◌<◌, length}
use Rattle.syn_rows.specs.declared.TheConstants.{NODE_LIMIT}
use Rattle.syn_hashed.specs.Growing.{Extends}
use Rattle.syn_remaking.specs.Remaking.{AllStand}
use Rattle.syn_cec.proofs.joint.placed.Given as goal

abbrev pub invariant-loop-node : goal.invariant-loop-node
invariant-loop-node l = record {
  all : length l.literals.items ≡ l.node;
  sources : l.hashed.source_count ≡ l.fn.hashed.source_count;
  few : length l.fn.hashed.rows.items < NODE_LIMIT → length l.hashed.rows.items < NODE_LIMIT;
  grows : Extends l.fn.hashed.rows.items l.hashed.rows.items;
  standing : AllStand l.rows l.hashed.rows.items l.literals.items;
}
