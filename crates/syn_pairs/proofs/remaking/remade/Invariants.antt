use Rattle.std.proofs.Common.{◌≡◌, ◌<◌, length}
use Rattle.syn_rows.specs.declared.TheConstants.{NODE_LIMIT}
use Rattle.syn_remaking.specs.Remaking.{AllStand, SourcesStay}
use Rattle.syn_pairs.proofs.remaking.remade.Given as goal

abbrev pub invariant-loop-node : goal.invariant-loop-node
invariant-loop-node l = record {
  all : length l.literals.items ≡ l.node;
  sources : l.hashed.source_count ≡ l.fn.hashed.source_count;
  few : length l.hashed.rows.items < NODE_LIMIT;
  standing : AllStand l.rows l.hashed.rows.items l.literals.items;
  stay : SourcesStay l.fn.hashed.source_count l.literals.items;
}
