use Rattle.std.proofs.Common.{◌≡◌, ◌<◌, length}
use Rattle.syn_rows.specs.declared.TheConstants.{NODE_LIMIT}
use Rattle.syn_apply.specs.Applied.{AreRemade, IsNext, remade}
use Rattle.syn_apply.specs.Remaking.{AllStand, SourcesStay}
use Rattle.syn_apply.proofs.batch.remade.Given as goal

abbrev pub invariant-loop-node : goal.invariant-loop-node
invariant-loop-node l = record {
  next : IsNext l.proposals l.node l.place;
  all : length l.literals.items ≡ l.node;
  sources : l.hashed.source_count ≡ l.fn.hashed.source_count;
  remade : AreRemade l.fn.hashed.source_count l.rows l.proposals l.taken l.node (remade l.hashed.rows.items l.literals.items);
  few : length l.fn.hashed.rows.items < NODE_LIMIT → length l.hashed.rows.items < NODE_LIMIT;
  standing : AllStand l.rows l.hashed.rows.items l.literals.items;
  stay : SourcesStay l.fn.hashed.source_count l.literals.items;
}
