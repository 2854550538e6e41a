use Rattle.std.proofs.Common.{◌≡◌, ◌<◌, length}
use Rattle.syn_rows.specs.declared.TheConstants.{NODE_LIMIT}
use Rattle.syn_hashed.specs.Growing.{Extends}
use Rattle.syn_pairs.proofs.Conjoining.{IsBegun}
use Rattle.syn_pairs.proofs.joining.join_rest.Given as goal

abbrev pub invariant-loop-lit : goal.invariant-loop-lit
invariant-loop-lit l = record {
  sources : l.hashed.source_count ≡ l.fn.hashed.source_count;
  grows : Extends l.fn.hashed.rows.items l.hashed.rows.items;
  few : length l.fn.hashed.rows.items < NODE_LIMIT → length l.hashed.rows.items < NODE_LIMIT;
  begun : IsBegun l.fn.hashed.rows.items l.lits l.hashed.rows.items l.all l.lit-index;
}
