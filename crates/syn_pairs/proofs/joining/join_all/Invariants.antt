use Rattle.std.proofs.Common.{◌≡◌, ◌<◌, length}
use Rattle.syn_rows.specs.declared.TheConstants.{NODE_LIMIT}
use Rattle.syn_hashed.specs.Growing.{Extends}
use Rattle.syn_pairs.specs.Conjunctions.{AreThere, SameAll}
use Rattle.syn_pairs.proofs.joining.join_all.Given as goal

abbrev pub invariant-loop : goal.invariant-loop
invariant-loop l = record {
  sources : l.hashed.source_count ≡ l.fn.hashed.source_count;
  grows : Extends l.fn.hashed.rows.items l.hashed.rows.items;
  few : length l.fn.hashed.rows.items < NODE_LIMIT → length l.hashed.rows.items < NODE_LIMIT;
  there : AreThere l.hashed.rows.items l.lits;
  same : SameAll l.fn.hashed.rows.items l.fn.lits l.hashed.rows.items l.lits;
}
