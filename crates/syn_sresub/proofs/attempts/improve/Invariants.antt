use Rattle.std.proofs.Common.{◌≡◌, ◌<◌, length}
use Rattle.syn_rows.specs.declared.TheConstants.{NODE_LIMIT}
use Rattle.syn_hashed.specs.Growing.{Extends}
use Rattle.syn_fraig.specs.Sweeping.{AreTrueBy}
use Rattle.syn_sresub.proofs.attempts.improve.Given as goal

abbrev pub invariant-loop-round : goal.invariant-loop-round
invariant-loop-round l = record {
  sources : l.hashed.source_count ≡ l.fn.hashed.source_count;
  grows : Extends l.fn.hashed.rows.items l.hashed.rows.items;
  few : length l.hashed.rows.items < NODE_LIMIT;
  clauses : AreTrueBy l.hashed.rows.items l.solver.clauses;
}
