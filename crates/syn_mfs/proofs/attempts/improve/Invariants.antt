use Rattle.std.proofs.Common.{◌≡◌, ◌<◌, length}
use Rattle.syn_rows.specs.declared.TheConstants.{NODE_LIMIT}
use Rattle.syn_lutnet.specs.Data.{luts_data}
use Rattle.syn_mfs.specs.Replacing.{IsLater}
use Rattle.syn_mfs.proofs.attempts.improve.Given as goal

abbrev pub invariant-loop : goal.invariant-loop
invariant-loop l = record {
  sources : l.hashed.source_count ≡ l.fn.hashed.source_count;
  few : length l.hashed.rows.items < NODE_LIMIT;
  count : length l.luts.items ≡ length l.fn.luts.items;
  later : IsLater l.first l.lits (luts_data l.fn.luts.items) l.fn.hashed.rows.items (luts_data l.luts.items) l.hashed.rows.items l.tools.solver.clauses;
}
