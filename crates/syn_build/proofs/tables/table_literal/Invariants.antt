use Rattle.std.proofs.Common.{◌≡◌, ◌+◌, ◌<◌, ◌≤◌, sum_by, drop, length}
use Rattle.syn_rows.specs.Rows.{node_of}
use Rattle.syn_netlist.specs.Costs.{row_cost}
use Rattle.syn_hashed.specs.Growing.{Extends}
use Rattle.syn_lut_rows.specs.LutLiterals.{AllThere}
use Rattle.syn_build.proofs.Matching.{IsSome}
use Rattle.syn_build.proofs.tables.table_literal.Given as goal

abbrev pub invariant-loop-row : goal.invariant-loop-row
invariant-loop-row l = record {
  sources : l.hashed.source_count ≡ l.fn.hashed.source_count;
  grows : Extends l.fn.hashed.rows.items l.hashed.rows.items;
  inputs : AllThere l.hashed.rows.items l.inputs;
  there : node_of l.any < length l.hashed.rows.items;
  few : length l.hashed.rows.items + sum_by row_cost (drop l.row-index l.rows) ≤ length l.fn.hashed.rows.items + sum_by row_cost l.rows;
  some : IsSome l.fn.hashed.rows.items l.inputs l.rows l.row-index l.hashed.rows.items l.any;
}
