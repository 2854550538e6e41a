use Rattle.std.proofs.Common.{◌≡◌, ◌+◌, ◌<◌, ◌≤◌, count_by, drop, length}
use Rattle.syn_rows.specs.Rows.{node_of}
use Rattle.syn_netlist.specs.Costs.{is_sign}
use Rattle.syn_hashed.specs.Growing.{Extends}
use Rattle.syn_build.proofs.Matching.{IsFront}
use Rattle.syn_build.proofs.tables.cube_literal.Given as goal

abbrev pub invariant-loop-i : goal.invariant-loop-i
invariant-loop-i l = record {
  sources : l.hashed.source_count ≡ l.fn.hashed.source_count;
  grows : Extends l.fn.hashed.rows.items l.hashed.rows.items;
  there : node_of l.all < length l.hashed.rows.items;
  few : length l.hashed.rows.items + count_by is_sign (drop l.i l.row) ≤ length l.fn.hashed.rows.items + count_by is_sign l.row;
  front : IsFront l.fn.hashed.rows.items l.inputs l.row l.i l.hashed.rows.items l.all;
}
