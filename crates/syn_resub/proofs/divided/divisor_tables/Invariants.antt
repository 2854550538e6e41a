use Rattle.std.proofs.Common.{◌-◌, ◌≤◌, length}
use Rattle.syn_resub.specs.Divided.{AreTablesOf}
use Rattle.syn_resub.proofs.divided.divisor_tables.Given as goal

abbrev pub invariant-loop-tables : goal.invariant-loop-tables
invariant-loop-tables l = record {
  within : length l.tables.items ≤ length l.nodes;
  tables : AreTablesOf l.graph.rows l.leaves l.nodes l.tables.items;
}

abbrev pub decreases-loop-tables : goal.decreases-loop-tables
decreases-loop-tables l = length l.nodes - length l.tables.items
