use Rattle.std.proofs.Common.{◌≡◌, ℕ, ◌+◌, ◌-◌, ◌++◌, true, List, map}
use Rattle.syn_netlist.specs.Tables.{table_in, tables_below}
use Rattle.syn_gen.specs.Generated.{generated_tables, tables_from}
use Rattle.syn_gen.specs.Signals.{AreSignals}
use Rattle.syn_gen.proofs.tables.draw_tables.Given as goal

abbrev pub invariant-loop-output : goal.invariant-loop-output
invariant-loop-output l = record {
  tables : (names : List (List ℕ)) → AreSignals (16 + l.size) names → map (table_in names) l.tables.items ++ tables_from (16 + l.size - l.output) l.output l.draws.state ≡ generated_tables l.seed l.size;
  below : tables_below (16 + l.size) l.tables.items ≡ true;
}
