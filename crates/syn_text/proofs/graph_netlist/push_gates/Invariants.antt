use Rattle.std.proofs.Common.{◌≡◌, ℕ, List, ◌++◌, length, map, drop, true}
use Rattle.std.specs.List.{list_all}
use Rattle.syn_netlist.specs.Numbers.{words_at, all_below}
use Rattle.syn_netlist.specs.Tables.{table_in, tables_below}
use Rattle.syn_network.specs.Spelling.{gate_tables}
use Rattle.syn_text.specs.Numbered.{is_named_gate}
use Rattle.syn_text.proofs.graph_netlist.push_gates.Given as goal

abbrev pub invariant-loop-i : goal.invariant-loop-i
invariant-loop-i l = record {
  words : (names : List (List ℕ))
      → map (table_in names) l.tables.items ++ gate_tables (words_at names l.nodes) (drop l.i l.rows) (words_at names (drop l.i l.outputs)) ≡ map (table_in names) l.initial.tables.items ++ gate_tables (words_at names l.nodes) l.rows (words_at names l.outputs);
  below : (count : ℕ) → all_below count l.nodes ≡ true → all_below count l.outputs ≡ true → tables_below count l.initial.tables.items ≡ true → tables_below count l.tables.items ≡ true;
  gates : list_all (is_named_gate (length l.nodes)) (drop l.i l.rows) ≡ true;
}
