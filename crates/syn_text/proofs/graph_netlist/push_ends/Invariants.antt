use Rattle.std.proofs.Common.{◌≡◌, ℕ, List, ◌++◌, length, map, drop, true}
use Rattle.std.specs.List.{list_all}
use Rattle.syn_netlist.specs.Numbers.{words_at, all_below, Grows}
use Rattle.syn_netlist.specs.Tables.{table_in, tables_below}
use Rattle.syn_network.specs.Spelling.{ends_from}
use Rattle.syn_text.specs.Numbered.{is_within}
use Rattle.syn_text.proofs.graph_netlist.push_ends.Given as goal

abbrev pub invariant-loop-i : goal.invariant-loop-i
invariant-loop-i l = record {
  words : (names : List (List ℕ)) → Grows l.sources.names.now names
      → map (table_in names) l.tables.items ++ ends_from (words_at l.sources.names.now l.sources.numbers.items) (words_at names l.nodes) (words_at names (drop l.i l.signals)) (drop l.i l.observed)
      ≡ map (table_in names) l.initial.tables.items ++ ends_from (words_at l.sources.names.now l.sources.numbers.items) (words_at names l.nodes) (words_at names l.signals) l.observed;
  below : (count : ℕ) → all_below count l.nodes ≡ true → all_below count l.signals ≡ true → tables_below count l.initial.tables.items ≡ true → tables_below count l.tables.items ≡ true;
  signals : all_below (length l.sources.names.now) (drop l.i l.signals) ≡ true;
  within : list_all (is_within (length l.nodes)) (drop l.i l.observed) ≡ true;
}
