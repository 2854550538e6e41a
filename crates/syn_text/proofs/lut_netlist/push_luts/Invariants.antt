use Rattle.std.proofs.Common.{◌≡◌, ℕ, List, ◌++◌, length, map, drop, true}
use Rattle.std.specs.List.{list_all}
use Rattle.syn_netlist.specs.Numbers.{words_at, all_below}
use Rattle.syn_netlist.specs.Tables.{table_in, tables_below}
use Rattle.syn_network.specs.LutSpelling.{lut_tables_of}
use Rattle.syn_lutnet.specs.Data.{luts_data}
use Rattle.syn_text.specs.Numbered.{reads_named}
use Rattle.syn_text.proofs.lut_netlist.push_luts.Given as goal

abbrev pub invariant-loop-i : goal.invariant-loop-i
invariant-loop-i l = record {
  words : (names : List (List ℕ))
      → map (table_in names) l.tables.items ++ lut_tables_of (words_at names l.nodes) (luts_data (drop l.i l.luts)) (words_at names (drop l.i l.outputs)) ≡ map (table_in names) l.initial.tables.items ++ lut_tables_of (words_at names l.nodes) (luts_data l.luts) (words_at names l.outputs);
  below : (count : ℕ) → all_below count l.nodes ≡ true → all_below count l.outputs ≡ true → tables_below count l.initial.tables.items ≡ true → tables_below count l.tables.items ≡ true;
  luts : list_all (reads_named (length l.nodes)) (luts_data (drop l.i l.luts)) ≡ true;
}
