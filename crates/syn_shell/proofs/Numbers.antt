-- The line of a graph is the line of the netlist that it is written as.
use Rattle.std.proofs.Common.{◌≡◌, ℕ, ◌+◌, ◌-◌, true, codes, List, map, length, sym, ap, ap₂, ◌∙◌, subst, arith}
use Rattle.std.proofs.lemmas.List.{length-drop}
use Rattle.syn_rows.specs.declared.Lit.{Lit}
use Rattle.syn_rows.specs.declared.Row.{Row}
use Rattle.syn_rows.specs.Rows.{node_of}
use Rattle.syn_rows.specs.Reach.{Ands}
use Rattle.syn_rows.specs.Levels.{level_in, levels_of}
use Rattle.syn_netlist.specs.Words.{distinct}
use Rattle.syn_netlist.specs.Lists.{Frame, Netlist, sources}
use Rattle.syn_network.specs.GraphShape.{GraphCountsAnds, and_tables, rows_of, observed_of}
use Rattle.syn_network.specs.NamedGraphs.{IsNamedGraph}
use Rattle.syn_network.specs.Spelling.{NetworkOfGraph, NetworkSpells, network}
use Rattle.syn_report.specs.Levels.{greatest}
use Rattle.syn_shell.specs.Lines.{greatest_level, numbers_text, IsGraphLine}

pub graph_line_is : NetworkOfGraph → GraphCountsAnds → (frame : Frame) (rows : List Row) (lits : List Lit) (ands depth : ℕ) (line : List ℕ) → distinct frame.clocks ≡ true → distinct (sources frame) ≡ true
    → IsNamedGraph frame rows lits → ands ≡ length rows - length (sources frame) - 1 → depth ≡ greatest (map (λ l. level_in (levels_of rows) (node_of l)) lits) → line ≡ numbers_text frame (codes " and = ") ands depth
    → IsGraphLine (network frame rows lits) line
graph_line_is spells counts frame rows lits ands depth line clocks once graph ands_is depth_is line_is = record {
  ands = ands;
  reached = subst (Ands (rows_of m) (observed_of m)) count (counts m spelled.shape spelled.ordered);
  text = line_is ∙ ap (numbers_text frame (codes " and = ") ands) (depth_is ∙ sym same_depth);
}
  where
    m : Netlist
    m = network frame rows lits

    spelled : NetworkSpells frame rows lits
    spelled = spells frame rows lits clocks once graph

    count : length (and_tables m) ≡ ands
    count = omega (arith, spelled.ands, length-drop (length (sources frame) + 1) rows)

    same_depth : greatest_level m ≡ greatest (map (λ l. level_in (levels_of rows) (node_of l)) lits)
    same_depth = ap₂ (λ (rs : List Row) (ls : List Lit). greatest (map (λ l. level_in (levels_of rs) (node_of l)) ls)) spelled.same_rows spelled.same_lits
