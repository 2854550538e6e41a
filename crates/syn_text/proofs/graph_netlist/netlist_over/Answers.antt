use Rattle.std.proofs.Common.{◌≡◌, ℕ, List, ◌++◌, length, map, ap, ap₂, ◌∙◌}
use Rattle.syn_netlist.specs.declared.frames.Frame as frames
use Rattle.syn_netlist.specs.declared.tables.Table as code
use Rattle.syn_netlist.specs.Frames.{frame_in}
use Rattle.syn_netlist.specs.Lists as lists
use Rattle.syn_netlist.specs.Tables.{table_in, tables_below}
use Rattle.syn_netlist.specs.Words.{distinct}
use Rattle.syn_network.specs.Spelling.{network}
use Rattle.syn_text.proofs.Whole.{network_once}
use Rattle.syn_text.proofs.graph_netlist.netlist_over.Goals as goal

pub invariant_of-result : goal.invariant_of-result
invariant_of-result c =
    let made = c.in_ok-frame_over.ensures in
    let words : map (table_in c.in_ok-frame_over.field-0.names) c.of.result ≡ (network (frame_in c.args.frame.now) c.args.rows.now c.args.observed.now).tables =
    ap₂ (λ (ns : List (List ℕ)) (ts : List code.Table). map (table_in ns) ts) made.names c.of.ensures ∙ c.in_ok-tables.ensures.words
    ∙ ap (λ (f : frames.Frame). (network (frame_in f) c.args.rows.now c.args.observed.now).tables) c.in_ok-naming.ensures.frame in
    record {
      tables_below = ap₂ (λ (ns : List (List ℕ)) (ts : List code.Table). tables_below (length ns) ts) made.names c.of.ensures ∙ c.in_ok-tables.ensures.below;
      once =
          ap₂ (λ (f : lists.Frame) (ts : List lists.Table). distinct (lists.sources f ++ map lists.output_of ts)) made.same words
          ∙ network_once c.args.frame.now c.args.rows.now c.args.observed.now c.requires.graph;
    }
