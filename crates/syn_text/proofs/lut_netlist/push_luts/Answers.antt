use Rattle.std.proofs.Common.{ℕ, List, [], ◌∷◌, ◌++◌, ◌+◌, ◌<◌, length, map, get_or, drop, sym, ap, ◌∙◌, arith}
use Rattle.syn_netlist.specs.Lists as lists
use Rattle.syn_netlist.specs.Numbers.{word_at, words_at}
use Rattle.syn_netlist.specs.Tables.{table_in}
use Rattle.syn_network.specs.LutSpelling.{lut_table, lut_tables_of}
use Rattle.syn_lutnet.specs.Data.{lut_data, luts_data}
use Rattle.syn_text.proofs.LutWhole.{tables_next, reads_here}
use Rattle.syn_text.proofs.Tabling.{left_next, item_below}
use Rattle.syn_text.proofs.lut_netlist.push_luts.Goals as goal

pub push_lut-requires : goal.push_lut-requires
push_lut-requires c = (reads_here (length c.args.nodes.now) c.args.luts.now c.loop-i.i c.index-luts-i.result c.loop-i-test.true c.index-luts-i.is c.loop-i.invariant.luts).0

pub loop-i-preserved : goal.loop-i-preserved
loop-i-preserved c =
    let luts = c.args.luts.now in
    let outputs : List ℕ = c.args.outputs.now in
    let i : ℕ = c.loop-i.i in
    let inside : i < length luts = c.loop-i-test.true in
    let there : i < length outputs = omega (arith, inside, c.requires.outputs) in
    let pushed = c.in_ok-push_lut.ensures in
    record {
      words = λ names.
          let nodes : List (List ℕ) = words_at names c.args.nodes.now in
          let before : List lists.Table = map (table_in names) c.loop-i.tables.items in
          let rest : List lists.Table = lut_tables_of nodes (luts_data (drop (i + 1) luts)) (words_at names (drop (i + 1) outputs)) in
          let all : List lists.Table = map (table_in names) c.args.tables.now.items ++ lut_tables_of nodes (luts_data luts) (words_at names outputs) in
          left_next before (lut_table nodes (lut_data c.index-luts-i.result) (word_at names (get_or outputs i 0)) ∷ []) rest all (map (table_in names) c.push_lut.new.tables.items) (pushed.words names)
          (ap (λ (ts : List lists.Table). before ++ ts) (sym (tables_next names nodes luts outputs i c.index-luts-i.result inside there c.index-luts-i.is)) ∙ c.loop-i.invariant.words names);
      below = λ count nodes_below outputs_below start. pushed.below count nodes_below (item_below count outputs i there outputs_below) (c.loop-i.invariant.below count nodes_below outputs_below start);
      luts = (reads_here (length c.args.nodes.now) luts i c.index-luts-i.result inside c.index-luts-i.is c.loop-i.invariant.luts).1;
    }
