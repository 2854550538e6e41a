use Rattle.std.proofs.Common.{ℕ, List, ◌++◌, ◌+◌, ◌<◌, length, map, get_or, drop, sym, ap, ◌∙◌, arith}
use Rattle.syn_rows.specs.declared.Row.{Row}
use Rattle.syn_rows.specs.declared.Row.TheVariants.{Free}
use Rattle.syn_netlist.specs.Lists as lists
use Rattle.syn_netlist.specs.Numbers.{word_at, words_at}
use Rattle.syn_netlist.specs.Tables.{table_in}
use Rattle.syn_network.specs.Spelling.{gate_table, gate_tables}
use Rattle.syn_text.specs.Numbered.{is_named_gate}
use Rattle.syn_text.proofs.Tabling.{left_next, gates_next, all_next, item_below}
use Rattle.syn_text.proofs.graph_netlist.push_gates.Goals as goal

pub loop-i-preserved : goal.loop-i-preserved
loop-i-preserved c =
    let rows : List Row = c.args.rows.now in
    let outputs : List ℕ = c.args.outputs.now in
    let i : ℕ = c.loop-i.i in
    let inside : i < length rows = c.loop-i-test.true in
    let there : i < length outputs = omega (arith, inside, c.requires.outputs) in
    let pushed = c.in_ok-push_gate.ensures in
    record {
      words = λ names.
          let nodes : List (List ℕ) = words_at names c.args.nodes.now in
          let before : List lists.Table = map (table_in names) c.loop-i.tables.items in
          let rest : List lists.Table = gate_tables nodes (drop (i + 1) rows) (words_at names (drop (i + 1) outputs)) in
          let all : List lists.Table = map (table_in names) c.args.tables.now.items ++ gate_tables nodes rows (words_at names outputs) in
          left_next before (gate_table nodes (get_or rows i Free) (word_at names (get_or outputs i 0))) rest all (map (table_in names) c.push_gate.new.tables.items) (pushed.words names)
          (ap (λ (ts : List lists.Table). before ++ ts) (sym (gates_next names nodes rows outputs i inside there)) ∙ c.loop-i.invariant.words names);
      below = λ count nodes_below outputs_below start. pushed.below count nodes_below (item_below count outputs i there outputs_below) (c.loop-i.invariant.below count nodes_below outputs_below start);
      gates = all_next (is_named_gate (length c.args.nodes.now)) rows i Free inside c.loop-i.invariant.gates;
    }
