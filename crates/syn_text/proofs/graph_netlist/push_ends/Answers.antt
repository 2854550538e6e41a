use Rattle.std.proofs.Common.{◌≡◌, ℕ, List, [], ◌∷◌, ◌++◌, ◌+◌, ◌<◌, nat_lt, if◌then◌else◌, length, map, get_or, drop, sym, ap, ◌∙◌, arith}
use Rattle.syn_rows.specs.declared.Lit.{Lit}
use Rattle.syn_netlist.specs.Lists as lists
use Rattle.syn_netlist.specs.Numbers.{word_at, words_at}
use Rattle.syn_netlist.specs.Tables.{table_in}
use Rattle.syn_netlist.specs.Words.{has_word}
use Rattle.syn_netlist.proofs.Growing.{word_at-grows}
use Rattle.syn_network.specs.Spelling.{output_table, ends_from}
use Rattle.syn_text.specs.Numbered.{is_within}
use Rattle.syn_text.proofs.Tabling.{left_next, ends_next, all_next, item_below}
use Rattle.syn_text.proofs.graph_netlist.push_ends.Goals as goal

pub loop-i-preserved : goal.loop-i-preserved
loop-i-preserved c =
    let old : List (List ℕ) = c.args.sources.now.names.now in
    let known : List (List ℕ) = words_at old c.args.sources.now.numbers.items in
    let signals : List ℕ = c.args.signals.now in
    let lits : List Lit = c.args.observed.now in
    let none : Lit = record { 0 = 0 } in
    let i : ℕ = c.loop-i.i in
    let inside : i < length signals = c.loop-i-test.true in
    let there : i < length lits = omega (arith, inside, c.requires.count) in
    let pushed = c.in_ok-push_end.ensures in
    record {
      words = λ names grows.
          let nodes : List (List ℕ) = words_at names c.args.nodes.now in
          let word : List ℕ = word_at old (get_or signals i 0) in
          let before : List lists.Table = map (table_in names) c.loop-i.tables.items in
          let mine : List lists.Table = if has_word known word then [] else output_table nodes (word_at names (get_or signals i 0)) (get_or lits i none) ∷ [] in
          let rest : List lists.Table = ends_from known nodes (words_at names (drop (i + 1) signals)) (drop (i + 1) lits) in
          let all : List lists.Table = map (table_in names) c.args.tables.now.items ++ ends_from known nodes (words_at names signals) lits in
          let same : word ≡ word_at names (get_or signals i 0) = sym (word_at-grows old names (get_or signals i 0) grows (item_below (length old) signals i inside c.requires.signals)) in
          left_next before mine rest all (map (table_in names) c.push_end.new.tables.items) (pushed.words names)
          (ap (λ (ts : List lists.Table). before ++ ts) (sym (ends_next known names nodes signals lits i word inside there same)) ∙ c.loop-i.invariant.words names grows);
      below = λ count nodes_below signals_below start. pushed.below count nodes_below (item_below count signals i inside signals_below) (c.loop-i.invariant.below count nodes_below signals_below start);
      signals = all_next (λ n. nat_lt n (length old)) signals i 0 inside c.loop-i.invariant.signals;
      within = all_next (is_within (length c.args.nodes.now)) lits i none there c.loop-i.invariant.within;
    }
