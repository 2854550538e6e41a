use Rattle.std.proofs.Common.{◌≡◌, ℕ, List, ◌++◌, ◌+◌, ◌-◌, length, map, take, drop, sym, ap, ap₂, ◌∙◌, subst, rules}
use Rattle.std.specs.List.{list_all}
use Rattle.syn_rows.specs.declared.Lit.{Lit}
use Rattle.syn_rows.specs.declared.Row.{Row}
use Rattle.syn_netlist.specs.declared.tables as code
use Rattle.syn_netlist.specs.Frames.{frame_in}
use Rattle.syn_netlist.specs.Lists as lists
use Rattle.syn_netlist.specs.Numbers.{words_at, all_below, Grows}
use Rattle.syn_netlist.specs.Tables.{table_in, tables_below}
use Rattle.syn_network.specs.Spelling.{gates_of, gate_tables, ends_from}
use Rattle.syn_text.specs.Numbered.{is_named_gate, is_within}
use Rattle.syn_text.proofs.Whole.{gates_slice, gates_are_named, length-inner, lits_are_within, tables_are, nodes_below, signals_below}
use Rattle.syn_text.proofs.graph_netlist.tables_of.Goals as goal

pub push_gates-requires-clause-gates : goal.push_gates-requires-clause-gates
push_gates-requires-clause-gates c =
    let n = c.args.naming.now in
    let frame : lists.Frame = frame_in n.frame.now in
    let rows : List Row = c.args.rows.now in
    let srcs : List ℕ = n.sources.numbers.items in
    let nodes : c.deref-3.result.now ≡ srcs ++ n.inner.items = search rules in
    let count : c.len.result ≡ length srcs = search rules in
    ap₂ (λ (ns : List ℕ) (k : ℕ). list_all (is_named_gate (length ns)) (take (length rows - (k + 1)) (drop (k + 1) rows))) nodes count
    ∙ ap (list_all (is_named_gate (length (srcs ++ n.inner.items)))) (gates_slice frame rows n.frame.now.names srcs c.requires.numbered.source_words)
    ∙ gates_are_named frame rows c.args.observed.now n.frame.now.names n.names srcs n.signals.items n.inner.items c.requires.graph c.requires.numbered

pub push_gates-requires-clause-outputs : goal.push_gates-requires-clause-outputs
push_gates-requires-clause-outputs c =
    let n = c.args.naming.now in
    let frame : lists.Frame = frame_in n.frame.now in
    let rows : List Row = c.args.rows.now in
    let srcs : List ℕ = n.sources.numbers.items in
    let inner : c.deref-4.result.now ≡ n.inner.items = search rules in
    let count : c.len.result ≡ length srcs = search rules in
    ap (λ (l : List ℕ). length l) inner
    ∙ length-inner frame (length (gates_of frame rows)) n.frame.now.names n.names srcs n.signals.items n.inner.items c.requires.numbered
    ∙ sym (ap (λ (k : ℕ). length (take (length rows - (k + 1)) (drop (k + 1) rows))) count ∙ ap (λ (l : List Row). length l) (gates_slice frame rows n.frame.now.names srcs c.requires.numbered.source_words))

pub push_ends-requires-clause-within : goal.push_ends-requires-clause-within
push_ends-requires-clause-within c =
    let n = c.args.naming.now in
    let nodes : c.deref-5.result.now ≡ n.sources.numbers.items ++ n.inner.items = search rules in
    ap (λ (ns : List ℕ). list_all (is_within (length ns)) c.args.observed.now) nodes
    ∙ lits_are_within (frame_in n.frame.now) c.args.rows.now c.args.observed.now n.frame.now.names n.names n.sources.numbers.items n.signals.items n.inner.items c.requires.graph c.requires.numbered

pub returns-clause-words : goal.returns-clause-words
returns-clause-words c =
    let n = c.args.naming.now in
    let frame : lists.Frame = frame_in n.frame.now in
    let rows : List Row = c.args.rows.now in
    let lits : List Lit = c.args.observed.now in
    let more : List (List ℕ) = n.names in
    let srcs : List ℕ = n.sources.numbers.items in
    let inner : List ℕ = n.inner.items in
    let nodes : c.deref-3.result.now ≡ srcs ++ inner = search rules in
    let nodes_again : c.deref-5.result.now ≡ srcs ++ inner = search rules in
    let outputs : c.deref-4.result.now ≡ inner = search rules in
    let signals : c.deref-6.result.now ≡ n.signals.items = search rules in
    let count : c.len.result ≡ length srcs = search rules in
    let grows : Grows n.sources.names.now more = subst (λ (l : List (List ℕ)). Grows l more) (sym n.same) c.requires.numbered.grows in
    let slice : take (length rows - (c.len.result + 1)) (drop (c.len.result + 1) rows) ≡ gates_of frame rows =
    ap (λ (k : ℕ). take (length rows - (k + 1)) (drop (k + 1) rows)) count ∙ gates_slice frame rows n.frame.now.names srcs c.requires.numbered.source_words in
    let gates : map (table_in more) c.push_gates.new.tables.items ≡ gate_tables (words_at more (srcs ++ inner)) (gates_of frame rows) (words_at more inner) =
    c.in_ok-push_gates.ensures.words more
    ∙ ap (λ (ts : List code.Table.Table). map (table_in more) ts ++ gate_tables (words_at more c.deref-3.result.now) (take (length rows - (c.len.result + 1)) (drop (c.len.result + 1) rows)) (words_at more c.deref-4.result.now)) c.new-tables.ensures.items
    ∙ ap₂ (λ (ns : List ℕ) (rs : List Row). gate_tables (words_at more ns) rs (words_at more c.deref-4.result.now)) nodes slice
    ∙ ap (λ (os : List ℕ). gate_tables (words_at more (srcs ++ inner)) (gates_of frame rows) (words_at more os)) outputs in
    let ends : ends_from (words_at n.sources.names.now srcs) (words_at more c.deref-5.result.now) (words_at more c.deref-6.result.now) lits ≡ ends_from (words_at n.frame.now.names srcs) (words_at more (srcs ++ inner)) (words_at more n.signals.items) lits =
    ap₂ (λ (ns ss : List ℕ). ends_from (words_at n.sources.names.now srcs) (words_at more ns) (words_at more ss) lits) nodes_again signals
    ∙ ap (λ (l : List (List ℕ)). ends_from (words_at l srcs) (words_at more (srcs ++ inner)) (words_at more n.signals.items) lits) n.same in
    c.in_ok-push_ends.ensures.words more grows
    ∙ ap₂ (λ (xs ys : List lists.Table). xs ++ ys) gates ends
    ∙ tables_are frame rows lits n.frame.now.names more srcs n.signals.items inner c.requires.numbered

pub returns-clause-below : goal.returns-clause-below
returns-clause-below c =
    let n = c.args.naming.now in
    let frame : lists.Frame = frame_in n.frame.now in
    let rows : List Row = c.args.rows.now in
    let more : List (List ℕ) = n.names in
    let srcs : List ℕ = n.sources.numbers.items in
    let inner : List ℕ = n.inner.items in
    let nodes : c.deref-3.result.now ≡ srcs ++ inner = search rules in
    let nodes_again : c.deref-5.result.now ≡ srcs ++ inner = search rules in
    let outputs : c.deref-4.result.now ≡ inner = search rules in
    let signals : c.deref-6.result.now ≡ n.signals.items = search rules in
    let all = nodes_below frame (length (gates_of frame rows)) n.frame.now.names more srcs n.signals.items inner c.requires.numbered in
    c.in_ok-push_ends.ensures.below (length more) (ap (all_below (length more)) nodes_again ∙ all)
    (ap (all_below (length more)) signals ∙ signals_below frame (length (gates_of frame rows)) n.frame.now.names more srcs n.signals.items inner c.requires.numbered)
    (c.in_ok-push_gates.ensures.below (length more) (ap (all_below (length more)) nodes ∙ all) (ap (all_below (length more)) outputs ∙ c.requires.numbered.inner_below)
    (ap (tables_below (length more)) c.new-tables.ensures.items))
