use Rattle.std.proofs.Common.{◌≡◌, ℕ, List, ◌++◌, length, map, sym, ap, ap₂, ◌∙◌, subst, rules}
use Rattle.std.specs.List.{list_all}
use Rattle.std.proofs.lemmas.List.{length-map}
use Rattle.syn_rows.specs.declared.Lit.{Lit}
use Rattle.syn_netlist.specs.declared.tables as code
use Rattle.syn_netlist.specs.Frames.{frame_in}
use Rattle.syn_netlist.specs.Lists as lists
use Rattle.syn_netlist.specs.Numbers.{words_at, all_below, Grows}
use Rattle.syn_netlist.specs.Tables.{table_in, tables_below}
use Rattle.syn_network.specs.Spelling.{ends_from}
use Rattle.syn_network.specs.LutSpelling.{lut_tables_of}
use Rattle.syn_lutnet.specs.declared.luts.Lut.{Lut}
use Rattle.syn_lutnet.specs.Data.{lut_data, luts_data}
use Rattle.syn_text.specs.Numbered.{IsNumbered, is_within, reads_named}
use Rattle.syn_text.proofs.Whole.{length-inner, nodes_below, signals_below}
use Rattle.syn_text.proofs.LutWhole.{luts_are_named, lut_lits_within, count_of_lits, lut_tables_are}
use Rattle.syn_text.proofs.lut_netlist.tables_of.Goals as goal

-- the LUTs are as many as their data
numbered_data : (frame : lists.Frame) (luts : List Lut) (names more : List (List ℕ)) (srcs signals inner : List ℕ) → IsNumbered frame (length luts) names more srcs signals inner → IsNumbered frame (length (luts_data luts)) names more srcs signals inner
numbered_data frame luts names more srcs signals inner n = subst (λ k. IsNumbered frame k names more srcs signals inner) (sym (length-map luts lut_data)) n

pub push_luts-requires-clause-luts : goal.push_luts-requires-clause-luts
push_luts-requires-clause-luts c =
    let n = c.args.naming.now in
    let nodes : c.deref-3.result.now ≡ n.sources.numbers.items ++ n.inner.items = search rules in
    ap (λ (ns : List ℕ). list_all (reads_named (length ns)) (luts_data c.args.luts.now)) nodes
    ∙ luts_are_named (frame_in n.frame.now) (luts_data c.args.luts.now) c.args.observed.now n.frame.now.names n.names n.sources.numbers.items n.signals.items n.inner.items c.requires.net
    (numbered_data (frame_in n.frame.now) c.args.luts.now n.frame.now.names n.names n.sources.numbers.items n.signals.items n.inner.items c.requires.numbered)

pub push_luts-requires-clause-outputs : goal.push_luts-requires-clause-outputs
push_luts-requires-clause-outputs c =
    let n = c.args.naming.now in
    let inner : c.deref-4.result.now ≡ n.inner.items = search rules in
    ap (λ (l : List ℕ). length l) inner ∙ length-inner (frame_in n.frame.now) (length c.args.luts.now) n.frame.now.names n.names n.sources.numbers.items n.signals.items n.inner.items c.requires.numbered

pub push_ends-requires-clause-count : goal.push_ends-requires-clause-count
push_ends-requires-clause-count c =
    let n = c.args.naming.now in
    let signals : c.deref-6.result.now ≡ n.signals.items = search rules in
    count_of_lits (frame_in n.frame.now) (luts_data c.args.luts.now) c.args.observed.now n.frame.now.names n.names n.sources.numbers.items n.signals.items n.inner.items c.requires.net
    (numbered_data (frame_in n.frame.now) c.args.luts.now n.frame.now.names n.names n.sources.numbers.items n.signals.items n.inner.items c.requires.numbered)
    ∙ sym (ap (λ (l : List ℕ). length l) signals)

pub push_ends-requires-clause-within : goal.push_ends-requires-clause-within
push_ends-requires-clause-within c =
    let n = c.args.naming.now in
    let nodes : c.deref-5.result.now ≡ n.sources.numbers.items ++ n.inner.items = search rules in
    ap (λ (ns : List ℕ). list_all (is_within (length ns)) c.args.observed.now) nodes
    ∙ lut_lits_within (frame_in n.frame.now) (luts_data c.args.luts.now) c.args.observed.now n.frame.now.names n.names n.sources.numbers.items n.signals.items n.inner.items c.requires.net
    (numbered_data (frame_in n.frame.now) c.args.luts.now n.frame.now.names n.names n.sources.numbers.items n.signals.items n.inner.items c.requires.numbered)

pub returns-clause-words : goal.returns-clause-words
returns-clause-words c =
    let n = c.args.naming.now in
    let frame : lists.Frame = frame_in n.frame.now in
    let luts = luts_data c.args.luts.now in
    let lits : List Lit = c.args.observed.now in
    let more : List (List ℕ) = n.names in
    let srcs : List ℕ = n.sources.numbers.items in
    let inner : List ℕ = n.inner.items in
    let nodes : c.deref-3.result.now ≡ srcs ++ inner = search rules in
    let nodes_again : c.deref-5.result.now ≡ srcs ++ inner = search rules in
    let outputs : c.deref-4.result.now ≡ inner = search rules in
    let signals : c.deref-6.result.now ≡ n.signals.items = search rules in
    let grows : Grows n.sources.names.now more = subst (λ (l : List (List ℕ)). Grows l more) (sym n.same) c.requires.numbered.grows in
    let tables : map (table_in more) c.push_luts.new.tables.items ≡ lut_tables_of (words_at more (srcs ++ inner)) luts (words_at more inner) =
    c.in_ok-push_luts.ensures.words more
    ∙ ap (λ (ts : List code.Table.Table). map (table_in more) ts ++ lut_tables_of (words_at more c.deref-3.result.now) luts (words_at more c.deref-4.result.now)) c.new-tables.ensures.items
    ∙ ap₂ (λ (ns os : List ℕ). lut_tables_of (words_at more ns) luts (words_at more os)) nodes outputs in
    let ends : ends_from (words_at n.sources.names.now srcs) (words_at more c.deref-5.result.now) (words_at more c.deref-6.result.now) lits ≡ ends_from (words_at n.frame.now.names srcs) (words_at more (srcs ++ inner)) (words_at more n.signals.items) lits =
    ap₂ (λ (ns ss : List ℕ). ends_from (words_at n.sources.names.now srcs) (words_at more ns) (words_at more ss) lits) nodes_again signals
    ∙ ap (λ (l : List (List ℕ)). ends_from (words_at l srcs) (words_at more (srcs ++ inner)) (words_at more n.signals.items) lits) n.same in
    c.in_ok-push_ends.ensures.words more grows
    ∙ ap₂ (λ (xs ys : List lists.Table). xs ++ ys) tables ends
    ∙ lut_tables_are frame luts lits n.frame.now.names more srcs n.signals.items inner c.requires.net (numbered_data frame c.args.luts.now n.frame.now.names more srcs n.signals.items inner c.requires.numbered)

pub returns-clause-below : goal.returns-clause-below
returns-clause-below c =
    let n = c.args.naming.now in
    let frame : lists.Frame = frame_in n.frame.now in
    let count : ℕ = length c.args.luts.now in
    let more : List (List ℕ) = n.names in
    let srcs : List ℕ = n.sources.numbers.items in
    let inner : List ℕ = n.inner.items in
    let nodes : c.deref-3.result.now ≡ srcs ++ inner = search rules in
    let nodes_again : c.deref-5.result.now ≡ srcs ++ inner = search rules in
    let outputs : c.deref-4.result.now ≡ inner = search rules in
    let signals : c.deref-6.result.now ≡ n.signals.items = search rules in
    let all = nodes_below frame count n.frame.now.names more srcs n.signals.items inner c.requires.numbered in
    c.in_ok-push_ends.ensures.below (length more) (ap (all_below (length more)) nodes_again ∙ all)
    (ap (all_below (length more)) signals ∙ signals_below frame count n.frame.now.names more srcs n.signals.items inner c.requires.numbered)
    (c.in_ok-push_luts.ensures.below (length more) (ap (all_below (length more)) nodes ∙ all) (ap (all_below (length more)) outputs ∙ c.requires.numbered.inner_below)
    (ap (tables_below (length more)) c.new-tables.ensures.items))
