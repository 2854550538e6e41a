-- The whole netlist of a graph, from the numbers of its names.
use Rattle.std.proofs.Common.{◌≡◌, ℕ, suc, ◌+◌, ◌-◌, ◌^◌, ◌<◌, ◌≤◌, ◌&&◌, nat_le, true, false, List, [], ◌∷◌, ◌++◌, length, map, take, drop, refl, sym, ap, ap₂, ◌∙◌, arith}
use Rattle.std.specs.List.{list_all, AllByRecursion}
use Rattle.std.proofs.lemmas.Bool.{and_from, both_ways, le-leb}
use Rattle.std.proofs.lemmas.List.{take_rest, length-map, length-append, length-drop, map-append}
use Rattle.std.proofs.lemmas.List.Elements.{recursion_from_All}
use Rattle.syn_rows.specs.declared.Lit.{Lit}
use Rattle.syn_rows.specs.declared.Row.{Row}
use Rattle.syn_rows.specs.declared.Row.TheVariants.{And}
use Rattle.syn_rows.specs.Rows.{node_of}
use Rattle.syn_netlist.specs.declared.frames.Frame as code
use Rattle.syn_netlist.specs.Frames.{frame_in}
use Rattle.syn_netlist.specs.Lists.{Frame, Table, output_of, sources, observed}
use Rattle.syn_netlist.specs.Numbers.{word_at, words_at, all_below}
use Rattle.syn_netlist.specs.Words.{distinct}
use Rattle.syn_netlist.proofs.Growing.{words_at-grows, all_below-more, length-grows}
use Rattle.syn_netlist.proofs.Places.{all_below-append}
use Rattle.syn_network.specs.NamedGraphs.{IsNamedGraph}
use Rattle.syn_network.specs.Spelling.{inner_names, gates_of, gate_tables, ends_from, network}
use Rattle.syn_network.proofs.Inner.{length-inner_names}
use Rattle.syn_network.proofs.Gates.{AreGates, hashed_gates, gate_parts, first_there, first_below, second_there}
use Rattle.syn_network.proofs.SpelledNetworks.{network_spells}
use Rattle.syn_text.specs.Numbered.{is_named, is_within, is_named_gate, IsNumbered}
use Rattle.syn_network.proofs.Observing.{few_signals}

-- what the parts have of a graph

gates_named : (count n : ℕ) (rows : List Row) → AreGates n rows → n + length rows ≤ count + 1 → list_all (is_named_gate count) rows ≡ true
gates_named count n [] g fits = refl
gates_named count n (And a b ∷ rows) g fits =
    let parts = gate_parts n a b g.0 in
    let below = first_below n a b parts in
    and_from (is_named count a && is_named count b) (list_all (is_named_gate count) rows)
    (and_from (is_named count a) (is_named count b) (named a (first_there n a b parts) (omega (arith, below, fits))) (named b (second_there n a b parts) (omega (arith, parts.below, fits))))
    (gates_named count (suc n) rows g.1 (omega (arith, fits)))
  where
    named : (l : Lit) → 1 ≤ node_of l → node_of l ≤ count → is_named count l ≡ true
    named l low high = and_from (nat_le 1 (node_of l)) (nat_le (node_of l) count) (le-leb 1 (node_of l) low) (le-leb (node_of l) count high)
gates_named count n (row ∷ rows) g fits = absurd (both_ways false refl g.0)

pub all_within : (count : ℕ) (lits : List Lit) → AllByRecursion (λ l. node_of l ≤ count) lits → list_all (is_within count) lits ≡ true
all_within count [] h = refl
all_within count (l ∷ ls) h = and_from (is_within count l) (list_all (is_within count) ls) (le-leb (node_of l) count h.0) (all_within count ls h.1)

pub length-sources : (frame : Frame) (old : List (List ℕ)) (srcs : List ℕ) → words_at old srcs ≡ sources frame → length srcs ≡ length (sources frame)
length-sources frame old srcs e = sym (length-map srcs (word_at old)) ∙ ap (λ (ws : List (List ℕ)). length ws) e

-- what is taken are fewer than the sources and the names together allow
pub few_taken : (frame : Frame) (names : List (List ℕ)) (srcs signals : List ℕ) → length srcs < 2 ^ 32 → length names < 2 ^ 32
    → words_at names signals ≡ observed frame → all_below (length names) signals ≡ true → length (srcs ++ signals) < 2 ^ 34
few_taken frame names srcs signals few_srcs few signal_words below =
    omega (arith, few_srcs, few, length-append srcs signals, few_signals frame names signals signal_words below)

-- the names that were found are the inner names
pub found_names : (frame : Frame) (names : List (List ℕ)) (srcs signals : List ℕ) (count : ℕ) (found : List (List ℕ)) → words_at names srcs ≡ sources frame → words_at names signals ≡ observed frame
    → found ≡ inner_names (words_at names (srcs ++ signals)) count → found ≡ inner_names (sources frame ++ observed frame) count
found_names frame names srcs signals count found src_words signal_words h =
    h ∙ ap (λ (ts : List (List ℕ)). inner_names ts count) (map-append (word_at names) srcs signals ∙ ap₂ (λ (xs ys : List (List ℕ)). xs ++ ys) src_words signal_words)

pub length-inner : (frame : Frame) (count : ℕ) (names more : List (List ℕ)) (srcs signals inner : List ℕ) → IsNumbered frame count names more srcs signals inner → length inner ≡ count
length-inner frame count names more srcs signals inner n =
    sym (length-map inner (word_at more)) ∙ ap (λ (ws : List (List ℕ)). length ws) n.inner_words ∙ length-inner_names (sources frame ++ observed frame) count

-- the slice of rows behind the sources
pub gates_slice : (frame : Frame) (rows : List Row) (names : List (List ℕ)) (srcs : List ℕ) → words_at names srcs ≡ sources frame → take (length rows - (length srcs + 1)) (drop (length srcs + 1) rows) ≡ gates_of frame rows
gates_slice frame rows names srcs e = take_rest rows (length srcs + 1) ∙ ap (λ k. drop (k + 1) rows) (length-sources frame names srcs e)

length-nodes : (frame : Frame) (rows : List Row) (lits : List Lit) (names more : List (List ℕ)) (srcs signals inner : List ℕ) → IsNamedGraph frame rows lits → IsNumbered frame (length (gates_of frame rows)) names more srcs signals inner → length (srcs ++ inner) + 1 ≡ length rows
length-nodes frame rows lits names more srcs signals inner graph n =
    omega (arith, length-append srcs inner, length-sources frame names srcs n.source_words, length-inner frame (length (gates_of frame rows)) names more srcs signals inner n, length-drop (length (sources frame) + 1) rows, graph.hashed.there)

pub gates_are_named : (frame : Frame) (rows : List Row) (lits : List Lit) (names more : List (List ℕ)) (srcs signals inner : List ℕ) → IsNamedGraph frame rows lits → IsNumbered frame (length (gates_of frame rows)) names more srcs signals inner
    → list_all (is_named_gate (length (srcs ++ inner))) (gates_of frame rows) ≡ true
gates_are_named frame rows lits names more srcs signals inner graph n =
    gates_named (length (srcs ++ inner)) (length (sources frame) + 1) (gates_of frame rows) (hashed_gates (length (sources frame)) rows graph.hashed)
    (omega (arith, length-nodes frame rows lits names more srcs signals inner graph n, length-drop (length (sources frame) + 1) rows, graph.hashed.there))

pub lits_are_within : (frame : Frame) (rows : List Row) (lits : List Lit) (names more : List (List ℕ)) (srcs signals inner : List ℕ) → IsNamedGraph frame rows lits → IsNumbered frame (length (gates_of frame rows)) names more srcs signals inner
    → list_all (is_within (length (srcs ++ inner))) lits ≡ true
lits_are_within frame rows lits names more srcs signals inner graph n =
    all_within (length (srcs ++ inner)) lits
    (recursion_from_All (λ l. node_of l ≤ length (srcs ++ inner)) lits (λ k d lt. omega (arith, graph.within k d lt, length-nodes frame rows lits names more srcs signals inner graph n)))

pub count_of_lits : (frame : Frame) (rows : List Row) (lits : List Lit) (names : List (List ℕ)) (signals : List ℕ) → IsNamedGraph frame rows lits → words_at names signals ≡ observed frame → length lits ≡ length signals
count_of_lits frame rows lits names signals graph e = graph.count ∙ sym (ap (λ (ws : List (List ℕ)). length ws) e) ∙ length-map signals (word_at names)

-- the tables in words

-- the words of the nodes' names, and of the observed signals
pub node_words : (frame : Frame) (count : ℕ) (names more : List (List ℕ)) (srcs signals inner : List ℕ) → IsNumbered frame count names more srcs signals inner
    → words_at more (srcs ++ inner) ≡ sources frame ++ inner_names (sources frame ++ observed frame) count
node_words frame count names more srcs signals inner n =
    map-append (word_at more) srcs inner ∙ ap₂ (λ (xs ys : List (List ℕ)). xs ++ ys) (words_at-grows names more srcs n.grows n.source_below ∙ n.source_words) n.inner_words

pub signal_words : (frame : Frame) (count : ℕ) (names more : List (List ℕ)) (srcs signals inner : List ℕ) → IsNumbered frame count names more srcs signals inner → words_at more signals ≡ observed frame
signal_words frame count names more srcs signals inner n = words_at-grows names more signals n.grows n.signal_below ∙ n.signal_words

-- the tables of the observed signals
pub ends_are : (frame : Frame) (count : ℕ) (lits : List Lit) (names more : List (List ℕ)) (srcs signals inner : List ℕ) → IsNumbered frame count names more srcs signals inner
    → ends_from (words_at names srcs) (words_at more (srcs ++ inner)) (words_at more signals) lits ≡ ends_from (sources frame) (sources frame ++ inner_names (sources frame ++ observed frame) count) (observed frame) lits
ends_are frame count lits names more srcs signals inner n =
    ap₂ (λ (ks ns : List (List ℕ)). ends_from ks ns (words_at more signals) lits) n.source_words (node_words frame count names more srcs signals inner n)
    ∙ ap (λ (ws : List (List ℕ)). ends_from (sources frame) (sources frame ++ inner_names (sources frame ++ observed frame) count) ws lits) (signal_words frame count names more srcs signals inner n)

pub tables_are : (frame : Frame) (rows : List Row) (lits : List Lit) (names more : List (List ℕ)) (srcs signals inner : List ℕ) → IsNumbered frame (length (gates_of frame rows)) names more srcs signals inner
    → gate_tables (words_at more (srcs ++ inner)) (gates_of frame rows) (words_at more inner) ++ ends_from (words_at names srcs) (words_at more (srcs ++ inner)) (words_at more signals) lits ≡ (network frame rows lits).tables
tables_are frame rows lits names more srcs signals inner n =
    ap₂ (λ (xs ys : List Table). xs ++ ys) (ap₂ (λ (ns is : List (List ℕ)). gate_tables ns (gates_of frame rows) is) (node_words frame (length (gates_of frame rows)) names more srcs signals inner n) n.inner_words)
    (ends_are frame (length (gates_of frame rows)) lits names more srcs signals inner n)

pub nodes_below : (frame : Frame) (count : ℕ) (names more : List (List ℕ)) (srcs signals inner : List ℕ) → IsNumbered frame count names more srcs signals inner → all_below (length more) (srcs ++ inner) ≡ true
nodes_below frame count names more srcs signals inner n =
    all_below-append (length more) srcs inner (all_below-more (length names) (length more) srcs (length-grows names more n.grows) n.source_below) n.inner_below

pub signals_below : (frame : Frame) (count : ℕ) (names more : List (List ℕ)) (srcs signals inner : List ℕ) → IsNumbered frame count names more srcs signals inner → all_below (length more) signals ≡ true
signals_below frame count names more srcs signals inner n = all_below-more (length names) (length more) signals (length-grows names more n.grows) n.signal_below

-- the netlist of a graph defines no name twice
pub network_once : (frame : code.Frame) (rows : List Row) (lits : List Lit) → IsNamedGraph (frame_in frame) rows lits → distinct (sources (frame_in frame) ++ map output_of (network (frame_in frame) rows lits).tables) ≡ true
network_once frame rows lits graph = (network_spells (frame_in frame) rows lits frame.clocks_once frame.sources_once graph).ordered.once.all
