use Rattle.std.proofs.Common.{◌≡◌, ℕ, ◌<◌, true, All, List, length, map, sym, ap, ◌∙◌, subst, arith}
use Rattle.std.specs.List.{list_all}
use Rattle.std.proofs.lemmas.List.{length-map}
use Rattle.syn_rows.specs.declared.Lit.{Lit}
use Rattle.syn_rows.specs.Rows.{node_of}
use Rattle.syn_netlist.specs.Frames.{frame_in}
use Rattle.syn_netlist.specs.Lists.{Frame, observed, sources}
use Rattle.syn_netlist.specs.Numbers.{all_below, words_at}
use Rattle.syn_netlist.specs.Words.{has_word}
use Rattle.syn_network.specs.GraphShape.{place}
use Rattle.syn_compare.specs.Comparing.{signals}
use Rattle.syn_compare.specs.Ordering.{lit_of}
use Rattle.syn_compare.specs.Places.{places_in}
use Rattle.syn_compare.proofs.Ordered.{length-signals, lits_within, ordered_is, places_below, signals_observed, three_ok}
use Rattle.syn_compare.proofs.ordering.ordered.Goals as goal

-- the literals, as the code has them
are : (names : List (List ℕ)) (order frame : Frame) (numbers slice : List ℕ) (all lits seen : List Lit) → slice ≡ numbers → words_at names numbers ≡ signals order frame
    → lits ≡ map (lit_of (observed frame) all) (words_at names slice) → seen ≡ lits → seen ≡ map (lit_of (observed frame) all) (signals order frame)
are names order frame numbers slice all lits seen e f g h = h ∙ g ∙ ap (map (lit_of (observed frame) all)) (ap (words_at names) e ∙ f)

pub literals-requires-clause-there : goal.literals-requires-clause-there
literals-requires-clause-there c =
    let order : Frame = frame_in c.args.order.now in
    let x = c.args.network.now in
    let words = ap (words_at x.frame.names) c.as_slice.ensures.value ∙ c.in_ok-numbers.ensures.words in
    subst (λ (ws : List (List ℕ)). list_all (has_word (observed (frame_in x.frame))) ws ≡ true) (sym words) (signals_observed order (frame_in x.frame) c.requires.suits)

pub renamed-requires-clause-count : goal.renamed-requires-clause-count
renamed-requires-clause-count c =
    let order : Frame = frame_in c.args.order.now in
    let x = c.args.network.now in
    ap (λ (ps : List ℕ). length ps) (c.as_slice-2.ensures.value ∙ c.in_ok-places.ensures) ∙ length-map (sources (frame_in x.frame)) (λ word. place word (sources order)) ∙ sym x.named.sources_are

pub renamed-requires-clause-below : goal.renamed-requires-clause-below
renamed-requires-clause-below c =
    let order : Frame = frame_in c.args.order.now in
    let frame : Frame = frame_in c.args.network.now.frame in
    let long : length (places_in (sources order) (sources frame)) ≡ length (sources order) = length-map (sources frame) (λ word. place word (sources order)) ∙ c.requires.suits.count in
    subst (λ (ps : List ℕ). all_below (length ps) ps ≡ true) (sym (c.as_slice-2.ensures.value ∙ c.in_ok-places.ensures))
    (subst (λ (k : ℕ). all_below k (places_in (sources order) (sources frame)) ≡ true) (sym long) (places_below (sources order) (sources frame) c.requires.suits.sources_are))

pub renamed-requires-clause-within : goal.renamed-requires-clause-within
renamed-requires-clause-within c =
    let order : Frame = frame_in c.args.order.now in
    let x = c.args.network.now in
    let lits = are x.frame.names order (frame_in x.frame) c.in_ok-numbers.numbers.items c.as_slice.result.now x.body.observed c.in_ok-lits.lits.items c.as_slice-3.result.now c.as_slice.ensures.value c.in_ok-numbers.ensures.words c.in_ok-lits.ensures c.as_slice-3.ensures.value in
    subst (All (λ l. node_of l < length x.body.rows)) (sym lits)
    (lits_within (length x.body.rows) (observed (frame_in x.frame)) x.body.observed (signals order (frame_in x.frame)) x.named.observed_are x.body.graph.within (signals_observed order (frame_in x.frame) c.requires.suits))

pub renamed-requires-clause-few : goal.renamed-requires-clause-few
renamed-requires-clause-few c =
    let order : Frame = frame_in c.args.order.now in
    let x = c.args.network.now in
    let lits = are x.frame.names order (frame_in x.frame) c.in_ok-numbers.numbers.items c.as_slice.result.now x.body.observed c.in_ok-lits.lits.items c.as_slice-3.result.now c.as_slice.ensures.value c.in_ok-numbers.ensures.words c.in_ok-lits.ensures c.as_slice-3.ensures.value in
    omega (
      arith,
      ap (λ (ls : List Lit). length ls) lits,
      length-map (signals order (frame_in x.frame)) (lit_of (observed (frame_in x.frame)) x.body.observed),
      length-signals order (frame_in x.frame),
      c.requires.few,
    )

pub returns : goal.returns
returns c =
    let order : Frame = frame_in c.args.order.now in
    let x = c.args.network.now in
    let lits = are x.frame.names order (frame_in x.frame) c.in_ok-numbers.numbers.items c.as_slice.result.now x.body.observed c.in_ok-lits.lits.items c.as_slice-3.result.now c.as_slice.ensures.value c.in_ok-numbers.ensures.words c.in_ok-lits.ensures c.as_slice-3.ensures.value in
    three_ok c.renamed.result
    (λ g same count values. ordered_is order x c.as_slice-2.result.now c.as_slice-3.result.now g c.requires.suits (c.as_slice-2.ensures.value ∙ c.in_ok-places.ensures) lits same count values)
    c.renamed.ensures.sources c.renamed.ensures.count c.renamed.ensures.values
