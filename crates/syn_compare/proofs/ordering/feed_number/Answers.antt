use Rattle.std.proofs.Common.{◌≡◌, ◌<◌, ℕ, true, List, length, map, get_or, None, refl, sym, ap, ◌∙◌, subst, arith}
use Rattle.std.proofs.lemmas.List.{length-map}
use Rattle.syn_netlist.specs.declared.Latch.{Latch}
use Rattle.syn_netlist.specs.Frames.{frame_in}
use Rattle.syn_netlist.specs.Kept.{latch_in}
use Rattle.syn_netlist.specs.Lists.{latch_output}
use Rattle.syn_netlist.specs.Numbers.{word_at}
use Rattle.syn_netlist.specs.Words.{distinct, has_word}
use Rattle.syn_network.specs.GraphShape.{place}
use Rattle.syn_compare.specs.Matching.{latch_names}
use Rattle.syn_compare.proofs.Matched.{latches_once}
use Rattle.syn_compare.proofs.Ordered.{feed_below, feed_is}
use Rattle.syn_compare.proofs.ordering.feed_number.Goals as goal

pub place_of-place-requires-clause-once : goal.place_of-place-requires-clause-once
place_of-place-requires-clause-once c =
    let f = c.args.frame.now in
    subst (λ (ws : List (List ℕ)). distinct ws ≡ true) (sym c.requires.index) (latches_once (frame_in f) f.sources_once)

pub place_of-place-requires-clause-there : goal.place_of-place-requires-clause-there
place_of-place-requires-clause-there c = subst (λ (ws : List (List ℕ)). has_word ws c.args.word.now ≡ true) (sym c.requires.index) c.requires.there

-- as many numbers as latches
many : (names own : List (List ℕ)) (numbers : List ℕ) (latches : List Latch) (words : List (List ℕ)) → map (word_at names) numbers ≡ words → words ≡ map latch_output (map (latch_in own) latches) → length numbers ≡ length latches
many names own numbers latches words e f =
    sym (length-map numbers (word_at names)) ∙ ap (λ (ws : List (List ℕ)). length ws) (e ∙ f) ∙ length-map (map (latch_in own) latches) latch_output ∙ length-map latches (latch_in own)

pub feed_at-requires : goal.feed_at-requires
feed_at-requires c =
    let f = c.args.frame.now in
    let index = c.args.index.now in
    let same = many index.names.now f.names index.numbers.now f.latches (latch_names (frame_in f)) c.requires.index refl in
    omega (arith, c.place_of-place.ensures.below, same, ap (λ (ls : List Latch). length ls) c.as_slice.ensures)

pub returns-clause-below : goal.returns-clause-below
returns-clause-below c =
    let f = c.args.frame.now in
    let index = c.args.index.now in
    let d : Latch = record { feed = 0; output = 0; kind = None; init = 0; init_small = omega arith } in
    let same = many index.names.now f.names index.numbers.now f.latches (latch_names (frame_in f)) c.requires.index refl in
    let low : c.place_of-place.result < length f.latches = omega (arith, c.place_of-place.ensures.below, same) in
    subst (λ (n : ℕ). n < length f.names) (sym (c.feed_at.ensures d ∙ ap (λ (ls : List Latch). (get_or ls c.place_of-place.result d).feed) c.as_slice.ensures)) (feed_below (length f.names) f.latches c.place_of-place.result d f.latches_below low)

pub returns-clause-word : goal.returns-clause-word
returns-clause-word c =
    let f = c.args.frame.now in
    let index = c.args.index.now in
    let d : Latch = record { feed = 0; output = 0; kind = None; init = 0; init_small = omega arith } in
    let same = many index.names.now f.names index.numbers.now f.latches (latch_names (frame_in f)) c.requires.index refl in
    let low : c.place_of-place.result < length f.latches = omega (arith, c.place_of-place.ensures.below, same) in
    feed_is f.names f.latches c.args.word.now c.place_of-place.result c.feed_at.result d c.requires.there
    (c.place_of-place.ensures.place ∙ ap (λ (ws : List (List ℕ)). place c.args.word.now ws) c.requires.index) low
    (c.feed_at.ensures d ∙ ap (λ (ls : List Latch). (get_or ls c.place_of-place.result d).feed) c.as_slice.ensures)
