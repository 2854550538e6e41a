use Rattle.std.proofs.Common.{◌≡◌, ℕ, true, List, sym, ap, ap₂, ◌∙◌, subst, arith}
use Rattle.std.specs.List.{list_all}
use Rattle.syn_netlist.specs.Frames.{frame_in}
use Rattle.syn_netlist.specs.Numbers.{words_at}
use Rattle.syn_netlist.specs.Words.{has_word}
use Rattle.syn_netlist.proofs.Renumbering.{word_passes}
use Rattle.syn_compare.specs.Matching.{latch_names}
use Rattle.syn_compare.proofs.ordering.feed_numbers.Goals as goal

pub feed_number-requires-clause-index : goal.feed_number-requires-clause-index
feed_number-requires-clause-index c =
    ap₂ (λ (ws : List (List ℕ)) (ns : List ℕ). words_at ws ns) c.in_ok-index.ensures.names (c.in_ok-index.ensures.numbers ∙ c.as_slice.ensures.value) ∙ c.in_ok-own.ensures.words

pub feed_number-requires-clause-there : goal.feed_number-requires-clause-there
feed_number-requires-clause-there c =
    let o = c.args.order.now in
    let f = c.args.frame.now in
    let i : ℕ = c.loop-number.number-index in
    let named : List ℕ = c.as_slice-named.result.now in
    let are : words_at o.names named ≡ latch_names (frame_in o) = ap (words_at o.names) c.as_slice-named.ensures.value ∙ c.in_ok-named.ensures.words in
    let all : list_all (has_word (latch_names (frame_in f))) (words_at o.names named) ≡ true = subst (λ (ws : List (List ℕ)). list_all (has_word (latch_names (frame_in f))) ws ≡ true) (sym are) c.requires in
    subst (λ (w : List ℕ). has_word (latch_names (frame_in f)) w ≡ true) (sym c.word-word.ensures) (word_passes (has_word (latch_names (frame_in f))) o.names named i all (omega (arith, c.loop-number-test.true)))
