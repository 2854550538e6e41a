use Rattle.std.proofs.Common.{◌≡◌, ℕ, true, List, sym, ap₂, ◌∙◌, subst, arith}
use Rattle.syn_netlist.specs.Frames.{frame_in}
use Rattle.syn_netlist.specs.Lists.{observed}
use Rattle.syn_netlist.specs.Numbers.{words_at}
use Rattle.syn_netlist.specs.Words.{has_word}
use Rattle.syn_netlist.proofs.Renumbering.{word_passes}
use Rattle.syn_compare.proofs.ordering.literals.Goals as goal

pub literal-requires-clause-index : goal.literal-requires-clause-index
literal-requires-clause-index c =
    ap₂ (λ (ws : List (List ℕ)) (ns : List ℕ). words_at ws ns) c.in_ok-index.ensures.names (c.in_ok-index.ensures.numbers ∙ c.as_slice.ensures.value) ∙ c.in_ok-own.ensures.words

pub literal-requires-clause-there : goal.literal-requires-clause-there
literal-requires-clause-there c =
    let x = c.args.network.now in
    subst (λ (w : List ℕ). has_word (observed (frame_in x.frame)) w ≡ true) (sym c.word-word.ensures)
    (word_passes (has_word (observed (frame_in x.frame))) x.frame.names c.args.numbers.now c.loop-number.number-index c.requires.there (omega (arith, c.loop-number-test.true)))
