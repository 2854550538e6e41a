use Rattle.std.proofs.Common.{◌≡◌, ℕ, true, List, sym, subst, arith}
use Rattle.syn_netlist.specs.Numbers.{words_at}
use Rattle.syn_netlist.specs.Words.{has_word}
use Rattle.syn_netlist.proofs.Renumbering.{word_passes}
use Rattle.syn_compare.proofs.places.Index.places_of.Goals as goal

pub place_of-requires-clause-there : goal.place_of-requires-clause-there
place_of-requires-clause-there c =
    let own = c.args.self.now in
    let words : List (List ℕ) = words_at own.names.now own.numbers.now in
    subst (λ (w : List ℕ). has_word words w ≡ true) (sym c.word.ensures)
    (word_passes (has_word words) c.args.names.now c.args.numbers.now c.loop-number.number-index c.requires.there (omega (arith, c.loop-number-test.true)))
