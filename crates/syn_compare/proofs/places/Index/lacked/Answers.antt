use Rattle.std.proofs.Common.{◌≡◌, ℕ, ◌+◌, ◌<◌, true, List, length, drop, get_or, sym, ap, ◌∙◌, subst, arith}
use Rattle.std.proofs.lemmas.List.{drop_more}
use Rattle.syn_netlist.specs.Numbers.{word_at, words_at}
use Rattle.syn_netlist.specs.Words.{has_word}
use Rattle.syn_compare.specs.Matching.{lacked}
use Rattle.syn_compare.proofs.Matched.{lacked_more}
use Rattle.syn_compare.proofs.Placed.{word_there}
use Rattle.syn_compare.proofs.places.Index.lacked.Goals as goal

pub loop-number-preserved : goal.loop-number-preserved
loop-number-preserved c =
    let own = c.args.self.now in
    let words : List (List ℕ) = words_at own.names.now own.numbers.now in
    let names = c.args.names.now in
    let numbers : List ℕ = c.args.numbers.now in
    let i : ℕ = c.loop-number.number-index in
    let inside : i < length numbers = omega (arith, c.loop-number-test.true) in
    let there : has_word words (word_at names (get_or numbers i 0)) ≡ true =
    subst (λ (w : List ℕ). has_word words w ≡ true) c.word.ensures (word_there words c.word.result.now c.place.result c.in-Some.field-0 c.place.ensures c.in-Some.is) in
    sym (lacked_more words (word_at names (get_or numbers i 0)) (words_at names (drop (i + 1) numbers)) there)
    ∙ ap (λ (ns : List ℕ). lacked words (words_at names ns)) (sym (drop_more numbers i 0 inside)) ∙ c.loop-number.invariant
