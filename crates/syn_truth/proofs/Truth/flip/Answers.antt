use Rattle.std.proofs.Common.{◌≡◌, false, not, get_or, take, ap, ◌∙◌, arith}
use Rattle.std.proofs.Math.ListN.{set}
use Rattle.syn_truth.specs.Truth.{value_of}
use Rattle.syn_truth.specs.Words.{value_in}
use Rattle.syn_truth.proofs.Halves.{by_words, turned_words, set_last, flip_stays}
use Rattle.syn_truth.proofs.Truth.flip.Goals as goal

pub returns-then-i-lt-WORD_VARS-clause-values : goal.returns-then-i-lt-WORD_VARS-clause-values
returns-then-i-lt-WORD_VARS-clause-values c = λ xs e.
    c.of_words.ensures.values xs e
    ∙ by_words c.args.self c.args.i (λ xs. set xs c.args.i (not (get_or xs c.args.i false))) c.requires c.if-i-lt-WORD_VARS.true
    (flip_stays c.args.self.vars c.args.i c.if-i-lt-WORD_VARS.true)
    c.flipped-low.result c.flipped-high.result c.flipped-low.ensures c.flipped-high.ensures xs e

pub returns-else-i-lt-WORD_VARS-clause-values : goal.returns-else-i-lt-WORD_VARS-clause-values
returns-else-i-lt-WORD_VARS-clause-values c = λ xs e.
    let last : 7 ≡ c.args.i = omega (arith, c.args.self.few, c.requires, c.if-i-lt-WORD_VARS.false) in
    c.of_words-else-i-lt-WORD_VARS.ensures.values xs e
    ∙ ap (λ w. value_in w (take 7 xs)) (turned_words (get_or xs 7 false) c.args.self.low c.args.self.high)
    ∙ set_last c.args.self (omega (arith, last, c.args.self.few, c.requires)) (not (get_or xs 7 false)) xs e
    ∙ ap (λ k. value_of c.args.self (set xs k (not (get_or xs k false)))) last
