use Rattle.std.proofs.Common.{◌≡◌, false, cond, get_or, take, ap, sym, ◌∙◌, arith}
use Rattle.std.proofs.Math.ListN.{set}
use Rattle.std.proofs.lemmas.Bool.{cond-true, cond-false}
use Rattle.syn_truth.specs.Truth.{value_of}
use Rattle.syn_truth.specs.Words.{value_in}
use Rattle.syn_truth.proofs.Halves.{by_words, one_word, set_last, set_stays}
use Rattle.syn_truth.proofs.Truth.cofactor.Goals as goal
use Rattle.syn_truth.proofs.Truth.cofactor.Goals.{then-value, else-value}

pub returns-then-i-lt-WORD_VARS-clause-values : goal.returns-then-i-lt-WORD_VARS-clause-values
returns-then-i-lt-WORD_VARS-clause-values c = λ xs e.
    c.of_words.ensures.values xs e
    ∙ by_words c.args.self c.args.i (λ xs. set xs c.args.i c.args.value) c.requires c.if-i-lt-WORD_VARS.true
    (set_stays c.args.self.vars c.args.i c.args.value c.if-i-lt-WORD_VARS.true)
    c.with_value-low.result c.with_value-high.result c.with_value-low.ensures c.with_value-high.ensures xs e

pub returns-after-value-clause-values : goal.returns-after-value-clause-values
returns-after-value-clause-values c = λ xs e.
    let last : 7 ≡ c.args.i = omega (arith, c.args.self.few, c.requires, c.if-i-lt-WORD_VARS.false) in
    let word : c.if-value.word ≡ cond c.args.value c.args.self.high c.args.self.low =
    elim c.if-value.branch [
      | then-value w ↦ w.word-is ∙ sym (cond-true c.args.value c.args.self.high c.args.self.low w.if-value.true)
      | else-value w ↦ w.word-is ∙ sym (cond-false c.args.value c.args.self.high c.args.self.low w.if-value.false)
    ] in
    c.of_words-else-i-lt-WORD_VARS.ensures.values xs e
    ∙ ap (λ w. value_in w (take 7 xs)) (one_word (get_or xs 7 false) c.if-value.word ∙ word)
    ∙ set_last c.args.self (omega (arith, last, c.args.self.few, c.requires)) c.args.value xs e
    ∙ ap (λ k. value_of c.args.self (set xs k c.args.value)) last
