use Rattle.std.proofs.Common.{◌≡◌, false, length, get_or, take, sym, ap, ◌∙◌, arith}
use Rattle.std.proofs.lemmas.List.{length-take-le}
use Rattle.syn_truth.specs.Words.{value_in}
use Rattle.syn_truth.proofs.Halves.{by_word, one_word, only_word}
use Rattle.syn_truth.proofs.Truth.widen_by_one.Goals as goal

pub returns-else-self-lt-WORD_VARS-clause-values : goal.returns-else-self-lt-WORD_VARS-clause-values
returns-else-self-lt-WORD_VARS-clause-values c = λ xs e.
    let seven : 7 ≡ c.args.self.vars = omega (arith, c.requires, c.if-self-lt-WORD_VARS.false) in
    let count : length (take c.args.self.vars xs) ≡ c.args.self.vars = length-take-le c.args.self.vars xs (omega (arith, e)) in
    c.of_both.ensures.values xs (e ∙ omega (arith, seven))
    ∙ ap (λ w. value_in w (take 7 xs)) (one_word (get_or xs 7 false) c.args.self.low)
    ∙ ap (λ k. value_in c.args.self.low (take k xs)) seven
    ∙ sym (by_word c.args.self (take c.args.self.vars xs) count ∙ only_word c.args.self.low c.args.self.high (take c.args.self.vars xs) (omega (arith, count, seven)))
