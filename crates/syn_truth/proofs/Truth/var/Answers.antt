use Rattle.std.proofs.Common.{◌≡◌, false, get_or, take, nat_eq, ap, ◌∙◌, arith}
use Rattle.std.proofs.lemmas.List.{get_or-take}
use Rattle.syn_truth.specs.Truth.{minterm_of}
use Rattle.syn_truth.specs.Words.{value_in}
use Rattle.syn_truth.proofs.Minterms.{bit_at-minterm_of}
use Rattle.syn_truth.proofs.Operations.{minterm_fits, set_bit}
use Rattle.syn_truth.proofs.Halves.{one_word, first_fits, last_value}
use Rattle.syn_truth.proofs.Truth.var.Goals as goal

pub returns-then-i-lt-WORD_VARS-clause-values : goal.returns-then-i-lt-WORD_VARS-clause-values
returns-then-i-lt-WORD_VARS-clause-values c = λ xs e.
    c.of_words.ensures.values xs e
    ∙ ap (λ w. value_in w (take 7 xs)) (one_word (get_or xs 7 false) c.variable-word.result)
    ∙ ap (λ b. nat_eq b 1)
    (c.variable-word.ensures.bit (minterm_of (take 7 xs)) (minterm_fits (take 7 xs) (first_fits xs))
    ∙ bit_at-minterm_of (take 7 xs) c.args.i)
    ∙ set_bit (get_or (take 7 xs) c.args.i false)
    ∙ get_or-take 7 xs c.args.i false c.if-i-lt-WORD_VARS.true

pub returns-else-i-lt-WORD_VARS-clause-values : goal.returns-else-i-lt-WORD_VARS-clause-values
returns-else-i-lt-WORD_VARS-clause-values c = λ xs e.
    let last : 7 ≡ c.args.i = omega (arith, c.requires.few, c.requires.within, c.if-i-lt-WORD_VARS.false) in
    c.of_words-else-i-lt-WORD_VARS.ensures.values xs e
    ∙ last_value (take 7 xs) (first_fits xs) (get_or xs 7 false)
    ∙ ap (λ k. get_or xs k false) last
