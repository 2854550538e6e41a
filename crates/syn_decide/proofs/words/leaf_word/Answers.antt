use Rattle.std.proofs.Common.{cond, take, sym, ap, ◌∙◌}
use Rattle.syn_truth.specs.Words.{value_in}
use Rattle.syn_truth.proofs.Halves.{by_word}
use Rattle.syn_decide.proofs.words.leaf_word.Goals as goal

pub returns-then-last : goal.returns-then-last
returns-then-last c = λ xs l e.
    ap (λ b. value_in (cond b c.var-table.result.high c.var-table.result.low) (take 7 xs)) (sym (e ∙ c.if-last.true))
    ∙ sym (by_word c.var-table.result xs (l ∙ sym c.var-table.ensures.vars)) ∙ c.var-table.ensures.values xs l

pub returns-else-last : goal.returns-else-last
returns-else-last c = λ xs l e.
    ap (λ b. value_in (cond b c.var-table.result.high c.var-table.result.low) (take 7 xs)) (sym (e ∙ c.if-last.false))
    ∙ sym (by_word c.var-table.result xs (l ∙ sym c.var-table.ensures.vars)) ∙ c.var-table.ensures.values xs l
