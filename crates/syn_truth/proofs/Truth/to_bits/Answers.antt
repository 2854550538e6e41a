use Rattle.std.proofs.Common.{sym, ◌∙◌, arith}
use Rattle.syn_truth.proofs.Halves.{by_word, only_word}
use Rattle.syn_truth.proofs.Truth.to_bits.Goals as goal

pub returns : goal.returns
returns c = λ xs e.
    sym (by_word c.widen.result xs (e ∙ sym c.widen.ensures.vars) ∙ only_word c.widen.result.low c.widen.result.high xs (omega (arith, e)))
    ∙ c.widen.ensures.values xs e
