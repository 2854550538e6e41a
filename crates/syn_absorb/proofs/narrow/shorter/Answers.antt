use Rattle.std.proofs.Common.{◌∙◌, arith}
use Rattle.syn_truth.proofs.Halves.{only_word}
use Rattle.syn_absorb.proofs.Narrowing.{shorter_is}
use Rattle.syn_absorb.proofs.narrow.shorter.Goals as goal

pub returns-clause-values : goal.returns-clause-values
returns-clause-values c xs e =
    c.of_words.ensures.values xs (omega (arith, e, c.of_words.ensures.vars)) ∙ only_word c.args.truth.low c.args.truth.high xs (omega (arith, e, c.args.truth.few, c.of_words.ensures.vars))
    ∙ shorter_is c.args.truth xs (omega (arith, e, c.of_words.ensures.vars, c.requires))
