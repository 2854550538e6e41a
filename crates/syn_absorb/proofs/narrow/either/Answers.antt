use Rattle.std.proofs.Common.{◌&&◌, not, Bool, ap, ap₂, ◌∙◌, arith}
use Rattle.syn_truth.specs.Truth.{value_of}
use Rattle.syn_absorb.proofs.Narrowing.{either_value}
use Rattle.syn_absorb.proofs.narrow.either.Goals as goal

pub returns-clause-values : goal.returns-clause-values
returns-clause-values c xs e =
    c.not-3.ensures.values xs (omega arith)
    ∙ ap not (c.and-neither.ensures.values xs (omega arith) ∙ ap₂ (λ (a b : Bool). a && b) (c.not.ensures.values xs e) (c.not-2.ensures.values xs (omega arith)))
    ∙ either_value (value_of c.args.first xs) (value_of c.args.second xs)
