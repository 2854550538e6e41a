use Rattle.std.proofs.Common.{sym, ap, ◌∙◌}
use Rattle.std.specs.Bool.{beq}
use Rattle.syn_truth.specs.Truth.{value_of}
use Rattle.syn_truth.proofs.Each.{each_same, equal_test}
use Rattle.syn_plan.proofs.factors.is_complement.Goals as goal

pub returns : goal.returns
returns c =
    c.eq.ensures
    ∙ equal_test c.args.f c.not.result (c.requires ∙ sym c.not.ensures.vars)
    ∙ each_same c.args.f.vars _ _ (λ xs e. ap (beq (value_of c.args.f xs)) (c.not.ensures.values xs (e ∙ c.requires)))
