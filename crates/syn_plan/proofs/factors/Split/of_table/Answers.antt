use Rattle.std.proofs.Common.{◌∙◌, ap, false, true}
use Rattle.syn_truth.specs.Truth.{value_of}
use Rattle.syn_plan.specs.Factoring.{cofactor_of, split_of}
use Rattle.syn_plan.proofs.Factored.{split_of-same}
use Rattle.syn_plan.proofs.factors.Split.of_table.Goals as goal

pub returns : goal.returns
returns c =
    c.of.ensures
    ∙ ap (λ n. split_of n (value_of c.cofactor.result) (value_of c.cofactor-2.result)) c.cofactor.ensures.vars
    ∙ split_of-same c.args.f.vars (value_of c.cofactor.result) (value_of c.cofactor-2.result)
    (cofactor_of (value_of c.args.f) c.args.x false) (cofactor_of (value_of c.args.f) c.args.x true)
    c.cofactor.ensures.values c.cofactor-2.ensures.values
