use Rattle.std.proofs.Common.{ap, ◌∙◌}
use Rattle.syn_truth.specs.Truth.{value_of}
use Rattle.syn_plan.specs.Factoring.{factored, names_once}
use Rattle.syn_plan.proofs.Orders.{falling_is}
use Rattle.syn_plan.proofs.factors.factor.Goals as goal

pub factor_in-requires : goal.factor_in-requires
factor_in-requires c = ap (names_once c.args.f.vars) (falling_is c.args.f.vars c.args.f.few).0 ∙ (falling_is c.args.f.vars c.args.f.few).1

pub returns-clause-gates : goal.returns-clause-gates
returns-clause-gates c = c.factor_in.ensures.gates ∙ ap (λ order. (factored c.args.f.vars order (value_of c.args.f)).gates) (falling_is c.args.f.vars c.args.f.few).0

pub returns-clause-out : goal.returns-clause-out
returns-clause-out c = c.factor_in.ensures.out ∙ ap (λ order. (factored c.args.f.vars order (value_of c.args.f)).out) (falling_is c.args.f.vars c.args.f.few).0
