-- Plans that are known of functions.
use Rattle.std.specs.Prelude.{◌≡◌}
use Rattle.syn_truth.specs.declared.Truth.{Truth}
use Rattle.syn_truth.specs.Truth.{AtEach, value_of}
use Rattle.syn_plan.specs.declared.plan.Plan.{Plan}
use Rattle.syn_plan.specs.Factoring.{factored, falling}
use Rattle.syn_plan.specs.Plans.{plan_truth}

-- The plan is the factored one of a function, its variables taken from the last one down, and computes the function.
pub record IsFactored (function : Truth) (plan : Plan) : Type 0 where
  pub leaves : plan.leaves ≡ function.vars
  pub gates : plan.gates.items ≡ (factored function.vars (falling function.vars) (value_of function)).gates
  pub out : plan.out ≡ (factored function.vars (falling function.vars) (value_of function)).out
  pub truth : AtEach function.vars (λ xs. plan_truth plan xs ≡ value_of function xs)
