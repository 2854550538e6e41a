-- The plans of a function of four variables.
use Rattle.std.specs.Prelude.{◌≡◌, ℕ, ◌%◌, All, List, map}
use Rattle.syn_npn.specs.Permutations.{neg_at, perm_at}
use Rattle.syn_plan.specs.declared.plan.Plan.{Plan}
use Rattle.syn_plan.specs.Factoring.{Built}
use Rattle.syn_plan.specs.Naming.{built_of}
use Rattle.syn_library.specs.Fitting.{Computes, fitted_gate, fitted_out}
use Rattle.syn_library.specs.Library.{NamesOwn, plans_of}
use Rattle.syn_function_plans.specs.Classes.{class_of, transform_of}

-- gates and an output, fitted by the transform at a place: leaf perm[i] becomes leaf i, complemented where bit i of the flips is set
abbrev pub fitted_at : ℕ → Built → Built
fitted_at place plan = record {
  gates = map (fitted_gate (perm_at place) (place % 16)) plan.gates;
  out = fitted_out (perm_at place) (place % 16) (neg_at place) plan.out;
}

-- the plans of a function: each plan of its class, fitted by the first transform to it, in order
unfoldable pub fitted_plans : ℕ → List Built
fitted_plans function = map (fitted_at (transform_of function)) (plans_of (class_of function))

-- The plans of a function: four leaves each, of which they name only those that the function depends on, and the function's values.
pub record ArePlansOf (function : ℕ) (plans : List Plan) : Type 0 where
  pub built : map built_of plans ≡ fitted_plans function
  pub leaves : All (λ p. p.leaves ≡ 4) plans
  pub values : All (λ p. Computes p function) plans
  pub names : All (λ p. NamesOwn p function) plans
