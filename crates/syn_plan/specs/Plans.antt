-- What a plan computes.
use Rattle.std.specs.Prelude.{Bool, false, List, ◌∷◌}
use Rattle.syn_plan.specs.declared.plan.Plan.{Plan}
use Rattle.syn_plan.specs.Gates.{literal_value, values_after}

-- the value of a plan where its leaves have these values, leaf 0 first
unfoldable pub plan_truth : Plan → List Bool → Bool
plan_truth p xs = literal_value (values_after (false ∷ xs) p.gates.items) p.out
