-- When a proposal may be applied.
use Rattle.std.specs.Prelude.{◌≡◌, false, List, ◌∷◌, length}
use Rattle.syn_rows.specs.declared.Row.{Row}
use Rattle.syn_truth.specs.declared.Truth.{Truth}
use Rattle.syn_truth.specs.Truth.{AtEach, value_of}
use Rattle.syn_plan.specs.Gates.{literal_value, values_after}
use Rattle.syn_cones.specs.Cones.{IsCut, IsTruthOver}
use Rattle.syn_gain.specs.Replacements.{Replacement, leaf_values}

-- its plan has the values of a table over its leaves
abbrev pub PlanComputes : Replacement → Truth → Type 0
PlanComputes r t = AtEach (length r.leaves) (λ xs. literal_value (values_after (false ∷ leaf_values r.count xs) r.gates) r.out ≡ value_of t xs)

-- A sound replacement: its leaves are a cut of its root, and its plan computes the truth of the root over them.
pub record IsSoundBy (rows : List Row) (r : Replacement) : Type 0 where
  pub cut : IsCut rows r.leaves r.root
  pub truth : (t : Truth) × IsTruthOver rows r.leaves r.root t × PlanComputes r t
