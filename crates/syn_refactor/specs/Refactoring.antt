-- The proposals of refactoring: for each node one, its function over the leaves of its cone, factored.
use Rattle.std.specs.Prelude.{ℕ, List, [], ◌∷◌, length}
use Rattle.syn_rows.specs.declared.Row.{Row}
use Rattle.syn_plan.specs.Factoring.{Built, factored, falling}
use Rattle.syn_cones.specs.Values.{value_over}
use Rattle.syn_gain.specs.Replacements.{Replacement}
use Rattle.syn_growing.specs.Growing.{cone_leaves}
use Rattle.syn_growing.specs.Plans.{over}

-- the plan of a node's function over leaves, from the last leaf down
abbrev pub factored_over : List Row → ℕ → List ℕ → Built
factored_over rows node leaves = factored (length leaves) (falling (length leaves)) (value_over rows leaves node)

-- The proposals of refactoring for a node: the one over the leaves of its cone.
abbrev pub refactorings : List Row → ℕ → List Replacement
refactorings rows node = over node (cone_leaves rows node) (factored_over rows node (cone_leaves rows node)) ∷ []
