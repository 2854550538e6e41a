-- Plans over the leaves of a cone.
use Rattle.std.specs.Prelude.{ℕ, List, length}
use Rattle.syn_plan.specs.Factoring.{Built}
use Rattle.syn_gain.specs.Replacements.{Replacement}

-- a plan that has these leaves of a root, all of them
abbrev pub over : ℕ → List ℕ → Built → Replacement
over root leaves plan = record { root = root; leaves = leaves; count = length leaves; gates = plan.gates; out = plan.out }
