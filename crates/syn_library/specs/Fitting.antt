-- Plans fitted to a transform: the leaves are renamed and complemented, and the output.
use Rattle.std.specs.Prelude.{◌≡◌, ℕ, ◌+◌, ◌-◌, ◌*◌, ◌%◌, ◌&&◌, if◌then◌else◌, nat_le, Bool, false, List, map, slice_index, slice_index_or}
use Rattle.std.specs.Int.{bit_at}
use Rattle.syn_truth.specs.Truth.{AtEach, minterm_of}
use Rattle.syn_plan.specs.declared.PLit.{PLit}
use Rattle.syn_plan.specs.declared.plan.Plan.{Plan}
use Rattle.syn_plan.specs.Gates.{complement_of, index_of}
use Rattle.syn_plan.specs.Plans.{plan_truth}
use Rattle.syn_plan.specs.Factoring.{Built}
use Rattle.syn_npn.specs.declared.Transform.{Transform}
use Rattle.syn_npn.specs.Images.{differ, inverse, value_at}

-- the literal names one of four leaves
abbrev pub names_leaf : PLit → Bool
names_leaf l = nat_le 1 (index_of l) && nat_le (index_of l) 4

-- the literal of leaf i with the sign of l, changed where bit i of flips is set
abbrev pub leaf_literal : ℕ → PLit → ℕ → PLit
leaf_literal flips l i = record { 0 = 2 * (1 + i) + (l.0 + bit_at flips i) % 2 }

-- a literal after fitting: leaf perm[i] becomes leaf i, complemented where bit i of flips is set; others stay
abbrev pub fitted_literal : List ℕ → ℕ → PLit → PLit
fitted_literal perm flips l = if names_leaf l then leaf_literal flips l (slice_index (inverse perm) (index_of l - 1)) else l

-- a gate after fitting
abbrev pub fitted_gate : List ℕ → ℕ → PLit × PLit → PLit × PLit
fitted_gate perm flips gate = (fitted_literal perm flips gate.0, fitted_literal perm flips gate.1)

-- the output after fitting
abbrev pub fitted_out : List ℕ → ℕ → Bool → PLit → PLit
fitted_out perm flips neg out = if neg then complement_of (fitted_literal perm flips out) else fitted_literal perm flips out

-- gates and an output after fitting
abbrev pub fitted_built : Transform → Built → Built
fitted_built t b = record { gates = map (fitted_gate t.perm t.flips) b.gates; out = fitted_out t.perm t.flips t.neg b.out }

-- the values that a plan's leaves have where the leaves of the fitted plan have the values ys
abbrev pub fitted_leaves : List ℕ → ℕ → List Bool → List Bool
fitted_leaves perm flips ys = map (λ i. differ (value_at flips i) (slice_index_or ys i false)) (inverse perm)

-- the plan computes the function of four variables
abbrev pub Computes : Plan → ℕ → Type 0
Computes p function = AtEach 4 (λ xs. plan_truth p xs ≡ value_at function (minterm_of xs))
