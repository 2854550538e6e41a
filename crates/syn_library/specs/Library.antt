-- The plans of a class.
use Rattle.std.specs.Prelude.{◌≡◌, ℕ, ◌==◌, ◌≤◌, ◌&&◌, not, Bool, List, [], ◌∷◌, map, take}
use Rattle.std.specs.List.{filter}
use Rattle.std.specs.Cmp.Lexicographic.{pointwise}
use Rattle.syn_truth.specs.declared.Truth.{Truth}
use Rattle.syn_truth.specs.Truth.{AtEach, minterm_of, value_of}
use Rattle.syn_truth.specs.Words.{value_in}
use Rattle.syn_plan.specs.declared.plan.Plan.{Plan}
use Rattle.syn_plan.specs.Naming.{built_of, IsWithin, NamesNeeded}
use Rattle.syn_plan.specs.declared.PLit.{PLit}
use Rattle.syn_plan.specs.Factoring.{Built, factored}
use Rattle.syn_npn.specs.Images.{value_at}

abbrev pub same_gate : PLit × PLit → PLit × PLit → Bool
same_gate a b = a.0.0 == b.0.0 && a.1.0 == b.1.0

-- the same gates and the same output
abbrev pub same_built : Built → Built → Bool
same_built a b = pointwise same_gate a.gates b.gates && a.out.0 == b.out.0

-- the first occurrences in a list
abbrev pub firsts : List Built → List Built
firsts [] = []
firsts (b ∷ bs) = b ∷ filter (λ x. not (same_built b x)) (firsts bs)

-- the orders in which a class is factored
abbrev pub orders : List (List ℕ)
orders = (3 ∷ 2 ∷ 1 ∷ 0 ∷ []) ∷ (2 ∷ 1 ∷ 0 ∷ 3 ∷ []) ∷ (1 ∷ 0 ∷ 3 ∷ 2 ∷ []) ∷ (0 ∷ 3 ∷ 2 ∷ 1 ∷ []) ∷ []

-- the function of four variables with these bits
abbrev pub function_of : ℕ → List Bool → Bool
function_of bits xs = value_at bits (minterm_of xs)

-- the distinct plans of a class by the orders, first occurrences
unfoldable pub plans_of : ℕ → List Built
plans_of class = firsts (map (λ order. factored 4 order (function_of class)) orders)

-- the plan names only variables on which the function of four variables depends
abbrev pub NamesOwn : Plan → ℕ → Type 0
NamesOwn p function = NamesNeeded 4 (function_of function) (built_of p)

-- the number is that of the table widened to four variables
abbrev pub IsNumberOf : ℕ → Truth → Type 0
IsNumberOf function f = AtEach 4 (λ xs. value_in function xs ≡ value_of f (take f.vars xs))

-- A plan that names only variables on which the number of a table depends, names no leaf behind the table's variables.
abbrev pub OwnWithin : Type 0
OwnWithin = (f : Truth) (function : ℕ) (p : Plan) → f.vars ≤ 4 → IsNumberOf function f → NamesOwn p function → IsWithin f.vars 4 (built_of p)
