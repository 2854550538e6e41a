-- Lists of nodes, and lists that tell a row or a key of a node.
use Rattle.std.specs.Prelude.{ℕ, ◌==◌, Bool, if◌then◌else◌, List, [], ◌∷◌, Option, Some, None}

-- the nodes that pass the test
abbrev pub only : (ℕ → Bool) → List ℕ → List ℕ
only p [] = []
only p (x ∷ xs) = if p x then x ∷ only p xs else only p xs

-- the list without one of its entries of the node
abbrev pub without_one : ℕ → List ℕ → List ℕ
without_one n [] = []
without_one n (x ∷ xs) = if x == n then xs else x ∷ without_one n xs

-- the list without one entry for each entry of the first
abbrev pub without_each : List ℕ → List ℕ → List ℕ
without_each [] ys = ys
without_each (x ∷ xs) ys = without_each xs (without_one x ys)

-- what is told of the node: the latest counts
abbrev pub look : {A : Type 0} → ℕ → List (ℕ × A) → Option A
look n [] = None
look n (x ∷ xs) = if x.0 == n then Some x.1 else look n xs

-- what is told of the nodes that pass the test
abbrev pub kept : {A : Type 0} → (ℕ → Bool) → List (ℕ × A) → List (ℕ × A)
kept p [] = []
kept p (x ∷ xs) = if p x.0 then x ∷ kept p xs else kept p xs
