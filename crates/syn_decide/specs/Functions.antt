-- The function of a root over the leaves of a proposal, by the inner rows, and that of the proposal's plan.
use Rattle.std.specs.Prelude.{ℕ, zero, suc, ◌+◌, ◌==◌, ◌&&◌, ◌||◌, nat_lt, max, if◌then◌else◌, Bool, true, false, List, [], ◌∷◌, ◌++◌, length, replicate, take, Option, Some, None}
use Rattle.std.specs.Bool.{beq}
use Rattle.syn_truth.specs.Truth.{holds_at_each}
use Rattle.syn_plan.specs.Gates.{literal_value, values_after}
use Rattle.syn_plan.specs.Naming.{gates_name, names}
use Rattle.syn_core_laws.specs.SameValue.{value_by}
use Rattle.syn_decide.specs.Tasks.{Task}
use Rattle.syn_decide.specs.declared.decisions.NodeRow.{NodeRow}
use Rattle.syn_decide.specs.Walk.{row_among}

-- The table of a function of n variables: its values at all minterms, minterm 0 first. In the first half the last variable is false.
abbrev pub table_of : ℕ → (List Bool → Bool) → List Bool
table_of zero f = f [] ∷ []
table_of (suc n) f = table_of n (λ xs. f (xs ++ false ∷ [])) ++ table_of n (λ xs. f (xs ++ true ∷ []))

-- the value of a node where the leaves have these values in order; false for any other node
abbrev pub leaf_value : List ℕ → List Bool → ℕ → Bool
leaf_value [] xs n = false
leaf_value (leaf ∷ leaves) [] n = false
leaf_value (leaf ∷ leaves) (x ∷ xs) n = if leaf == n then x else leaf_value leaves xs n

-- The value of the root by the inner rows where the leaves have these values. There is none where inner rows refer to each other
-- in a circle: any other path along so many rows comes to a leaf or to node 0.
abbrev pub root_value : Task → List NodeRow → List Bool → Option Bool
root_value t inner xs = value_by (row_among inner) t.proposal.leaves (leaf_value t.proposal.leaves xs) (length inner) t.proposal.root

abbrev pub is_true : Option Bool → Bool
is_true None = false
is_true (Some b) = b

abbrev pub has_none : Option Bool → Bool
has_none None = true
has_none (Some b) = false

-- How many variables both functions have: the greater of the number of leaves and the number that the plan is over.
abbrev pub variables : Task → ℕ
variables t = max (length t.proposal.leaves) t.proposal.count

-- the value of the plan where its leaves have these values
abbrev pub plan_value : Task → List Bool → Bool
plan_value t xs = literal_value (values_after (false ∷ xs) t.proposal.gates) t.proposal.out

-- Inner rows refer to each other in a circle. (Whether the root has a value doesn't hang on the values of the leaves.)
abbrev pub in_circle : Task → List NodeRow → Bool
in_circle t inner = has_none (root_value t inner (replicate (variables t) false))

-- the function of the plan, widened
abbrev pub was_value : Task → List Bool → Bool
was_value t xs = plan_value t (take t.proposal.count xs)

-- the function of the root by the inner rows, widened
abbrev pub now_value : Task → List NodeRow → List Bool → Bool
now_value t inner xs = is_true (root_value t inner xs)

-- Both have the same values.
abbrev pub is_same_function : Task → List NodeRow → Bool
is_same_function t inner = holds_at_each (variables t) (λ xs. beq (was_value t xs) (now_value t inner xs))

-- their tables
abbrev pub was_table : Task → List Bool
was_table t = table_of (variables t) (was_value t)

abbrev pub now_table : Task → List NodeRow → List Bool
now_table t inner = table_of (variables t) (now_value t inner)

-- The plan uses leaf i: it is one of those that the plan is over, and a gate or the output names it.
abbrev pub uses : Task → ℕ → Bool
uses t i = nat_lt i t.proposal.count && (gates_name i t.proposal.gates || names i t.proposal.out)

-- the nodes of those leaves that the plan uses, where the first of these is leaf i
abbrev pub used_from : Task → ℕ → List ℕ → List ℕ
used_from t i [] = []
used_from t i (leaf ∷ leaves) = if uses t i then leaf ∷ used_from t (i + 1) leaves else used_from t (i + 1) leaves

-- the leaves that the plan uses, rising
abbrev pub used_leaves : Task → List ℕ
used_leaves t = used_from t 0 t.proposal.leaves
