-- The cone of a node: it begins as the node over its fan-ins, and leaf after leaf is replaced by its own.
use Rattle.std.specs.Prelude.{ℕ, zero, suc, nat_le, ◌==◌, ◌^◌, ◌&&◌, Bool, not, if◌then◌else◌, List, [], ◌∷◌, ◌++◌, filter, length, Option, Some, None}
use Rattle.syn_rows.specs.declared.Row.{Row}
use Rattle.syn_rows.specs.Reach.{is_and}
use Rattle.syn_rows.specs.Rows.{refs_of, row_at}
use Rattle.syn_rows.specs.Nodes.{has_node}
use Rattle.syn_lists.specs.Numbers.{without_numbers}
use Rattle.syn_cones.specs.Walk.{put_nodes}

-- The nodes of a cone: its leaves, which rise, and its inner nodes, in the order in which they were replaced. No node is both, and none stands twice.
pub record ConeNodes : Type 0 where
  pub leaves : List ℕ
  pub inner : List ℕ

-- the nodes but one
abbrev pub without_node : ℕ → List ℕ → List ℕ
without_node node nodes = filter (λ n. not (n == node)) nodes

-- how many leaves a node adds: one where it isn't among them yet
abbrev pub one_new : List ℕ → ℕ → ℕ
one_new leaves node = if has_node leaves node then 0 else 1

-- the leaves where one of them is replaced by its fan-ins, rising
abbrev pub with_fan_ins : List Row → List ℕ → ℕ → List ℕ
with_fan_ins rows leaves leaf = put_nodes (refs_of (row_at rows leaf)) (without_node leaf leaves)

-- how many leaves there are then
abbrev pub count_with : List Row → List ℕ → ℕ → ℕ
count_with rows leaves leaf = length (with_fan_ins rows leaves leaf)

-- The inner nodes then: the leaf is one of them now. A fan-in of it that was an inner node is a leaf again, and an inner node no more.
abbrev pub inner_with : List Row → List ℕ → ℕ → List ℕ
inner_with rows inner leaf = without_numbers (refs_of (row_at rows leaf)) inner ++ leaf ∷ []

-- the cone where a leaf is replaced by its fan-ins
abbrev pub replaced : List Row → ConeNodes → ℕ → ConeNodes
replaced rows cone leaf = record { leaves = with_fan_ins rows cone.leaves leaf; inner = inner_with rows cone.inner leaf }

-- A leaf may be replaced: it is an AND, and then there are at most `most` leaves and at most 48 inner nodes.
abbrev pub may_be_replaced : List Row → ConeNodes → ℕ → ℕ → Bool
may_be_replaced rows cone most leaf = is_and (row_at rows leaf) && (nat_le (count_with rows cone.leaves leaf) most && nat_le (length (inner_with rows cone.inner leaf)) 48)

-- The leaf that is chosen among those that are left to look at: one that may be replaced, with at most `most` leaves then, is chosen in place of the one before, and from there on `most` is what it gives.
abbrev pub chosen_from : List Row → ConeNodes → Option ℕ → ℕ → List ℕ → Option ℕ
chosen_from rows cone chosen most [] = chosen
chosen_from rows cone chosen most (leaf ∷ rest) =
    if may_be_replaced rows cone most leaf
    then chosen_from rows cone (Some leaf) (count_with rows cone.leaves leaf) rest
    else chosen_from rows cone chosen most rest

-- The leaf that is replaced next: of those that may be, with at most eight leaves then, one that gives the fewest; of equals the greatest, since the leaves rise.
abbrev pub next_leaf : List Row → ConeNodes → Option ℕ
next_leaf rows cone = chosen_from rows cone None 8 cone.leaves

-- what follows on a leaf; where there is none, the cone stays
abbrev pub or_stay : ConeNodes → (ℕ → ConeNodes) → Option ℕ → ConeNodes
or_stay cone follow None = cone
or_stay cone follow (Some leaf) = follow leaf

-- leaf after leaf replaced, until none may be, and so many at most
unfoldable pub grown : ℕ → List Row → ConeNodes → ConeNodes
grown zero rows cone = cone
grown (suc more) rows cone = or_stay cone (λ leaf. grown more rows (replaced rows cone leaf)) (next_leaf rows cone)

-- the cone that growing begins with: the node over its fan-ins
abbrev pub over_fan_ins : List Row → ℕ → ConeNodes
over_fan_ins rows node = record { leaves = put_nodes (refs_of (row_at rows node)) []; inner = node ∷ [] }

-- The cone of a node: leaf after leaf replaced until none may be. 2 ^ node steps are always enough (the law `grows_until_none`), since the sum of 2 ^ leaf over the leaves falls at each.
abbrev pub cone_of : List Row → ℕ → ConeNodes
cone_of rows node = grown (2 ^ node) rows (over_fan_ins rows node)

-- its leaves
abbrev pub cone_leaves : List Row → ℕ → List ℕ
cone_leaves rows node = (cone_of rows node).leaves
