-- Plans and leaves for which each gate needs a row.
use Rattle.std.specs.Prelude.{◌≡◌, ◌≢◌, ℕ, zero, suc, ◌+◌, ◌-◌, ◌%◌, ◌<◌, ◌≤◌, ◌==◌, ◌&&◌, ◌||◌, nat_le, nat_lt, not, if◌then◌else◌, Bool, true, false, List, Option, Some, None, length, slice_index_or, take}
use Rattle.std.specs.List.{list_any}
use Rattle.syn_rows.specs.declared.Row.{Row}
use Rattle.syn_rows.specs.declared.Row.TheVariants.{Free, Source, And, Alias}
use Rattle.syn_rows.specs.Nodes.{has_node}
use Rattle.syn_rows.specs.Rows.{node_of, row_at}
use Rattle.syn_plan.specs.declared.PLit.{PLit}
use Rattle.syn_plan.specs.declared.plan.Plan.{Plan}
use Rattle.syn_plan.specs.Gates.{index_of}
use Rattle.syn_weighing.specs.declared.all_new.AllNew.{AllNew}

-- an index of one of the first leaves, or of one of so many gates, of which the first has index `base`
abbrev pub is_in_use : ℕ → ℕ → ℕ → ℕ → Bool
is_in_use named base count index = (nat_lt 0 index && nat_le index named) || (nat_le base index && nat_lt index (base + count))

-- The first index that becomes what this one does: a leaf's own, and of a gate what a list says.
abbrev pub first_of : ℕ → List ℕ → ℕ → ℕ
first_of base firsts index = if nat_lt index base then index else slice_index_or firsts (index - base) index

-- literals of one such index, with one sign
abbrev pub same_literal : (ℕ → ℕ) → PLit → PLit → Bool
same_literal first p q = first (index_of p) == first (index_of q) && p.0 % 2 == q.0 % 2

-- gates of the same two literals, in either order
abbrev pub same_gate : (ℕ → ℕ) → PLit × PLit → PLit × PLit → Bool
same_gate first g h = (same_literal first g.0 h.0 && same_literal first g.1 h.1) || (same_literal first g.0 h.1 && same_literal first g.1 h.0)

-- A gate behind others names two of the first leaves and of the others, which don't become the same; and each of the others that has the same two literals is said to become what it becomes.
pub record StandsApart (named base : ℕ) (first : ℕ → ℕ) (before : List (PLit × PLit)) (gate : PLit × PLit) : Type 0 where
  pub left : is_in_use named base (length before) (index_of gate.0) ≡ true
  pub right : is_in_use named base (length before) (index_of gate.1) ≡ true
  pub differ : first (index_of gate.0) ≢ first (index_of gate.1)
  pub once : (g : ℕ) (d : PLit × PLit) → g < length before → same_gate first gate (slice_index_or before g d) ≡ true → first (base + g) ≡ first (base + length before)

-- A plan whose gates do so, and name no leaf behind the first ones.
pub record IsApartPlan (a : AllNew) (p : Plan) : Type 0 where
  pub leaves : a.named ≤ p.leaves
  pub gates : (i : ℕ) (gate : PLit × PLit) → i < length p.gates.items
      → StandsApart a.named (1 + p.leaves) (first_of (1 + p.leaves) a.firsts.items) (take i p.gates.items) (slice_index_or p.gates.items i gate)

-- what is said of each plan at its place, if anything
abbrev pub AreApart : List Plan → List (Option AllNew) → Type 0
AreApart plans said = (i : ℕ) (p : Plan) (a : AllNew) → i < length plans → slice_index_or said i None ≡ Some a → IsApartPlan a (slice_index_or plans i p)

-- the plan at a place names no more leaves than these
abbrev pub NamesWithin : List (Option AllNew) → ℕ → List ℕ → Type 0
NamesWithin said place leaves = (a : AllNew) × (slice_index_or said place None ≡ Some a) × (a.named ≤ length leaves)

-- a row is the AND of two nodes of a kind
abbrev pub joins : (ℕ → Bool) → Row → Bool
joins f Free = false
joins f Source = false
joins f (And a b) = f (node_of a) && f (node_of b)
joins f (Alias a) = false

-- A node may be made of leaves: it is none below the least, and a leaf or an AND of two such nodes, so far as the rows of so many levels tell.
abbrev pub may_be_made : List Row → List ℕ → ℕ → ℕ → Bool
may_be_made rows leaves zero node = nat_le (slice_index_or leaves 0 0) node
may_be_made rows leaves (suc k) node = nat_le (slice_index_or leaves 0 0) node && (has_node leaves node || joins (may_be_made rows leaves k) (row_at rows node))

-- no leaf is the AND of two such nodes
abbrev pub are_apart : ℕ → List Row → List ℕ → Bool
are_apart levels rows leaves = not (list_any (λ leaf. joins (may_be_made rows leaves levels) (row_at rows leaf)) leaves)

-- a plan and leaves for which each gate needs a row
abbrev pub IsApartOver : List Row → List ℕ → Plan → Type 0
IsApartOver rows leaves p = (a : AllNew) × IsApartPlan a p × (a.named ≤ length leaves) × ((levels : ℕ) × (are_apart levels rows leaves ≡ true))
