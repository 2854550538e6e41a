-- What a plan becomes, told gate by gate as long as each needs a row.
use Rattle.std.specs.Prelude.{◌≡◌, ℕ, ◌+◌, ◌<◌, ◌≤◌, ◌⊎◌, nat_le, nat_lt, if◌then◌else◌, List, [], ◌∷◌, ◌++◌, length, take, slice_index_or, Option, Some, None}
use Rattle.syn_rows.specs.declared.Lit.{Lit}
use Rattle.syn_rows.specs.declared.Row.{Row}
use Rattle.syn_rows.specs.Rows.{node_of}
use Rattle.syn_rows.specs.Joining.{constant, simple_and}
use Rattle.syn_plan.specs.declared.PLit.{PLit}
use Rattle.syn_gain.specs.Placing.{leaf_literals, literal_for}
use Rattle.syn_gain.specs.Replacements.{Replacement}
use Rattle.syn_gain.specs.Searching.{Searched, search_gate, state}
use Rattle.syn_gain.specs.declared.placed.PlacedPlan.{PlacedPlan}
use Rattle.syn_weighing.specs.declared.dry_runs.TheConstants.{MAX_INDEXES}

-- literals and new rows as one
abbrev pub weight_of : PlacedPlan MAX_INDEXES → Searched
weight_of w = state w.literals.items w.extra.items

-- the first literals are those of the constant and of so many leaves
abbrev pub BeginsWith : ℕ → List ℕ → PlacedPlan MAX_INDEXES → Type 0
BeginsWith count leaves w = take (1 + count) w.literals.items ≡ constant ∷ leaf_literals count leaves

-- something, where a pair needs a row
abbrev pub where_needed : Option Lit → Searched → Option Searched
where_needed None s = Some s
where_needed (Some l) s = None

-- One gate of a plan that needs a row, which may be any below a node.
abbrev pub dry_run_gate : List Row → ℕ → Searched → PLit × PLit → Option Searched
dry_run_gate rows node s gate = where_needed (simple_and (literal_for s.literals gate.0) (literal_for s.literals gate.1)) (search_gate rows node s gate)

abbrev pub and_then : Option Searched → (Searched → Option Searched) → Option Searched
and_then None next = None
and_then (Some s) next = next s

-- the gates of a plan in order, each of which needs a row
abbrev pub dry_run_gates : List Row → ℕ → List (PLit × PLit) → Searched → Option Searched
dry_run_gates rows node [] s = Some s
dry_run_gates rows node (gate ∷ gates) s = and_then (dry_run_gate rows node s gate) (dry_run_gates rows node gates)

-- the same until so many new rows stand
abbrev pub weigh_until : List Row → ℕ → ℕ → List (PLit × PLit) → Searched → Option Searched
weigh_until rows node most [] s = Some s
weigh_until rows node most (gate ∷ gates) s =
    if nat_le most (length s.extra) then Some s else and_then (dry_run_gate rows node s gate) (weigh_until rows node most gates)

-- what the plan of a replacement becomes
abbrev pub IsWeightOf : List Row → ℕ → Replacement → Searched → Type 0
IsWeightOf rows node r s = dry_run_gates rows node r.gates (state (constant ∷ leaf_literals r.count r.leaves) []) ≡ Some s

-- what it becomes until so many new rows stand
abbrev pub IsWeightUntil : List Row → ℕ → ℕ → Replacement → Searched → Type 0
IsWeightUntil rows node most r s = weigh_until rows node most r.gates (state (constant ∷ leaf_literals r.count r.leaves) []) ≡ Some s

-- the node of a literal behind others, where it was there
abbrev pub with_old : ℕ → Lit → List ℕ → List ℕ
with_old first l nodes = if nat_lt (node_of l) first then nodes ++ node_of l ∷ [] else nodes

-- the nodes that were there of a gate's literals behind others
abbrev pub with_gate : ℕ → List Lit → PLit × PLit → List ℕ → List ℕ
with_gate first literals gate nodes = with_old first (literal_for literals gate.1) (with_old first (literal_for literals gate.0) nodes)

-- A node that was there, and that a gate names which became a new row. The first gate has index `base`, the first new row is node `first`.
abbrev pub IsUsed : ℕ → ℕ → List (PLit × PLit) → List Lit → ℕ → Type 0
IsUsed first base gates literals m =
    (i : ℕ) × (gate : PLit × PLit) × (i < length gates) × (slice_index_or gates i gate ≡ gate) × (first ≤ node_of (slice_index_or literals (base + i) constant))
    × (m < first) × ((node_of (literal_for literals gate.0) ≡ m) ⊎ (node_of (literal_for literals gate.1) ≡ m))
