-- What the gates of a plan become in a commit: literals of nodes that are there, which hints find, or new gates.
use Rattle.std.specs.Prelude.{ℕ, ◌+◌, ◌-◌, ◌*◌, ◌==◌, ◌&&◌, ◌||◌, not, nat_lt, nat_le, if◌then◌else◌, Bool, false, List, [], ◌∷◌, length, Option, Some, None}
use Rattle.std.specs.List.{list_any}
use Rattle.syn_rows.specs.declared.Lit.{Lit}
use Rattle.syn_rows.specs.declared.Row.{Row}
use Rattle.syn_rows.specs.declared.Row.TheVariants.{Free, Source, And, Alias}
use Rattle.syn_rows.specs.Rows.{node_of}
use Rattle.syn_rows.specs.Joining.{lit_of}
use Rattle.syn_rows.specs.declared.TheConstants.{NODE_LIMIT}
use Rattle.syn_plan.specs.declared.TheConstants.{MAX_GATES}
use Rattle.syn_rows.specs.Nodes.{has_node}
use Rattle.syn_decide.specs.declared.decisions.NodeRow.{NodeRow}
use Rattle.syn_decide.specs.Tasks.{Task}
use Rattle.syn_gain.specs.Placing.{Placed, literal_for, placed_with, root_row}

-- New gates are numbered from here on. No table has a node of such a number.
abbrev pub first_new : ℕ
first_new = NODE_LIMIT

-- the literal of a new gate
abbrev pub is_new_gate : Lit → Bool
is_new_gate l = nat_le first_new (node_of l)

-- the row is exactly this pair
abbrev pub is_pair : Lit → Lit → Row → Bool
is_pair a b Free = false
is_pair a b Source = false
is_pair a b (And c d) = a.0 == c.0 && b.0 == d.0
is_pair a b (Alias c) = false

-- the row is the pair of the two literals, the smaller first
abbrev pub is_pair_of : Lit → Lit → Row → Bool
is_pair_of x y row = if nat_lt x.0 y.0 then is_pair x y row else is_pair y x row

-- the plain literal of the first of these nodes whose row is the pair
abbrev pub literal_listed : List NodeRow → Lit → Lit → Option Lit
literal_listed [] x y = None
literal_listed (h ∷ hits) x y = if is_pair_of x y h.row then Some (lit_of h.node) else literal_listed hits x y

-- A pair's literal by a hit. A pair with a new gate's literal has none.
abbrev pub literal_hit : List NodeRow → Lit → Lit → Option Lit
literal_hit hits x y = if is_new_gate x || is_new_gate y then None else literal_listed hits x y

-- what the gates become with these hits
abbrev pub placed_by_hits : Task → List NodeRow → Placed
placed_by_hits t hits = placed_with (literal_hit hits) first_new t.proposal.count t.proposal.leaves t.proposal.gates

-- A hint is asked for a row's pair: it is the pair of a new gate, and neither literal is a new gate's.
abbrev pub is_asked : List Row → Row → Bool
is_asked extra Free = false
is_asked extra Source = false
is_asked extra (And a b) = (not (is_new_gate a) && not (is_new_gate b)) && list_any (is_pair a b) extra
is_asked extra (Alias a) = false

-- A node at which a hint may hit: a node of a table, not node 0, none of the leaves, with a key below the root's.
abbrev pub may_hit : List ℕ → ℕ → ℕ → ℕ → Bool
may_hit leaves high n key = (nat_lt n first_new && not (n == 0)) && (not (has_node leaves n) && nat_lt key high)

-- the literal that the plan's output becomes
abbrev pub out_literal : Task → Placed → Lit
out_literal t s = literal_for s.literals t.proposal.out

-- the most gates that a plan has, and so the most hits
abbrev pub most_hits : ℕ
most_hits = MAX_GATES

-- the output is the last new gate, uncomplemented: that gate's pair becomes the root's row
abbrev pub is_last_new : List Row → Lit → Bool
is_last_new extra out = nat_lt 0 (length extra) && (out.0 + 2 == 2 * (first_new + length extra))

-- how many new gates need a row of their own
abbrev pub rows_needed : Task → Placed → ℕ
rows_needed t s = length s.extra - (if is_last_new s.extra (out_literal t s) then 1 else 0)

-- the row that the root becomes, with new gates by their numbers from `first_new` on
abbrev pub new_root_row : Task → Placed → Row
new_root_row t s = root_row first_new s.extra (out_literal t s)
