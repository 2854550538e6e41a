-- The walk of a commit: from the root to the leaves, each row before its fan-ins, the first fan-in first.
-- A row that it loads is an inner row. Inner rows are listed with their nodes, in the order in which they were met.
use Rattle.std.specs.Prelude.{ℕ, ◌==◌, ◌&&◌, not, if◌then◌else◌, Bool, List, [], ◌∷◌, map, Option, Some, None}
use Rattle.std.specs.List.{list_any}
use Rattle.syn_rows.specs.declared.Row.{Row}
use Rattle.syn_rows.specs.Rows.{refs_of}
use Rattle.syn_rows.specs.Nodes.{has_node}
use Rattle.syn_decide.specs.declared.decisions.NodeRow.{NodeRow}

-- the nodes of rows
abbrev pub nodes_of : List NodeRow → List ℕ
nodes_of rows = map (λ r. r.node) rows

-- the row of a node, where it is among these
abbrev pub row_among : List NodeRow → ℕ → Option Row
row_among [] n = None
row_among (r ∷ rows) n = if r.node == n then Some r.row else row_among rows n

-- The walk enters a node that is neither node 0 nor a leaf, and whose row it hasn't loaded yet.
abbrev pub enters : List ℕ → List NodeRow → ℕ → Bool
enters leaves inner n = not (n == 0) && (not (has_node leaves n) && not (has_node (nodes_of inner) n))

-- what waits, from the first node on that the walk enters: the node that it enters next stands first
abbrev pub from_entered : List ℕ → List NodeRow → List ℕ → List ℕ
from_entered leaves inner [] = []
from_entered leaves inner (n ∷ waiting) = if enters leaves inner n then n ∷ waiting else from_entered leaves inner waiting

-- The walk met a node where an inner row refers to it.
abbrev pub is_met : List NodeRow → ℕ → Bool
is_met inner n = list_any (λ r. has_node (refs_of r.row) n) inner
