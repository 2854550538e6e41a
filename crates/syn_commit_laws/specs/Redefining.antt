-- The redefine of a commit: which rows are stored for the new gates and the root, over which leaves, and that the root keeps its value.
use Rattle.std.specs.Prelude.{◌≡◌, ◌≢◌, ℕ, ◌+◌, ◌-◌, ◌*◌, ◌%◌, ◌<◌, ◌≤◌, if◌then◌else◌, true, false, List, length, slice_index_or, Some}
use Rattle.std.specs.List.{AllByRecursion, filter}
use Rattle.syn_rows.specs.declared.Lit.{Lit}
use Rattle.syn_rows.specs.declared.Row.{Row}
use Rattle.syn_rows.specs.declared.Row.TheVariants.{Free, Source, And, Alias}
use Rattle.syn_rows.specs.Rows.{node_of, row_at}
use Rattle.syn_rows.specs.Joining.{ordered_and}
use Rattle.syn_rows.specs.Nodes.{has_node}
use Rattle.syn_gain.specs.Leaves.{are_below, rise_above}
use Rattle.syn_core_laws.specs.declared.View.{View}
use Rattle.syn_core_laws.specs.Views.{known_row}
use Rattle.syn_core_laws.specs.SameValue.{SameValue}
use Rattle.syn_decide.specs.declared.decisions.NodeRow.{NodeRow}
use Rattle.syn_decide.specs.Tasks.{Task}
use Rattle.syn_decide.specs.Walk.{is_met}
use Rattle.syn_decide.specs.Hints.{first_new, is_new_gate, new_root_row, placed_by_hits, rows_needed}
use Rattle.syn_decide.specs.Fitting.{HitsAreInside, IsFitting}

-- the leaves that the walk met, in their order
abbrev pub met_leaves : Task → List NodeRow → List ℕ
met_leaves t inner = filter (is_met inner) t.proposal.leaves

-- the literal where new gate i, which is numbered `first_new + i`, has its row in the node at place i of the list
abbrev pub literal_made : List ℕ → Lit → Lit
literal_made made l = if is_new_gate l then record { 0 = 2 * slice_index_or made (node_of l - first_new) 0 + l.0 % 2 } else l

-- the row that is stored: each literal where its node is, and the smaller literal first
abbrev pub row_made : List ℕ → Row → Row
row_made made Free = Free
row_made made Source = Source
row_made made (And a b) = ordered_and (literal_made made a) (literal_made made b)
row_made made (Alias a) = Alias (literal_made made a)

-- The proposal is in order: its leaves rise from above node 0 and are below the root, which is a table's node.
pub record IsInOrder (t : Task) : Type 0 where
  pub rising : rise_above 0 t.proposal.leaves ≡ true
  pub below : are_below t.proposal.root t.proposal.leaves ≡ true
  pub positive : t.proposal.root ≢ 0
  pub there : t.proposal.root < first_new

-- What a seat knows right before it redefines the root: the inner rows, the hits' rows, and the rows of the new gates, each at the node at its place of the list.
-- No hit is node 0 or a leaf; no node of a new row is node 0 or a leaf that was met. (Where the last new gate becomes the root's row, it has no node.)
pub record AreStored (t : Task) (inner hits : List NodeRow) (made : List ℕ) (v : View) : Type 0 where
  pub inner_known : AllByRecursion (λ r. known_row v r.node ≡ Some r.row) inner
  pub hits_known : AllByRecursion (λ h. known_row v h.node ≡ Some h.row) hits
  pub hits_inside : HitsAreInside t hits
  pub made_out : (i : ℕ) → i < rows_needed t (placed_by_hits t hits) → (slice_index_or made i 0 ≢ 0) × (has_node (met_leaves t inner) (slice_index_or made i 0) ≡ false)
  pub made_known : (i : ℕ) → i < rows_needed t (placed_by_hits t hits) → known_row v (slice_index_or made i 0) ≡ Some (row_made made (row_at (placed_by_hits t hits).extra i))

-- The row that the root becomes, stored, has the value of its old row over the leaves that the walk met.
abbrev pub RedefinesKeepValue : Type 0
RedefinesKeepValue = (t : Task) (inner hits : List NodeRow) (made : List ℕ) (v : View) (old : Row)
    → IsInOrder t → IsFitting t inner → AreStored t inner hits made v → known_row v t.proposal.root ≡ Some old
    → SameValue v (met_leaves t inner) old (row_made made (new_root_row t (placed_by_hits t hits)))

-- These are no more than the proposal has leaves.
abbrev pub MetLeavesAreFew : Type 0
MetLeavesAreFew = (t : Task) (inner : List NodeRow) → length (met_leaves t inner) ≤ length t.proposal.leaves
