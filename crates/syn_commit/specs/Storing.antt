-- The stores of a commit: rows for its new gates are made in nodes of the pool, in order, and then the root is redefined.
use Rattle.std.specs.Prelude.{◌≡◌, ◌≢◌, ◌⊎◌, ℕ, suc, ◌+◌, ◌*◌, ◌<◌, ◌==◌, if◌then◌else◌, true, false, List, [], ◌∷◌, ◌++◌, length, slice_index_or, Some}
use Rattle.arrayvec.specs.ArrayVec.{ArrayVec}
use Rattle.syn_rows.specs.declared.Lit.{Lit}
use Rattle.syn_rows.specs.declared.Row.{Row}
use Rattle.syn_rows.specs.declared.Row.TheVariants.{Free, And}
use Rattle.syn_rows.specs.Rows.{AllRefs, node_of, refs_of, row_at}
use Rattle.syn_core_laws.specs.declared.View.{View}
use Rattle.syn_core_laws.specs.declared.Made.{Made}
use Rattle.syn_core_laws.specs.declared.EventKind.{EventKind}
use Rattle.syn_core_laws.specs.declared.EventKind.TheVariants as Kind
use Rattle.syn_core_laws.specs.Events.{KeyBelow, MayPin}
use Rattle.syn_core_laws.specs.Views.{key_set, known_key, known_row, made, pinned}
use Rattle.syn_decide.specs.declared.decisions.NodeRow.{NodeRow}
use Rattle.syn_decide.specs.Hints.{first_new, is_new_gate}
use Rattle.syn_decide.specs.Walk.{nodes_of}
use Rattle.syn_decide.specs.Walked.{AreGates}
use Rattle.syn_commit_laws.specs.Redefining.{row_made}
use Rattle.syn_commit_laws.specs.Turning.{TurnsAll}
use Rattle.syn_commit.specs.Walks.{AreKnown}

-- A row of this key may refer to the node: the seat may pin it and knows its key, which is below.
pub record MayReferTo (v : View) (key n : ℕ) : Type 0 where
  pub pin : MayPin v n
  pub below : KeyBelow v key n

-- A row may stand at the node: the node's key is known, and those of the nodes to which the row refers are below it.
abbrev pub MayStandAt : View → ℕ → Row → Type 0
MayStandAt v n row = (key : ℕ) × (known_key v n ≡ Some key) × AllRefs (MayReferTo v key) row

-- the view once these nodes are pinned, one after the other
abbrev pub with_pins : List ℕ → View → View
with_pins [] v = v
with_pins (n ∷ ns) v = with_pins ns (pinned v n)

-- the view once a row is made: a pin for each of its places, then the key and the row
abbrev pub row_stored : View → ℕ → Row → ℕ → View
row_stored v n row key = made (key_set (with_pins (refs_of row) v) n key) n row

-- What a seat knows stays while rows are made: of nodes that aren't free the rows and the keys, and what rows may refer to.
pub record KeepsKnown (v w : View) : Type 0 where
  pub rows : (m : ℕ) (r : Row) → known_row v m ≡ Some r → r ≢ Free → known_row w m ≡ Some r
  pub keys : (m k : ℕ) (r : Row) → known_row v m ≡ Some r → r ≢ Free → known_key v m ≡ Some k → known_key w m ≡ Some k
  pub refers : (key m : ℕ) → MayReferTo v key m → MayReferTo w key m

-- ---- the events
-- a pin of each of the nodes
abbrev pub pins_of : List ℕ → List EventKind
pins_of [] = []
pins_of (n ∷ ns) = Kind.Pin n ∷ pins_of ns

-- a row is made: a pin for each of its places, then the key and the row
abbrev pub makes_row : ℕ → Row → ℕ → List EventKind
makes_row n row key = pins_of (refs_of row) ++ (Kind.SetKey n key ∷ Kind.Make n row ∷ [])

-- the key of the row at place i: the rows' keys are a step apart, from the greatest key below on
abbrev pub key_at : ℕ → ℕ → ℕ → ℕ
key_at low step i = low + (i + 1) * step

-- rows are made in these nodes, the first of them the one at place i
abbrev pub makes_rows : ℕ → ℕ → ℕ → List NodeRow → List EventKind
makes_rows low step i [] = []
makes_rows low step i (r ∷ rs) = makes_row r.node r.row (key_at low step i) ++ makes_rows low step (i + 1) rs

-- the row of a node as it is made under a key
abbrev pub keyed_row : NodeRow → ℕ → Made
keyed_row r key = record { node = r.node; row = r.row; key = key }

-- the rows of these nodes as they are made, the first of them the one at place i
abbrev pub keyed_rows : ℕ → ℕ → ℕ → List NodeRow → List Made
keyed_rows low step i [] = []
keyed_rows low step i (r ∷ rs) = keyed_row r (key_at low step i) ∷ keyed_rows low step (i + 1) rs

-- ---- the new rows
-- A literal that the row at place i may have: that of a new gate before it, or one of a node to which a row may refer whose key is above low.
abbrev pub IsPlaced : View → ℕ → ℕ → Lit → Type 0
IsPlaced v low i l = ((is_new_gate l ≡ true) × (node_of l < first_new + i)) ⊎ ((is_new_gate l ≡ false) × MayReferTo v (suc low) (node_of l))

-- the row at place i is the pair of two such literals
abbrev pub IsNewRow : View → ℕ → ℕ → Row → Type 0
IsNewRow v low i row = (a : Lit) × (b : Lit) × (row ≡ And a b) × IsPlaced v low i a × IsPlaced v low i b

-- so are the first of the rows, as many as are needed
abbrev pub AreNewRows : View → ℕ → ℕ → List Row → Type 0
AreNewRows v low need rows = (i : ℕ) → i < need → IsNewRow v low i (row_at rows i)

-- the node at a place of the list
abbrev pub node_at : List NodeRow → ℕ → ℕ
node_at rows i = slice_index_or (nodes_of rows) i 0

-- The first of the rows were made, in these nodes: their rows are known, and rows of greater keys may refer to them.
pub record AreMade (low step : ℕ) (rows : List Row) (new : List NodeRow) (w : View) : Type 0 where
  pub stored : (i : ℕ) (d : NodeRow) → i < length new → (slice_index_or new i d).row ≡ row_made (nodes_of new) (row_at rows i)
  pub known : AreKnown w new
  pub gates : AreGates new
  pub keyed : (i : ℕ) → i < length new → MayReferTo w (suc (key_at low step i)) (node_at new i)

-- ---- the root
-- a row is stored in the place of another: a pin for each of its places, then the row, over these nodes
abbrev pub redefines_row : ℕ → Row → ArrayVec ℕ → List EventKind
redefines_row n row over = pins_of (refs_of row) ++ (Kind.Redefine n row over ∷ [])

-- the gates once the node has this row
abbrev pub with_row : ℕ → Row → List NodeRow → List NodeRow
with_row n row [] = []
with_row n row (r ∷ rows) = (if r.node == n then record { node = n; row = row } else r) ∷ with_row n row rows

-- the row was stored in the place of another, whichever nodes the event names
abbrev pub RedefinesRow : ℕ → View → ℕ → Row → View → Type 0
RedefinesRow nodes v n row w = (over : ArrayVec ℕ) → TurnsAll nodes v (redefines_row n row over) w
