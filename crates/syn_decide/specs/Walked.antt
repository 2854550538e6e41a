-- What holds of the inner rows after any reads.
use Rattle.std.specs.Prelude.{◌≡◌, ◌≢◌, ◌⊎◌, ◌<◌, ℕ, true, List, [], ◌∷◌, ◌++◌, map}
use Rattle.std.specs.List.{AllByRecursion}
use Rattle.syn_rows.specs.Rows.{AllRefs}
use Rattle.syn_rows.specs.Nodes.{has_node}
use Rattle.syn_rows.specs.declared.Row.{Row}
use Rattle.syn_rows.specs.Rows.{is_derived}
use Rattle.syn_core_laws.specs.declared.Seen.{Seen}
use Rattle.syn_core_laws.specs.declared.Seen.TheVariants as seen
use Rattle.syn_decide.specs.declared.decisions.Want.TheVariants as want
use Rattle.syn_decide.specs.Decided.{Next, Unfit}
use Rattle.syn_decide.specs.declared.decisions.NodeRow.{NodeRow}
use Rattle.syn_decide.specs.declared.decisions.Counted.{Counted}
use Rattle.syn_decide.specs.Tasks.{Task}
use Rattle.syn_decide.specs.Walk.{enters, is_met, nodes_of}
use Rattle.syn_decide.specs.Dying.{are_distinct, counted_of}
use Rattle.syn_decide.specs.Fold.{Stage, Walking, Keying, Hinting, Counting, Ended, Failed, after_reads, begin, decided, uncounted}

-- the node is node 0 or a leaf, or an inner row's, or it waits
abbrev pub IsKnown : Task → List NodeRow → List ℕ → ℕ → Type 0
IsKnown t inner waiting m = ((m ≡ 0) ⊎ (has_node t.proposal.leaves m ≡ true)) ⊎ ((has_node (nodes_of inner) m ≡ true) ⊎ (has_node waiting m ≡ true))

-- each inner row refers to such nodes alone
abbrev pub RefersToKnown : Task → List NodeRow → List ℕ → Type 0
RefersToKnown t inner waiting = AllByRecursion (λ r. AllRefs (IsKnown t inner waiting) r.row) inner

-- While the walk goes on, each fan-in of an inner row is node 0, a leaf, an inner row or a node that waits; after it, none waits any more.
abbrev pub IsClosedAt : Task → List NodeRow → Stage → Type 0
IsClosedAt t inner (Walking waiting) = RefersToKnown t inner waiting
IsClosedAt t inner (Keying left) = RefersToKnown t inner []
IsClosedAt t inner (Hinting last) = RefersToKnown t inner []
IsClosedAt t inner Counting = RefersToKnown t inner []
IsClosedAt t inner (Ended answer) = Unit {0}
IsClosedAt t inner Failed = Unit {0}

-- the first of the nodes, if there is one, is one that the walk enters
abbrev pub FirstEnters : Task → List NodeRow → List ℕ → Type 0
FirstEnters t inner [] = Unit {0}
FirstEnters t inner (n ∷ waiting) = enters t.proposal.leaves inner n ≡ true

-- The node that waits first is one that the walk enters.
abbrev pub NextEnters : Task → List NodeRow → Stage → Type 0
NextEnters t inner (Walking waiting) = FirstEnters t inner waiting
NextEnters t inner (Keying left) = Unit {0}
NextEnters t inner (Hinting last) = Unit {0}
NextEnters t inner Counting = Unit {0}
NextEnters t inner (Ended answer) = Unit {0}
NextEnters t inner Failed = Unit {0}

-- The root is the first that the walk enters, and then an inner row.
abbrev pub HasRoot : Task → List NodeRow → Stage → Type 0
HasRoot t inner (Walking waiting) = (has_node (nodes_of inner) t.proposal.root ≡ true) ⊎ (waiting ≡ t.proposal.root ∷ [])
HasRoot t inner (Keying left) = has_node (nodes_of inner) t.proposal.root ≡ true
HasRoot t inner (Hinting last) = has_node (nodes_of inner) t.proposal.root ≡ true
HasRoot t inner Counting = has_node (nodes_of inner) t.proposal.root ≡ true
HasRoot t inner (Ended answer) = Unit {0}
HasRoot t inner Failed = Unit {0}

-- each inner row is an AND or an alias
abbrev pub AreGates : List NodeRow → Type 0
AreGates inner = AllByRecursion (λ r. is_derived r.row ≡ true) inner

-- The inner rows are ANDs and aliases of different nodes, the root's among them; each fan-in is accounted for; the walk goes on at a node that it enters.
pub record IsWalked (t : Task) (inner : List NodeRow) (stage : Stage) : Type 0 where
  pub distinct : are_distinct (nodes_of inner) ≡ true
  pub closed : IsClosedAt t inner stage
  pub next : NextEnters t inner stage
  pub root : HasRoot t inner stage
  pub gates : AreGates inner

-- This holds after any reads of a task whose root is neither node 0 nor a leaf.
abbrev pub AlwaysWalked : Type 0
AlwaysWalked = (t : Task) (reads : List Seen) → enters t.proposal.leaves [] t.proposal.root ≡ true → IsWalked t (after_reads t (begin t) reads).inner (after_reads t (begin t) reads).stage

-- a rank rises along the references of the rows
abbrev pub RanksRise : (ℕ → ℕ) → List NodeRow → Type 0
RanksRise rank rows = AllByRecursion (λ r. AllRefs (λ m. rank m < rank r.node) r.row) rows

-- Where a rank rises along all inner rows, and along the row that is loaded next, the row that is asked for never fits no step: of a sound table's rows none is in a circle.
abbrev pub RowsAlwaysFit : Type 0
RowsAlwaysFit = (t : Task) (reads : List Seen) (rank : ℕ → ℕ) (n : ℕ) (row : Row) → enters t.proposal.leaves [] t.proposal.root ≡ true → decided t reads ≡ Next (want.Row n)
    → RanksRise rank ((after_reads t (begin t) reads).inner ++ record { node = n; row = row } ∷ []) → decided t (reads ++ seen.Row n row ∷ []) ≢ Unfit

-- a counted row without its count
abbrev pub without_count : Counted → NodeRow
without_count r = record { node = r.node; row = r.row }

-- After any reads the counted rows are the first of the inner rows, in their order.
abbrev pub CountedAreFirst : Type 0
CountedAreFirst = (t : Task) (reads : List Seen) → map without_count (counted_of (after_reads t (begin t) reads).inner (after_reads t (begin t) reads).counts) ++ uncounted (after_reads t (begin t) reads) ≡ (after_reads t (begin t) reads).inner

-- the first inner row is the root's
abbrev pub FirstIs : ℕ → List NodeRow → Type 0
FirstIs root [] = Unit {0}
FirstIs root (r ∷ inner) = r.node ≡ root

-- each of the nodes is the root, or an inner row refers to it
abbrev pub AreMet : Task → List NodeRow → List ℕ → Type 0
AreMet t inner ns = (m : ℕ) → has_node ns m ≡ true → (m ≡ t.proposal.root) ⊎ (is_met inner m ≡ true)

-- so is each node that waits for the walk, or for the load of its key
abbrev pub WaitingAreMet : Task → List NodeRow → Stage → Type 0
WaitingAreMet t inner (Walking waiting) = AreMet t inner waiting
WaitingAreMet t inner (Keying left) = AreMet t inner left
WaitingAreMet t inner (Hinting last) = Unit {0}
WaitingAreMet t inner Counting = Unit {0}
WaitingAreMet t inner (Ended answer) = Unit {0}
WaitingAreMet t inner Failed = Unit {0}

-- while there is no inner row, the root alone waits
abbrev pub RootAlone : Task → List NodeRow → Stage → Type 0
RootAlone t [] (Walking waiting) = waiting ≡ t.proposal.root ∷ []
RootAlone t [] (Keying left) = Unit {0}
RootAlone t [] (Hinting last) = Unit {0}
RootAlone t [] Counting = Unit {0}
RootAlone t [] (Ended answer) = Unit {0}
RootAlone t [] Failed = Unit {0}
RootAlone t (r ∷ inner) stage = Unit {0}

-- The root's row is the first; to each other node of the walk, and to each that waits, an inner row refers.
pub record IsLinked (t : Task) (inner : List NodeRow) (stage : Stage) : Type 0 where
  pub first : FirstIs t.proposal.root inner
  pub alone : RootAlone t inner stage
  pub met : AreMet t inner (nodes_of inner)
  pub waiting : WaitingAreMet t inner stage

-- This holds after any reads.
abbrev pub AlwaysLinked : Type 0
AlwaysLinked = (t : Task) (reads : List Seen) → IsLinked t (after_reads t (begin t) reads).inner (after_reads t (begin t) reads).stage
