-- What a commit gives back at its end: its pins, the rows to which nobody refers any more, and the nodes that it took.
use Rattle.std.specs.Prelude.{◌≡◌, ◌⊎◌, ℕ, ◌+◌, ◌*◌, ◌≤◌, nat_lt, if◌then◌else◌, true, pos, ◌+ℤ◌, List, [], ◌∷◌, ◌++◌, length, Some, ⊤}
use Rattle.syn_rows.specs.declared.Row.TheVariants.{Free}
use Rattle.syn_rows.specs.Nodes.{has_node}
use Rattle.syn_rows.specs.References.{times}
use Rattle.syn_core_laws.specs.declared.View.{View}
use Rattle.syn_core_laws.specs.declared.Change.{Change}
use Rattle.syn_core_laws.specs.declared.EventKind.{EventKind}
use Rattle.syn_core_laws.specs.declared.EventKind.TheVariants as Kind
use Rattle.syn_core_laws.specs.Shown.{HasNoCircle}
use Rattle.syn_core_laws.specs.Views.{known_row, own_pins}
use Rattle.syn_decide.specs.declared.decisions.NodeRow.{NodeRow}
use Rattle.syn_decide.specs.Walk.{nodes_of}
use Rattle.syn_decide.specs.Walked.{AreGates}
use Rattle.syn_commit_laws.specs.Freeing.{late, redefines}
use Rattle.syn_commit_laws.specs.Turning.{Turns}
use Rattle.syn_decide.specs.Fold.{State}
use Rattle.syn_commit.specs.declared.returns.Holding.{Holding}
use Rattle.syn_commit.specs.declared.returns.TheConstants.{MAX_HELD}
use Rattle.syn_commit.specs.Counts.{dying_by}
use Rattle.syn_commit.specs.Pools.{KeepsPool}
use Rattle.syn_commit.specs.Walks.{AreKnown}

-- a seat that gives back takes pins back, frees, and lets go of nodes that it knows to be free
abbrev pub GivesBack : View → EventKind → Type 0
GivesBack v (Kind.Claim n) = ⊥
GivesBack v (Kind.ClaimFailed n) = ⊥
GivesBack v (Kind.Release n) = known_row v n ≡ Some Free
GivesBack v (Kind.LoadRow n) = ⊥
GivesBack v (Kind.Pin n) = ⊥
GivesBack v (Kind.Unpin n) = ⊤
GivesBack v (Kind.LoadCount n) = ⊥
GivesBack v (Kind.LoadKey n) = ⊥
GivesBack v (Kind.SetKey n key) = ⊥
GivesBack v (Kind.Make n row) = ⊥
GivesBack v (Kind.Redefine n row over) = ⊥
GivesBack v (Kind.Free n) = ⊤

-- a seat's events, one after the other, each of which gives back
abbrev pub GivesBackAll : ℕ → View → List EventKind → View → Type 0
GivesBackAll nodes v [] w = w ≡ v
GivesBackAll nodes v (e ∷ es) w = (u : View) × Turns nodes v e u × GivesBack v e × GivesBackAll nodes u es w

-- the pool after an event: a node that is freed joins it while it has fewer than 512
abbrev pub pool_after : List ℕ → EventKind → List ℕ
pool_after pool (Kind.Claim n) = pool
pool_after pool (Kind.ClaimFailed n) = pool
pool_after pool (Kind.Release n) = pool
pool_after pool (Kind.LoadRow n) = pool
pool_after pool (Kind.Pin n) = pool
pool_after pool (Kind.Unpin n) = pool
pool_after pool (Kind.LoadCount n) = pool
pool_after pool (Kind.LoadKey n) = pool
pool_after pool (Kind.SetKey n key) = pool
pool_after pool (Kind.Make n row) = pool
pool_after pool (Kind.Redefine n row over) = pool
pool_after pool (Kind.Free n) = if nat_lt (length pool) 512 then pool ++ n ∷ [] else pool

-- the same of events, one after the other
abbrev pub pool_after_all : List ℕ → List EventKind → List ℕ
pool_after_all pool [] = pool
pool_after_all pool (e ∷ es) = pool_after_all (pool_after pool e) es

-- A seat gave back, and what it freed joined the pool as far as there was room.
abbrev pub Gives : ℕ → View → List ℕ → View → List ℕ → Type 0
Gives nodes v pool w grown = (es : List EventKind) × GivesBackAll nodes v es w × (grown ≡ pool_after_all pool es)

-- What a seat has beside its pool while it gives back: these pins, these gates, and on its zero list the gates of the second list. Each node stands once in the two.
pub record IsGiving (pool pins : List ℕ) (gates idle : List NodeRow) (v : View) : Type 0 where
  pub spare : KeepsPool v pool
  pub held : (n : ℕ) → has_node v.held n ≡ true → (has_node pool n ≡ true) ⊎ (1 ≤ times n (nodes_of gates) + times n (nodes_of idle))
  pub known : AreKnown v gates
  pub idle_known : AreKnown v idle
  pub derived : AreGates gates
  pub idle_derived : AreGates idle
  pub once : (n : ℕ) → times n (nodes_of gates) + times n (nodes_of idle) ≤ 1
  pub idle_there : (n : ℕ) → has_node v.idle n ≡ true → 1 ≤ times n (nodes_of idle)
  pub idle_all : (n : ℕ) → 1 ≤ times n (nodes_of idle) → has_node v.idle n ≡ true
  pub pinned : (n : ℕ) → own_pins v n ≡ times n pins
  pub room : length gates + length idle ≤ MAX_HELD

-- the same of a commit's own lists
abbrev pub IsHolding : List ℕ → Holding → View → Type 0
IsHolding pool h v = IsGiving pool h.pins.items h.gates.items h.idle.items v

-- how much is left to give back: each gate that is freed leaves at most two pins more
abbrev pub work_left : List ℕ → List NodeRow → List NodeRow → ℕ
work_left pins gates idle = 3 * (length gates + length idle) + length pins

-- the gates were let go, and nothing else became of the view
pub record IsLetGo (v w : View) : Type 0 where
  pub number : w.number ≡ v.number
  pub reads : w.reads ≡ v.reads
  pub misses : w.misses ≡ v.misses
  pub makes : w.makes ≡ v.makes
  pub changes : w.changes ≡ v.changes
  pub difference : w.difference ≡ v.difference

-- the gates with one more, if its node isn't there yet
abbrev pub with_gate : List NodeRow → NodeRow → List NodeRow
with_gate gates r = if has_node (nodes_of gates) r.node then gates else gates ++ r ∷ []

-- the same of rows, in order
abbrev pub with_gates : List NodeRow → List NodeRow → List NodeRow
with_gates gates [] = gates
with_gates gates (r ∷ rows) = with_gates (with_gate gates r) rows

-- the seat holds and pins nothing, and nothing is on its zero list
pub record IsAtRest (v : View) : Type 0 where
  pub held : v.held ≡ []
  pub pins : v.pins ≡ []
  pub idle : v.idle ≡ []

-- the seat holds the nodes of the pool alone, has no pins, and nothing is on its zero list
pub record HoldsAlone (pool : List ℕ) (v : View) : Type 0 where
  pub spare : KeepsPool v pool
  pub held : (n : ℕ) → has_node v.held n ≡ has_node pool n
  pub pins : v.pins ≡ []
  pub idle : v.idle ≡ []

-- A seat gave back, and then let go of the gates that were left.
abbrev pub HasGivenUp : ℕ → View → List ℕ → View → List ℕ → Type 0
HasGivenUp nodes v pool w grown = (u : View) × Gives nodes v pool u grown × IsLetGo u w

-- Before it let go, no pin was left and nothing on its zero list, and the rows that it knew were in no circle.
pub record HasGivenBack (nodes : ℕ) (v : View) (pool : List ℕ) (w : View) (grown : List ℕ) : Type 0 where
  pub drained : View
  pub gives : Gives nodes v pool drained grown
  pub let_go : IsLetGo drained w
  pub no_pins : drained.pins ≡ []
  pub no_idle : drained.idle ≡ []
  pub no_circle : HasNoCircle nodes drained

-- Since the start nothing was stored but free rows, and the difference fell by exactly the late ANDs: those that were freed and that the decision didn't count as dying.
abbrev pub FellByLate : View → View → State → Type 0
FellByLate start v s = (changes : List Change) × (v.changes ≡ start.changes ++ changes) × (redefines changes ≡ []) × (v.difference +ℤ pos (late (dying_by s) changes) ≡ start.difference)
