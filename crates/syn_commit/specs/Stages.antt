-- The stages of a commit behind its walk: keys, hints and counts are loaded, and each load is a read of the decision.
use Rattle.std.specs.Prelude.{◌≡◌, ℕ, ◌+◌, ◌≤◌, ◌==◌, ◌||◌, if◌then◌else◌, false, List, [], ◌∷◌, ◌++◌, length}
use Rattle.syn_rows.specs.Nodes.{has_node}
use Rattle.syn_rows.specs.References.{times}
use Rattle.syn_core_laws.specs.declared.View.{View}
use Rattle.syn_core_laws.specs.declared.Seen.TheVariants as seen
use Rattle.syn_core_laws.specs.Views.{count_loaded, key_loaded, own_pins, own_refs, pinned}
use Rattle.syn_decide.specs.Tasks.{Task}
use Rattle.syn_decide.specs.Walk.{nodes_of}
use Rattle.syn_decide.specs.Walked.{AreGates}
use Rattle.syn_decide.specs.Decided.{Answer}
use Rattle.syn_decide.specs.Fold.{State, Stage, Walking, Keying, Hinting, Counting, Ended, Failed, read_one}
use Rattle.syn_commit.specs.Pools.{KeepsPool}
use Rattle.syn_commit.specs.Walks.{AreKnown, IsOfReads}

-- A commit on the way: the seat holds the nodes of the pool, of the inner rows and of the hits alone and knows their rows; it has these pins alone, nothing is on its zero list, and it
-- has stored nothing since the start. The root is no hit and isn't pinned.
pub record IsTrying (t : Task) (start : View) (pool pins : List ℕ) (v : View) (s : State) : Type 0 where
  pub reads : IsOfReads t start v s
  pub spare : KeepsPool v pool
  pub held : (n : ℕ) → has_node v.held n ≡ (has_node pool n || (has_node (nodes_of s.inner) n || has_node (nodes_of s.hits) n))
  pub inner : AreKnown v s.inner
  pub hits : AreKnown v s.hits
  pub gates : AreGates s.hits
  pub apart : has_node (nodes_of s.hits) t.proposal.root ≡ false
  pub root_out : times t.proposal.root pins ≡ 0
  pub pinned : (n : ℕ) → own_pins v n ≡ times n pins
  pub count : length v.pins ≡ length pins
  pub number : v.number ≡ start.number
  pub idle : v.idle ≡ []
  pub makes : v.makes ≡ start.makes
  pub changes : v.changes ≡ start.changes
  pub difference : v.difference ≡ start.difference

-- the view once a used leaf is pinned; the root needs no pin, since it is held
abbrev pub leaf_pinned : ℕ → ℕ → View → View
leaf_pinned root n v = if n == root then v else pinned v n

-- the pins after that
abbrev pub with_leaf : ℕ → ℕ → List ℕ → List ℕ
with_leaf root n pins = if n == root then pins else pins ++ n ∷ []

-- a key was loaded, of a used leaf that was pinned before or of the root, and is read
abbrev pub IsKeyed : Task → ℕ → View → List ℕ → State → View → List ℕ → State → Type 0
IsKeyed t n v pins s w more z =
    (key : ℕ) × (w ≡ key_loaded (leaf_pinned t.proposal.root n v) n key) × (more ≡ with_leaf t.proposal.root n pins) × (z ≡ read_one t s (seen.Key n key))

-- a count was loaded, at least the seat's references and pins, and is read with the number of the seat's own pins
abbrev pub IsCounted : Task → ℕ → ℕ → View → State → View → State → Type 0
IsCounted t nodes n v s w z = (count : ℕ) × (w ≡ count_loaded nodes v n count) × (z ≡ read_one t s (seen.Count n count (own_pins v n))) × (own_refs nodes v n + own_pins v n ≤ count)

-- ---- how far the decision has come
-- the walk is over, and the reads fit
abbrev pub IsPastWalk : Stage → Type 0
IsPastWalk (Walking waiting) = ⊥
IsPastWalk (Keying left) = Unit {0}
IsPastWalk (Hinting last) = Unit {0}
IsPastWalk Counting = Unit {0}
IsPastWalk (Ended answer) = Unit {0}
IsPastWalk Failed = ⊥

-- the keys are loaded too
abbrev pub IsPastKeys : Stage → Type 0
IsPastKeys (Walking waiting) = ⊥
IsPastKeys (Keying left) = ⊥
IsPastKeys (Hinting last) = Unit {0}
IsPastKeys Counting = Unit {0}
IsPastKeys (Ended answer) = Unit {0}
IsPastKeys Failed = ⊥

-- the answer stands
abbrev pub HasEnded : Stage → Type 0
HasEnded stage = (answer : Answer) × (stage ≡ Ended answer)
