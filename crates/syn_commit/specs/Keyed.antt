-- The keys of a commit: each pinned node's is known and at most the greatest below the root, and the root's is known.
use Rattle.std.specs.Prelude.{◌≡◌, ◌⊎◌, ℕ, ◌≤◌, true, List, [], ◌∷◌, Some}
use Rattle.syn_rows.specs.Nodes.{has_node}
use Rattle.syn_core_laws.specs.declared.View.{View}
use Rattle.syn_core_laws.specs.Views.{known_key}
use Rattle.syn_decide.specs.Tasks.{Task}
use Rattle.syn_decide.specs.Functions.{used_leaves}
use Rattle.syn_decide.specs.Walk.{nodes_of}
use Rattle.syn_decide.specs.Decided.{Answer, Done, Busy, Reach, Wide, Differs, NoGain, NoGap, NoRoom}
use Rattle.syn_decide.specs.Fold.{State, Stage, Walking, Keying, Hinting, Counting, Ended, Failed}

-- the node's key is known, and at most this one
abbrev pub KeyAtMost : View → ℕ → ℕ → Type 0
KeyAtMost v high n = (k : ℕ) × (known_key v n ≡ Some k) × (k ≤ high)

-- the root is the last of the nodes
abbrev pub EndsAt : ℕ → List ℕ → Type 0
EndsAt root [] = ⊥
EndsAt root (n ∷ []) = n ≡ root
EndsAt root (n ∷ m ∷ ns) = EndsAt root (m ∷ ns)

-- Some keys are still to be loaded, of used leaves and then of the root: each used leaf waits or is pinned.
pub record AreWaiting (t : Task) (left pins : List ℕ) : Type 0 where
  pub last : EndsAt t.proposal.root left
  pub these : (n : ℕ) → has_node left n ≡ true → (has_node (used_leaves t) n ≡ true) ⊎ (n ≡ t.proposal.root)
  pub leaves : (n : ℕ) → has_node (used_leaves t) n ≡ true → (has_node left n ≡ true) ⊎ (has_node pins n ≡ true)

-- All keys are loaded: each used leaf is pinned, and the root's key is known.
pub record AreAllKeyed (t : Task) (pins : List ℕ) (v : View) (s : State) : Type 0 where
  pub leaves : (n : ℕ) → has_node (used_leaves t) n ≡ true → has_node pins n ≡ true
  pub root : known_key v t.proposal.root ≡ Some s.high

-- the keys after an answer: all are loaded where it comes behind them
abbrev pub KeyedAfter : Task → List ℕ → View → State → Answer → Type 0
KeyedAfter t pins v s (Done gain) = AreAllKeyed t pins v s
KeyedAfter t pins v s (Busy node) = Unit {0}
KeyedAfter t pins v s (Reach node) = Unit {0}
KeyedAfter t pins v s (Wide node) = Unit {0}
KeyedAfter t pins v s (Differs was now) = Unit {0}
KeyedAfter t pins v s (NoGain freed added) = AreAllKeyed t pins v s
KeyedAfter t pins v s (NoGap node low need high) = AreAllKeyed t pins v s
KeyedAfter t pins v s (NoRoom need have) = AreAllKeyed t pins v s

-- the keys at a stage
abbrev pub KeyedAt : Task → List ℕ → View → State → Stage → Type 0
KeyedAt t pins v s (Walking waiting) = Unit {0}
KeyedAt t pins v s (Keying left) = AreWaiting t left pins
KeyedAt t pins v s (Hinting last) = AreAllKeyed t pins v s
KeyedAt t pins v s Counting = AreAllKeyed t pins v s
KeyedAt t pins v s (Ended answer) = KeyedAfter t pins v s answer
KeyedAt t pins v s Failed = Unit {0}

-- A commit on the way: what is pinned are used leaves and hits, with known keys at most low; each hit is pinned.
pub record IsKeyedSoFar (t : Task) (pins : List ℕ) (v : View) (s : State) : Type 0 where
  pub keys : (n : ℕ) → has_node pins n ≡ true → KeyAtMost v s.low n
  pub only : (n : ℕ) → has_node pins n ≡ true → (has_node (used_leaves t) n ≡ true) ⊎ (has_node (nodes_of s.hits) n ≡ true)
  pub hits : (n : ℕ) → has_node (nodes_of s.hits) n ≡ true → has_node pins n ≡ true
  pub stage : KeyedAt t pins v s s.stage
