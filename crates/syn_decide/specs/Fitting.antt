-- What the reads have found of a plan: that it fits the inner rows, and which nodes the hits are.
use Rattle.std.specs.Prelude.{◌≡◌, ◌≢◌, ◌<◌, ℕ, true, false, List, None}
use Rattle.std.specs.List.{AllByRecursion}
use Rattle.syn_rows.specs.Nodes.{has_node}
use Rattle.syn_core_laws.specs.declared.Seen.{Seen}
use Rattle.syn_decide.specs.declared.decisions.NodeRow.{NodeRow}
use Rattle.syn_decide.specs.Tasks.{Task}
use Rattle.syn_decide.specs.Decided.{Answer, Done, Busy, Reach, Wide, Differs, NoGain, NoGap, NoRoom}
use Rattle.syn_decide.specs.Functions.{in_circle, is_same_function}
use Rattle.syn_decide.specs.Hints.{first_new}
use Rattle.syn_decide.specs.Fold.{Stage, Walking, Keying, Hinting, Counting, Ended, Failed, after_reads, begin, first_unmet}

-- The plan fits the inner rows: the walk met each leaf that the plan uses, the rows are in no circle, and the root's function is the plan's.
pub record IsFitting (t : Task) (inner : List NodeRow) : Type 0 where
  pub met : first_unmet t inner ≡ None
  pub no_circle : in_circle t inner ≡ false
  pub same : is_same_function t inner ≡ true

-- after an answer that comes behind the counts
abbrev pub FitsAnswer : Task → List NodeRow → Answer → Type 0
FitsAnswer t inner (Done gain) = IsFitting t inner
FitsAnswer t inner (Busy node) = Unit {0}
FitsAnswer t inner (Reach node) = Unit {0}
FitsAnswer t inner (Wide node) = Unit {0}
FitsAnswer t inner (Differs was now) = Unit {0}
FitsAnswer t inner (NoGain freed added) = IsFitting t inner
FitsAnswer t inner (NoGap node low need high) = IsFitting t inner
FitsAnswer t inner (NoRoom need have) = IsFitting t inner

-- From the first key on the plan fits.
abbrev pub FitsAt : Task → List NodeRow → Stage → Type 0
FitsAt t inner (Walking waiting) = Unit {0}
FitsAt t inner (Keying left) = IsFitting t inner
FitsAt t inner (Hinting last) = IsFitting t inner
FitsAt t inner Counting = IsFitting t inner
FitsAt t inner (Ended answer) = FitsAnswer t inner answer
FitsAt t inner Failed = Unit {0}

-- the node is neither node 0 nor a leaf
pub record IsInside (t : Task) (n : ℕ) : Type 0 where
  pub other : n ≢ 0
  pub inside : has_node t.proposal.leaves n ≡ false

-- Each hit is such a node, and its number is no new gate's.
abbrev pub HitsAreInside : Task → List NodeRow → Type 0
HitsAreInside t hits = AllByRecursion (λ h. IsInside t h.node × (h.node < first_new)) hits

-- Both hold after any reads.
abbrev pub AlwaysFitting : Type 0
AlwaysFitting = (t : Task) (reads : List Seen) → FitsAt t (after_reads t (begin t) reads).inner (after_reads t (begin t) reads).stage

abbrev pub HitsAlwaysInside : Type 0
HitsAlwaysInside = (t : Task) (reads : List Seen) → HitsAreInside t (after_reads t (begin t) reads).hits
