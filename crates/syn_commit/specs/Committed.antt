-- What a commit leaves behind: what it met, what it stored, and what became of its pool and of the difference in ANDs.
use Rattle.std.specs.Prelude.{◌≡◌, ℕ, ◌+◌, ◌<◌, ◌&&◌, nat_lt, if◌then◌else◌, List, [], ◌∷◌, ◌++◌, drop, length, reverse, slice_index_or, pos, ◌+ℤ◌}
use Rattle.syn_rows.specs.declared.Row.{Row}
use Rattle.syn_rows.specs.declared.Row.TheVariants.{Free}
use Rattle.syn_rows.specs.Rows.{row_at}
use Rattle.syn_fanout_free.specs.Freed.{is_free}
use Rattle.syn_core_laws.specs.declared.View.{View}
use Rattle.syn_core_laws.specs.declared.Seen.{Seen}
use Rattle.syn_core_laws.specs.declared.Seen.TheVariants as seen
use Rattle.syn_core_laws.specs.declared.Made.{Made}
use Rattle.syn_core_laws.specs.declared.Change.{Change}
use Rattle.syn_decide.specs.declared.decisions.NodeRow.{NodeRow}
use Rattle.syn_decide.specs.Decided.{Answer, Done, Busy, Reach, Wide, Differs, NoGain, NoGap, NoRoom}
use Rattle.syn_decide.specs.Fold.{State, after_reads, begin, placed_now}
use Rattle.syn_decide.specs.Hints.{rows_needed}
use Rattle.syn_decide.specs.Tasks.{Task}
use Rattle.syn_decide.specs.Walk.{nodes_of}
use Rattle.syn_commit_laws.specs.Freeing.{late, redefines}
use Rattle.syn_commit_laws.specs.Redefining.{row_made}
use Rattle.syn_commit.specs.Counts.{dying_by}
use Rattle.syn_commit.specs.Finishing.{new_row, root_change}
use Rattle.syn_commit.specs.Making.{step_now}
use Rattle.syn_commit.specs.Storing.{keyed_rows}

-- what a seat met since the start, the rows that it made, and the changes that it stored
abbrev pub met_since : View → View → List Seen
met_since start v = drop (length start.reads) v.reads

abbrev pub makes_since : View → View → List Made
makes_since start v = drop (length start.makes) v.makes

abbrev pub changes_since : View → View → List Change
changes_since start v = drop (length start.changes) v.changes

-- the last that was met is a failed claim of the node
abbrev pub EndsInMiss : List Seen → ℕ → Type 0
EndsInMiss met n = (before : List Seen) × (met ≡ before ++ seen.Miss n ∷ [])

-- the state of the decision after what the seat met since the start
abbrev pub state_since : Task → View → View → State
state_since t start v = after_reads t (begin t) (met_since start v)

-- the gain that an answer tells; none but `Done` tells one
abbrev pub gain_of : Answer → ℕ
gain_of (Done gain) = gain
gain_of (Busy node) = 0
gain_of (Reach node) = 0
gain_of (Wide node) = 0
gain_of (Differs was now) = 0
gain_of (NoGain freed added) = 0
gain_of (NoGap node low need high) = 0
gain_of (NoRoom need have) = 0

-- the pool with the nodes that the changes freed: each joins it while it has fewer than 512
abbrev pub pool_with : List ℕ → List Change → List ℕ
pool_with pool [] = pool
pool_with pool (c ∷ cs) = pool_with (if is_free c.new && nat_lt (length pool) 512 then pool ++ c.node ∷ [] else pool) cs

-- the row that the walk met first: the root's old one
abbrev pub old_row : List NodeRow → Row
old_row [] = Free
old_row (r ∷ rows) = r.row

-- What `Done` stores: a row for each new gate that needs one, in order, in nodes of the pool, the last of it first, and with the keys `low + step`, `low + 2 * step` and so on;
-- and one redefine, which gives the root its new row.
pub record IsStored (t : Task) (s : State) (pool kept : List ℕ) (makes : List Made) (changes : List Change) : Type 0 where
  pub made : List NodeRow
  pub makes_these : makes ≡ keyed_rows s.low (step_now t s) 0 made
  pub taken : pool ≡ kept ++ reverse (nodes_of made)
  pub count : length made ≡ rows_needed t (placed_now t s)
  pub rows : (i : ℕ) (d : NodeRow) → i < length made → (slice_index_or made i d).row ≡ row_made (nodes_of made) (row_at (placed_now t s).extra i)
  pub root : redefines changes ≡ root_change t.proposal.root (old_row s.inner) (new_row t s made) ∷ []

-- any other answer makes no row and redefines none
pub record NothingIsStored (pool kept : List ℕ) (makes : List Made) (changes : List Change) : Type 0 where
  pub makes_none : makes ≡ []
  pub taken : pool ≡ kept
  pub none : redefines changes ≡ []

-- what a commit stores, by its answer; the pool keeps these nodes
abbrev pub Stores : Task → State → Answer → List ℕ → List ℕ → List Made → List Change → Type 0
Stores t s (Done gain) pool kept makes changes = IsStored t s pool kept makes changes
Stores t s (Busy node) pool kept makes changes = NothingIsStored pool kept makes changes
Stores t s (Reach node) pool kept makes changes = NothingIsStored pool kept makes changes
Stores t s (Wide node) pool kept makes changes = NothingIsStored pool kept makes changes
Stores t s (Differs was now) pool kept makes changes = NothingIsStored pool kept makes changes
Stores t s (NoGain freed added) pool kept makes changes = NothingIsStored pool kept makes changes
Stores t s (NoGap node low need high) pool kept makes changes = NothingIsStored pool kept makes changes
Stores t s (NoRoom need have) pool kept makes changes = NothingIsStored pool kept makes changes

-- What a commit with this answer stored since the start: the pool loses nodes to made rows alone and gets those that were freed; the difference in ANDs fell by the gain and by the late ANDs.
pub record IsBooked (t : Task) (s : State) (answer : Answer) (start : View) (pool : List ℕ) (v : View) (grown : List ℕ) : Type 0 where
  pub makes : List Made
  pub changes : List Change
  pub kept : List ℕ
  pub made : v.makes ≡ start.makes ++ makes
  pub since : v.changes ≡ start.changes ++ changes
  pub stored : Stores t s answer pool kept makes changes
  pub joined : grown ≡ pool_with kept changes
  pub fell : v.difference +ℤ pos (gain_of answer + late (dying_by s) changes) ≡ start.difference

-- A commit that gave up stored nothing since the start but free rows: the pool gets those, and the difference in ANDs fell by the late ones.
pub record HasStoredNone (s : State) (start : View) (pool : List ℕ) (v : View) (grown : List ℕ) : Type 0 where
  pub made : v.makes ≡ start.makes
  pub changes : List Change
  pub since : v.changes ≡ start.changes ++ changes
  pub none : redefines changes ≡ []
  pub joined : grown ≡ pool_with pool changes
  pub fell : v.difference +ℤ pos (late (dying_by s) changes) ≡ start.difference

-- what a commit with this answer made and stored since the start, and its pool then
abbrev pub StoredSince : Task → View → List ℕ → Answer → View → List ℕ → Type 0
StoredSince t start pool answer v grown = (kept : List ℕ) × Stores t (state_since t start v) answer pool kept (makes_since start v) (changes_since start v) × (grown ≡ pool_with kept (changes_since start v))

-- since the start the difference in ANDs fell by exactly the answer's gain and the late ANDs
abbrev pub FellSince : Task → View → Answer → View → Type 0
FellSince t start answer v = v.difference +ℤ pos (gain_of answer + late (dying_by (state_since t start v)) (changes_since start v)) ≡ start.difference
