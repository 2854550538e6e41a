-- The decision of one commit, as a fold over what its loads and failed claims met, in order.
use Rattle.std.specs.Prelude.{ℕ, ◌+◌, ◌-◌, ◌==◌, ◌&&◌, not, nat_lt, nat_le, max, if◌then◌else◌, Bool, true, false, List, [], ◌∷◌, ◌++◌, fold, find, length, drop, Option, Some, None}
use Rattle.syn_rows.specs.declared.Row.{Row}
use Rattle.syn_rows.specs.Rows.{refs_of}
use Rattle.syn_rows.specs.Rows.{is_derived}
use Rattle.syn_core_laws.specs.declared.Seen.{Seen}
use Rattle.syn_core_laws.specs.declared.Seen.TheVariants as seen
use Rattle.syn_gain.specs.Placing.{Placed}
use Rattle.syn_decide.specs.declared.decisions.Want.TheVariants as want
use Rattle.syn_decide.specs.Tasks.{Task}
use Rattle.syn_decide.specs.Decided.{Answer, Done, Busy, Reach, Wide, Differs, NoGain, NoGap, NoRoom, Decided, Answered, Next, Unfit}
use Rattle.syn_decide.specs.declared.decisions.TheConstants.{MAX_INNER}
use Rattle.syn_decide.specs.Walk.{nodes_of, from_entered, is_met}
use Rattle.syn_decide.specs.Functions.{in_circle, is_same_function, was_table, now_table, used_leaves}
use Rattle.syn_decide.specs.Hints.{placed_by_hits, is_asked, may_hit, most_hits, rows_needed}
use Rattle.syn_decide.specs.Dying.{ands_of, counted_of, dying_of}
use Rattle.syn_decide.specs.declared.decisions.NodeRow.{NodeRow}

-- How far the reads have come.
pub data Stage : Type 0 where
  -- The walk: what waits to be looked at, the node that it enters next first.
  Walking : (waiting : List ℕ) → Stage
  -- The keys: the nodes whose keys are still to be loaded, the root last.
  Keying : (left : List ℕ) → Stage
  -- The hints: the row load that stands right before, if one does.
  Hinting : (last : Option NodeRow) → Stage
  -- The counts.
  Counting : Stage
  -- The answer stands.
  Ended : Answer → Stage
  -- The reads fit no step.
  Failed : Stage

-- Hints may stand: behind the root's key and before the first count.
abbrev pub is_hinting : Stage → Bool
is_hinting (Walking waiting) = false
is_hinting (Keying left) = false
is_hinting (Hinting last) = true
is_hinting Counting = false
is_hinting (Ended answer) = false
is_hinting Failed = false

-- What is kept of the reads.
pub record State : Type 0 where
  pub stage : Stage
  -- the inner rows, in the order of the walk
  pub inner : List NodeRow
  -- the greatest key among the used leaves and hits
  pub low : ℕ
  -- the root's key
  pub high : ℕ
  -- the hits, with their rows
  pub hits : List NodeRow
  -- for the first of the inner rows, how many references to each are not the seat's own pins
  pub counts : List ℕ

-- before the first read: the walk begins at the root
abbrev pub begin : Task → State
begin t = record { stage = Walking (t.proposal.root ∷ []); inner = []; low = 0; high = 0; hits = []; counts = [] }

-- the state at another stage
abbrev pub at : State → Stage → State
at s stage = record s { stage = stage }

-- an answer
abbrev pub answered : State → Answer → State
answered s answer = at s (Ended answer)

-- no step
abbrev pub failed : State → State
failed s = at s Failed

-- The functions differ, or the keys come next: those of the used leaves, rising, and then the root's.
abbrev pub compared : Task → List NodeRow → Stage
compared t inner =
    if is_same_function t inner
    then Keying (used_leaves t ++ t.proposal.root ∷ [])
    else Ended (Differs (was_table t) (now_table t inner))

-- The walk is over. A used leaf that it didn't meet is out of reach. Rows in a circle fit no step, since no sound table has them.
abbrev pub after_walk : Task → List NodeRow → Option ℕ → Stage
after_walk t inner (Some leaf) = Ended (Reach leaf)
after_walk t inner None = if in_circle t inner then Failed else compared t inner

-- the least used leaf that the walk didn't meet
abbrev pub first_unmet : Task → List NodeRow → Option ℕ
first_unmet t inner = find (λ leaf. not (is_met inner leaf)) (used_leaves t)

-- The walk goes on at the first node that waits, if its row is not one too many.
abbrev pub walk_on : Task → List NodeRow → List ℕ → Stage
walk_on t inner [] = after_walk t inner (first_unmet t inner)
walk_on t inner (n ∷ waiting) = if nat_lt (length inner) MAX_INNER then Walking (n ∷ waiting) else Ended (Wide n)

-- the state with one inner row more
abbrev pub with_inner : State → ℕ → Row → State
with_inner s n row = record s { inner = s.inner ++ record { node = n; row = row } ∷ [] }

-- A row of the walk was loaded. Its fan-ins stand before what waited. An inner row is an AND or an alias.
abbrev pub row_loaded : Task → State → ℕ → Row → List ℕ → State
row_loaded t s n row waiting =
    if is_derived row
    then at (with_inner s n row) (walk_on t (with_inner s n row).inner (from_entered t.proposal.leaves (with_inner s n row).inner (refs_of row ++ waiting)))
    else answered s (Reach n)

-- The walk reads the row of the node that it enters next, or fails to claim it.
abbrev pub read_walking : Task → State → List ℕ → Seen → State
read_walking t s [] read = failed s
read_walking t s (n ∷ waiting) (seen.Row node row) = if node == n then row_loaded t s n row waiting else failed s
read_walking t s (n ∷ waiting) (seen.Miss node) = if node == n then answered s (Busy n) else failed s
read_walking t s (n ∷ waiting) (seen.Key node key) = failed s
read_walking t s (n ∷ waiting) (seen.Count node count own) = failed s

-- A key was loaded. The last of them is the root's, behind which hints may stand; each other one is a used leaf's.
abbrev pub key_loaded : State → ℕ → List ℕ → State
key_loaded s key [] = at (record s { high = key }) (Hinting None)
key_loaded s key (n ∷ left) = at (record s { low = max s.low key }) (Keying (n ∷ left))

-- The next key is read, and nothing else.
abbrev pub read_keying : State → List ℕ → Seen → State
read_keying s [] read = failed s
read_keying s (n ∷ left) (seen.Key node key) = if node == n then key_loaded s key left else failed s
read_keying s (n ∷ left) (seen.Row node row) = failed s
read_keying s (n ∷ left) (seen.Miss node) = failed s
read_keying s (n ∷ left) (seen.Count node count own) = failed s

-- what the gates become with the hits so far
abbrev pub placed_now : Task → State → Placed
placed_now t s = placed_by_hits t s.hits

-- one hit more
abbrev pub with_hit : State → ℕ → Row → ℕ → State
with_hit s n row key = record s { hits = s.hits ++ record { node = n; row = row } ∷ []; low = max s.low key }

-- The key of a node was loaded right behind its row, which was asked for: it is a hit where its node and key may be one.
abbrev pub hinted : Task → State → ℕ → Row → ℕ → State
hinted t s n row key =
    if may_hit t.proposal.leaves s.high n key
    then at (with_hit s n row key) (Hinting None)
    else at s (Hinting None)

-- A key fits only right behind the load of the node's row, and where a hint is asked for that row's pair. (No plan has more gates than there are hits at most.)
abbrev pub hint_key : Task → State → Option NodeRow → ℕ → ℕ → State
hint_key t s None node key = failed s
hint_key t s (Some last) node key =
    if (node == last.node && nat_lt (length s.hits) most_hits) && is_asked (placed_now t s).extra last.row then hinted t s last.node last.row key else failed s

-- the least gain that is enough
abbrev pub least_gain : Task → ℕ
least_gain t = if t.zero_gain then 0 else 1

-- Enough nodes are in the pool, or not.
abbrev pub by_room : Task → ℕ → ℕ → Answer
by_room t gain need = if nat_lt t.pool need then NoRoom need t.pool else Done gain

-- There is room between the keys, or not.
abbrev pub by_gap : Task → State → ℕ → ℕ → Answer
by_gap t s gain need = if nat_lt (s.low + need) s.high then by_room t gain need else NoGap t.proposal.root s.low need s.high

-- The gain is enough, or not.
abbrev pub by_gain : Task → State → ℕ → Placed → Answer
by_gain t s freed new =
    if nat_le (length new.extra + least_gain t) freed
    then by_gap t s (freed - length new.extra) (rows_needed t new)
    else NoGain freed (length new.extra)

-- how many ANDs die with the root's row, with these counts of the inner rows
abbrev pub freed_by : List NodeRow → List NodeRow → List ℕ → ℕ
freed_by inner hits counts = ands_of (dying_of (nodes_of hits) (counted_of inner counts))

-- The answer after the last count.
abbrev pub concluded : Task → State → Answer
concluded t s = by_gain t s (freed_by s.inner s.hits s.counts) (placed_now t s)

-- The count of an inner row was loaded: after the last one the answer stands.
abbrev pub count_on : Task → State → List NodeRow → State
count_on t s [] = answered s (concluded t s)
count_on t s (r ∷ left) = at s Counting

-- the state with one count more, less the seat's own pins
abbrev pub with_count : State → ℕ → ℕ → State
with_count s count own = record s { counts = s.counts ++ (count - own) ∷ [] }

-- The count of the first inner row that has none yet is read.
abbrev pub read_count : Task → State → List NodeRow → ℕ → ℕ → ℕ → State
read_count t s [] node count own = failed s
read_count t s (r ∷ left) node count own = if node == r.node then count_on t (with_count s count own) left else failed s

-- the inner rows whose counts are still to be loaded
abbrev pub uncounted : State → List NodeRow
uncounted s = drop (length s.counts) s.inner

-- Between the root's key and the first count: rows of hints, their keys, failed claims of hints; and the first count.
abbrev pub read_hinting : Task → State → Option NodeRow → Seen → State
read_hinting t s last (seen.Row node row) = at s (Hinting (Some (record { node = node; row = row })))
read_hinting t s last (seen.Key node key) = hint_key t s last node key
read_hinting t s last (seen.Miss node) = at s (Hinting None)
read_hinting t s last (seen.Count node count own) = read_count t s (uncounted s) node count own

-- The next count is read, and nothing else.
abbrev pub read_counting : Task → State → Seen → State
read_counting t s (seen.Count node count own) = read_count t s (uncounted s) node count own
read_counting t s (seen.Row node row) = failed s
read_counting t s (seen.Key node key) = failed s
read_counting t s (seen.Miss node) = failed s

-- One read, by the stage. Behind an answer nothing fits.
abbrev pub read_at : Task → State → Stage → Seen → State
read_at t s (Walking waiting) read = read_walking t s waiting read
read_at t s (Keying left) read = read_keying s left read
read_at t s (Hinting last) read = read_hinting t s last read
read_at t s Counting read = read_counting t s read
read_at t s (Ended answer) read = failed s
read_at t s Failed read = failed s

abbrev pub read_one : Task → State → Seen → State
read_one t s read = read_at t s s.stage read

-- the count that is loaded next
abbrev pub wanted_count : List NodeRow → Decided
wanted_count [] = Unfit
wanted_count (r ∷ left) = Next (want.Count r.node)

-- the first of the nodes, by the load that it wants
abbrev pub wanted_row : List ℕ → Decided
wanted_row [] = Unfit
wanted_row (n ∷ ns) = Next (want.Row n)

abbrev pub wanted_key : List ℕ → Decided
wanted_key [] = Unfit
wanted_key (n ∷ ns) = Next (want.Key n)

-- What is decided at a stage: the answer, or the next load. Hints are never asked for: behind the root's key the first count comes next.
abbrev pub wanted_at : State → Stage → Decided
wanted_at s (Walking waiting) = wanted_row waiting
wanted_at s (Keying left) = wanted_key left
wanted_at s (Hinting last) = wanted_count (uncounted s)
wanted_at s Counting = wanted_count (uncounted s)
wanted_at s (Ended answer) = Answered answer
wanted_at s Failed = Unfit

abbrev pub wants : State → Decided
wants s = wanted_at s s.stage

-- the state after these reads
abbrev pub after_reads : Task → State → List Seen → State
after_reads t s reads = fold (read_one t) s reads

-- The decision of these reads.
abbrev pub decided : Task → List Seen → Decided
decided t reads = wants (after_reads t (begin t) reads)
