-- A commit that is done has the gain that is enough.
use Rattle.std.proofs.Common.{◌≡◌, ℕ, ◌+◌, ◌-◌, ◌≤◌, Bool, true, false, nat_le, nat_lt, ◌==◌, ◌&&◌, if◌then◌else◌, List, [], ◌∷◌, ◌++◌, length, Option, Some, None, refl, subst, arith}
use Rattle.std.specs.Bool.{⊤}
use Rattle.std.proofs.lemmas.Bool.{leb-true}
use Rattle.syn_rows.specs.declared.Row.{Row}
use Rattle.syn_rows.specs.Rows.{is_derived, refs_of}
use Rattle.syn_core_laws.specs.declared.Seen.{Seen}
use Rattle.syn_core_laws.specs.declared.Seen.TheVariants as seen
use Rattle.syn_decide.specs.declared.decisions.NodeRow.{NodeRow}
use Rattle.syn_decide.specs.declared.decisions.TheConstants.{MAX_INNER}
use Rattle.syn_decide.specs.Tasks.{Task}
use Rattle.syn_decide.specs.Decided.{Answer, Answered, Done, Busy, Reach, Wide, Differs, NoGain, NoGap, NoRoom}
use Rattle.syn_decide.specs.Walk.{from_entered}
use Rattle.syn_decide.specs.Functions.{in_circle, is_same_function, now_table, used_leaves, was_table}
use Rattle.syn_decide.specs.Hints.{is_asked, may_hit, most_hits, rows_needed}
use Rattle.syn_decide.specs.Fold.{State, Stage, Walking, Keying, Hinting, Counting, Ended, Failed, after_reads, after_walk, answered, at, begin, by_gap, by_room, concluded, count_on, decided, failed, first_unmet, freed_by, key_loaded, least_gain, placed_now, read_at, read_count, read_one, row_loaded, uncounted, walk_on, wanted_at, wanted_count, with_count, with_hit, with_inner}

-- what an answer owes: the gain of `Done` is enough
abbrev IsEnough : Task → Answer → Type 0
IsEnough t (Done gain) = least_gain t ≤ gain
IsEnough t (Busy node) = ⊤
IsEnough t (Reach node) = ⊤
IsEnough t (Wide node) = ⊤
IsEnough t (Differs was now) = ⊤
IsEnough t (NoGain freed added) = ⊤
IsEnough t (NoGap node low need high) = ⊤
IsEnough t (NoRoom need have) = ⊤

abbrev IsFine : Task → Stage → Type 0
IsFine t (Walking waiting) = ⊤
IsFine t (Keying left) = ⊤
IsFine t (Hinting last) = ⊤
IsFine t Counting = ⊤
IsFine t (Ended answer) = IsEnough t answer
IsFine t Failed = ⊤

concluded_enough : (t : Task) (s : State) → IsEnough t (concluded t s)
concluded_enough t s = go (nat_le (added + least_gain t) freed) refl
  where
    added : ℕ
    added = length (placed_now t s).extra

    freed : ℕ
    freed = freed_by s.inner s.hits s.counts

    need : ℕ
    need = rows_needed t (placed_now t s)

    room : (gain : ℕ) → least_gain t ≤ gain → (b : Bool) → IsEnough t (if b then NoRoom need t.pool else Done gain)
    room gain le true = tt
    room gain le false = le

    gap : (gain : ℕ) → least_gain t ≤ gain → (b : Bool) → IsEnough t (if b then by_room t gain need else NoGap t.proposal.root s.low need s.high)
    gap gain le true = room gain le (nat_lt t.pool need)
    gap gain le false = tt

    go : (b : Bool) → nat_le (added + least_gain t) freed ≡ b → IsEnough t (if b then by_gap t s (freed - added) need else NoGain freed added)
    go true f = let le = leb-true (added + least_gain t) freed f in gap (freed - added) (omega (arith, le)) (nat_lt (s.low + need) s.high)
    go false f = tt

walk_over : (t : Task) (inner : List NodeRow) (o : Option ℕ) → IsFine t (after_walk t inner o)
walk_over t inner (Some leaf) = tt
walk_over t inner None = go (in_circle t inner) (is_same_function t inner)
  where
    go : (b c : Bool) → IsFine t (if b then Failed else (if c then Keying (used_leaves t ++ t.proposal.root ∷ []) else Ended (Differs (was_table t) (now_table t inner))))
    go true c = tt
    go false true = tt
    go false false = tt

goes_on : (t : Task) (inner : List NodeRow) (waiting : List ℕ) → IsFine t (walk_on t inner waiting)
goes_on t inner [] = walk_over t inner (first_unmet t inner)
goes_on t inner (n ∷ waiting) = go (nat_lt (length inner) MAX_INNER)
  where
    go : (b : Bool) → IsFine t (if b then Walking (n ∷ waiting) else Ended (Wide n))
    go true = tt
    go false = tt

either_fine : (t : Task) (b : Bool) (x y : State) → IsFine t x.stage → IsFine t y.stage → IsFine t (if b then x else y).stage
either_fine t true x y g h = g
either_fine t false x y g h = h

row_fine : (t : Task) (s : State) (n : ℕ) (r : Row) (waiting : List ℕ) → IsFine t (row_loaded t s n r waiting).stage
row_fine t s n r waiting =
    either_fine t (is_derived r) (at (with_inner s n r) (walk_on t (with_inner s n r).inner (from_entered t.proposal.leaves (with_inner s n r).inner (refs_of r ++ waiting)))) (answered s (Reach n))
    (goes_on t (with_inner s n r).inner (from_entered t.proposal.leaves (with_inner s n r).inner (refs_of r ++ waiting))) tt

key_fine : (t : Task) (s : State) (key : ℕ) (left : List ℕ) → IsFine t (key_loaded s key left).stage
key_fine t s key [] = tt
key_fine t s key (m ∷ left) = tt

hint_fine : (t : Task) (s : State) (b : Bool) (last : NodeRow) (key : ℕ)
    → IsFine t (if b then (if may_hit t.proposal.leaves s.high last.node key then at (with_hit s last.node last.row key) (Hinting None) else at s (Hinting None)) else failed s).stage
hint_fine t s false last key = tt
hint_fine t s true last key = either_fine t (may_hit t.proposal.leaves s.high last.node key) (at (with_hit s last.node last.row key) (Hinting None)) (at s (Hinting None)) tt tt

count_fine : (t : Task) (s : State) (left : List NodeRow) (node count own : ℕ) → IsFine t (read_count t s left node count own).stage
count_fine t s [] node count own = tt
count_fine t s (r ∷ left) node count own = either_fine t (node == r.node) (count_on t (with_count s count own) left) (failed s) (counted left) tt
  where
    counted : (left : List NodeRow) → IsFine t (count_on t (with_count s count own) left).stage
    counted [] = concluded_enough t (with_count s count own)
    counted (q ∷ left) = tt

step_fine : (t : Task) (s : State) (stage : Stage) (read : Seen) → IsFine t (read_at t s stage read).stage
step_fine t s (Walking []) read = tt
step_fine t s (Walking (n ∷ waiting)) (seen.Row node r) = either_fine t (node == n) (row_loaded t s n r waiting) (failed s) (row_fine t s n r waiting) tt
step_fine t s (Walking (n ∷ waiting)) (seen.Miss node) = either_fine t (node == n) (answered s (Busy n)) (failed s) tt tt
step_fine t s (Walking (n ∷ waiting)) (seen.Key node key) = tt
step_fine t s (Walking (n ∷ waiting)) (seen.Count node count own) = tt
step_fine t s (Keying []) read = tt
step_fine t s (Keying (n ∷ left)) (seen.Key node key) = either_fine t (node == n) (key_loaded s key left) (failed s) (key_fine t s key left) tt
step_fine t s (Keying (n ∷ left)) (seen.Row node r) = tt
step_fine t s (Keying (n ∷ left)) (seen.Miss node) = tt
step_fine t s (Keying (n ∷ left)) (seen.Count node count own) = tt
step_fine t s (Hinting last) (seen.Row node r) = tt
step_fine t s (Hinting None) (seen.Key node key) = tt
step_fine t s (Hinting (Some last)) (seen.Key node key) = hint_fine t s ((node == last.node && nat_lt (length s.hits) most_hits) && is_asked (placed_now t s).extra last.row) last key
step_fine t s (Hinting last) (seen.Miss node) = tt
step_fine t s (Hinting last) (seen.Count node count own) = count_fine t s (uncounted s) node count own
step_fine t s Counting (seen.Count node count own) = count_fine t s (uncounted s) node count own
step_fine t s Counting (seen.Row node r) = tt
step_fine t s Counting (seen.Key node key) = tt
step_fine t s Counting (seen.Miss node) = tt
step_fine t s (Ended answer) read = tt
step_fine t s Failed read = tt

all_fine : (t : Task) (s : State) (reads : List Seen) → IsFine t s.stage → IsFine t (after_reads t s reads).stage
all_fine t s [] f = f
all_fine t s (read ∷ reads) f = all_fine t (read_one t s read) reads (step_fine t s s.stage read)

pub gain_enough : (t : Task) (reads : List Seen) (gain : ℕ) → decided t reads ≡ Answered (Done gain) → least_gain t ≤ gain
gain_enough t reads gain e = go (after_reads t (begin t) reads) (after_reads t (begin t) reads).stage (all_fine t (begin t) reads tt) e
  where
    no_count : (left : List NodeRow) → wanted_count left ≡ Answered (Done gain) → ⊥
    no_count [] e = absurd (cc)
    no_count (r ∷ left) e = absurd (cc)

    go : (s : State) (stage : Stage) → IsFine t stage → wanted_at s stage ≡ Answered (Done gain) → least_gain t ≤ gain
    go s (Walking []) f e = absurd (cc)
    go s (Walking (n ∷ waiting)) f e = absurd (cc)
    go s (Keying []) f e = absurd (cc)
    go s (Keying (n ∷ left)) f e = absurd (cc)
    go s (Hinting last) f e = absurd (no_count (uncounted s) e)
    go s Counting f e = absurd (no_count (uncounted s) e)
    go s (Ended answer) f e = let same : answer ≡ Done gain = cc in subst (IsEnough t) same f
    go s Failed f e = absurd (cc)
