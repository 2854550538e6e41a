-- A decision answers that a node is another seat's only after a failed claim.
use Rattle.std.proofs.Common.{◌≡◌, ◌⊎◌, ℕ, ◌+◌, ◌-◌, ◌==◌, ◌&&◌, nat_lt, nat_le, Bool, true, false, if◌then◌else◌, List, [], ◌∷◌, ◌++◌, length, Option, Some, None, refl, sym, ap, ◌∙◌, subst, arith, inl, inr, length-append}
use Rattle.std.proofs.lemmas.Bool.{eqb-true}
use Rattle.syn_rows.specs.declared.Row.{Row}
use Rattle.syn_rows.specs.Rows.{is_derived, refs_of}
use Rattle.syn_core_laws.specs.declared.View.{View}
use Rattle.syn_core_laws.specs.declared.Seen.{Seen}
use Rattle.syn_core_laws.specs.declared.Seen.TheVariants as seen
use Rattle.syn_core_laws.specs.Views.{claimed, key_loaded, pinned, released, row_loaded as row_known}
use Rattle.syn_decide.specs.declared.decisions.NodeRow.{NodeRow}
use Rattle.syn_decide.specs.declared.decisions.TheConstants.{MAX_INNER}
use Rattle.syn_decide.specs.Tasks.{Task}
use Rattle.syn_decide.specs.Decided.{Answer, Answered, Busy, Differs, Done, NoGain, NoGap, NoRoom, Reach, Wide}
use Rattle.syn_decide.specs.Walk.{from_entered}
use Rattle.syn_decide.specs.Functions.{in_circle, is_same_function, now_table, used_leaves, was_table}
use Rattle.syn_decide.specs.Hints.{is_asked, may_hit, most_hits, rows_needed}
use Rattle.syn_decide.specs.Fold.{State, Stage, Walking, Keying, Hinting, Counting, Ended, Failed, after_reads, after_walk, answered, at, begin, by_gain, by_gap, by_room, count_on, decided, failed, first_unmet, freed_by, key_loaded as key_read_on, least_gain, placed_now, read_at, read_count, read_one, row_loaded, uncounted, walk_on, wanted_at, wanted_count, wants, with_count, with_hit, with_inner}
use Rattle.syn_decide.proofs.Walking.{node_row}
use Rattle.syn_commit.specs.Committed.{EndsInMiss}
use Rattle.syn_commit.specs.Pools.{found_claimed}
use Rattle.syn_commit.specs.Walks.{IsEntered, IsOfReads}
use Rattle.syn_commit.specs.Stages.{IsKeyed}

abbrev NotBusy : Answer → Type 0
NotBusy answer = (n : ℕ) → answer ≡ Busy n → ⊥

abbrev IsFree : Stage → Type 0
IsFree (Walking waiting) = Unit {0}
IsFree (Keying left) = Unit {0}
IsFree (Hinting last) = Unit {0}
IsFree Counting = Unit {0}
IsFree (Ended answer) = NotBusy answer
IsFree Failed = Unit {0}

either_free : (b : Bool) (x y : State) → IsFree x.stage → IsFree y.stage → IsFree (if b then x else y).stage
either_free true x y g h = g
either_free false x y g h = h

over_free : (t : Task) (inner : List NodeRow) (o : Option ℕ) → IsFree (after_walk t inner o)
over_free t inner (Some leaf) = λ n e. cc
over_free t inner None = go (in_circle t inner) (is_same_function t inner)
  where
    go : (b c : Bool) → IsFree (if b then Failed else (if c then Keying (used_leaves t ++ t.proposal.root ∷ []) else Ended (Differs (was_table t) (now_table t inner))))
    go true c = tt
    go false true = tt
    go false false = λ n e. cc

on_free : (t : Task) (inner : List NodeRow) (ns : List ℕ) → IsFree (walk_on t inner ns)
on_free t inner [] = over_free t inner (first_unmet t inner)
on_free t inner (n ∷ ns) = go (nat_lt (length inner) MAX_INNER)
  where
    go : (b : Bool) → IsFree (if b then Walking (n ∷ ns) else Ended (Wide n))
    go true = tt
    go false = λ m e. cc

row_free : (t : Task) (s : State) (n : ℕ) (r : Row) (waiting : List ℕ) → IsFree (row_loaded t s n r waiting).stage
row_free t s n r waiting = go (is_derived r)
  where
    go : (b : Bool) → IsFree (if b then at (with_inner s n r) (walk_on t (with_inner s n r).inner (from_entered t.proposal.leaves (with_inner s n r).inner (refs_of r ++ waiting))) else answered s (Reach n)).stage
    go true = on_free t (s.inner ++ node_row n r ∷ []) (from_entered t.proposal.leaves (s.inner ++ node_row n r ∷ []) (refs_of r ++ waiting))
    go false = λ m e. cc

key_free : (s : State) (key : ℕ) (left : List ℕ) → IsFree (key_read_on s key left).stage
key_free s key [] = tt
key_free s key (n ∷ left) = tt

hint_free : (s : State) (b c : Bool) (last : NodeRow) (key : ℕ) → IsFree (if b then (if c then at (with_hit s last.node last.row key) (Hinting None) else at s (Hinting None)) else failed s).stage
hint_free s true true last key = tt
hint_free s true false last key = tt
hint_free s false c last key = tt

room_free : (t : Task) (gain need : ℕ) → NotBusy (by_room t gain need)
room_free t gain need = go (nat_lt t.pool need)
  where
    go : (b : Bool) → NotBusy (if b then NoRoom need t.pool else Done gain)
    go true = λ n e. cc
    go false = λ n e. cc

gap_free : (t : Task) (s : State) (gain need : ℕ) → NotBusy (by_gap t s gain need)
gap_free t s gain need = go (nat_lt (s.low + need) s.high) (room_free t gain need)
  where
    go : (b : Bool) → NotBusy (by_room t gain need) → NotBusy (if b then by_room t gain need else NoGap t.proposal.root s.low need s.high)
    go true f = f
    go false f = λ n e. cc

gain_free : (t : Task) (s : State) (freed : ℕ) → NotBusy (by_gain t s freed (placed_now t s))
gain_free t s freed = go (nat_le (length (placed_now t s).extra + least_gain t) freed) (gap_free t s (freed - length (placed_now t s).extra) (rows_needed t (placed_now t s)))
  where
    go : (b : Bool) → NotBusy (by_gap t s (freed - length (placed_now t s).extra) (rows_needed t (placed_now t s)))
        → NotBusy (if b then by_gap t s (freed - length (placed_now t s).extra) (rows_needed t (placed_now t s)) else NoGain freed (length (placed_now t s).extra))
    go true f = f
    go false f = λ n e. cc

count_free : (t : Task) (s : State) (left : List NodeRow) (node count own : ℕ) → IsFree (read_count t s left node count own).stage
count_free t s [] node count own = tt
count_free t s (r ∷ left) node count own = go (node == r.node) left
  where
    go : (b : Bool) (left : List NodeRow) → IsFree (if b then count_on t (with_count s count own) left else failed s).stage
    go true [] = gain_free t (with_count s count own) (freed_by s.inner s.hits (s.counts ++ (count - own) ∷ []))
    go true (q ∷ left) = tt
    go false left = tt

step_free : (t : Task) (s : State) (stage : Stage) (read : Seen) → found_claimed (read ∷ []) ≡ [] → IsFree (read_at t s stage read).stage
step_free t s (Walking []) read f = tt
step_free t s (Walking (n ∷ waiting)) (seen.Row node r) f = either_free (node == n) (row_loaded t s n r waiting) (failed s) (row_free t s n r waiting) tt
step_free t s (Walking (n ∷ waiting)) (seen.Miss node) f = absurd (cc)
step_free t s (Walking (n ∷ waiting)) (seen.Key node key) f = tt
step_free t s (Walking (n ∷ waiting)) (seen.Count node count own) f = tt
step_free t s (Keying []) read f = tt
step_free t s (Keying (n ∷ left)) (seen.Key node key) f = either_free (node == n) (key_read_on s key left) (failed s) (key_free s key left) tt
step_free t s (Keying (n ∷ left)) (seen.Row node r) f = tt
step_free t s (Keying (n ∷ left)) (seen.Miss node) f = tt
step_free t s (Keying (n ∷ left)) (seen.Count node count own) f = tt
step_free t s (Hinting last) (seen.Row node r) f = tt
step_free t s (Hinting None) (seen.Key node key) f = tt
step_free t s (Hinting (Some last)) (seen.Key node key) f =
    hint_free s ((node == last.node && nat_lt (length s.hits) most_hits) && is_asked (placed_now t s).extra last.row) (may_hit t.proposal.leaves s.high last.node key) last key
step_free t s (Hinting last) (seen.Miss node) f = tt
step_free t s (Hinting last) (seen.Count node count own) f = count_free t s (uncounted s) node count own
step_free t s Counting (seen.Count node count own) f = count_free t s (uncounted s) node count own
step_free t s Counting (seen.Row node r) f = tt
step_free t s Counting (seen.Key node key) f = tt
step_free t s Counting (seen.Miss node) f = tt
step_free t s (Ended answer) read f = tt
step_free t s Failed read f = tt

first_none : (read : Seen) (reads : List Seen) → found_claimed (read ∷ reads) ≡ [] → (found_claimed (read ∷ []) ≡ []) × (found_claimed reads ≡ [])
first_none (seen.Row node r) reads e = (refl, e)
first_none (seen.Miss node) reads e = absurd (cc)
first_none (seen.Key node key) reads e = (refl, e)
first_none (seen.Count node count own) reads e = (refl, e)

all_free : (t : Task) (s : State) (reads : List Seen) → found_claimed reads ≡ [] → IsFree s.stage → IsFree (after_reads t s reads).stage
all_free t s [] f g = g
all_free t s (read ∷ reads) f g = let parts = first_none read reads f in all_free t (read_one t s read) reads parts.1 (step_free t s s.stage read parts.0)

busy_not : (s : State) (stage : Stage) → IsFree stage → (n : ℕ) → wanted_at s stage ≡ Answered (Busy n) → ⊥
busy_not s (Walking []) g n e = cc
busy_not s (Walking (m ∷ waiting)) g n e = cc
busy_not s (Keying []) g n e = cc
busy_not s (Keying (m ∷ left)) g n e = cc
busy_not s (Hinting last) g n e = no_count (uncounted s) e
  where
    no_count : (rows : List NodeRow) → wanted_count rows ≡ Answered (Busy n) → ⊥
    no_count [] h = cc
    no_count (r ∷ rows) h = cc
busy_not s Counting g n e = no_count (uncounted s) e
  where
    no_count : (rows : List NodeRow) → wanted_count rows ≡ Answered (Busy n) → ⊥
    no_count [] h = cc
    no_count (r ∷ rows) h = cc
busy_not s (Ended answer) g n e = let same : answer ≡ Busy n = cc in g n same
busy_not s Failed g n e = cc

-- where no claim failed, no node is answered to be another seat's
pub never_busy : (t : Task) (start v : View) (s : State) → IsOfReads t start v s → v.misses ≡ start.misses → (n : ℕ) → wants s ≡ Answered (Busy n) → ⊥
never_busy t start v s o same n e = busy_not s s.stage (subst (λ (y : State). IsFree y.stage) (sym o.state) (all_free t (begin t) o.met (none (found_claimed o.met) (sym o.misses ∙ same)) tt)) n e
  where
    none : (ns : List ℕ) → start.misses ++ ns ≡ start.misses → ns ≡ []
    none [] h = refl
    none (x ∷ ns) h = let a = length-append start.misses (x ∷ ns) in let b = ap length h in absurd (omega (arith, a, b))

-- ---- the cause of the answer
-- behind an answer nothing fits
fails_on : (t : Task) (s : State) (reads : List Seen) → s.stage ≡ Failed → (after_reads t s reads).stage ≡ Failed
fails_on t s [] e = e
fails_on t s (read ∷ reads) e = fails_on t (read_one t s read) reads (ap (λ stage. (read_at t s stage read).stage) e)

-- a failed claim that ends the walk
miss_read : (t : Task) (s : State) (stage : Stage) (node : ℕ) → IsFree (read_at t s stage (seen.Miss node)).stage ⊎ ((read_at t s stage (seen.Miss node)).stage ≡ Ended (Busy node))
miss_read t s (Walking []) node = inl tt
miss_read t s (Walking (n ∷ waiting)) node = go (node == n) refl
  where
    go : (b : Bool) → (node == n) ≡ b → IsFree (if b then answered s (Busy n) else failed s).stage ⊎ ((if b then answered s (Busy n) else failed s).stage ≡ Ended (Busy node))
    go true e = inr (ap (λ k. Ended (Busy k)) (sym (eqb-true node n e)))
    go false e = inl tt
miss_read t s (Keying []) node = inl tt
miss_read t s (Keying (n ∷ left)) node = inl tt
miss_read t s (Hinting last) node = inl tt
miss_read t s Counting node = inl tt
miss_read t s (Ended answer) node = inl tt
miss_read t s Failed node = inl tt

-- only a failed claim leads to the answer, at its node
one_read : (t : Task) (s : State) (read : Seen) → IsFree (read_one t s read).stage ⊎ ((node : ℕ) × (read ≡ seen.Miss node) × ((read_one t s read).stage ≡ Ended (Busy node)))
one_read t s (seen.Row node r) = inl (step_free t s s.stage (seen.Row node r) refl)
one_read t s (seen.Miss node) = elim (miss_read t s s.stage node) [ inl free ↦ inl free | inr busy ↦ inr (node, refl, busy) ]
one_read t s (seen.Key node key) = inl (step_free t s s.stage (seen.Key node key) refl)
one_read t s (seen.Count node count own) = inl (step_free t s s.stage (seen.Count node count own) refl)

-- nothing is read behind it
last_miss : (t : Task) (s : State) (read : Seen) (node : ℕ) (reads : List Seen) (n : ℕ) → read ≡ seen.Miss node → s.stage ≡ Ended (Busy node) → (after_reads t s reads).stage ≡ Ended (Busy n) → EndsInMiss (read ∷ reads) n
last_miss t s read node [] n is ended e =
    let both : Ended (Busy node) ≡ Ended (Busy n) = sym ended ∙ e in
    let same : node ≡ n = cc in
    ([], ap (λ (r : Seen). r ∷ []) (is ∙ ap (λ k. seen.Miss k) same))
last_miss t s read node (next ∷ reads) n is ended e =
    let fails = fails_on t (read_one t s next) reads (ap (λ stage. (read_at t s stage next).stage) ended) in
    let contra : Failed ≡ Ended (Busy n) = sym fails ∙ e in
    absurd (cc)

ends_in_miss : (t : Task) (s : State) (reads : List Seen) (n : ℕ) → IsFree s.stage → (after_reads t s reads).stage ≡ Ended (Busy n) → EndsInMiss reads n
ends_in_miss t s [] n free e = let none : NotBusy (Busy n) = subst IsFree e free in absurd (none n refl)
ends_in_miss t s (read ∷ reads) n free e = elim (one_read t s read) [
  | inl on ↦ (let rest = ends_in_miss t (read_one t s read) reads n on e in (read ∷ rest.0, ap (λ (rs : List Seen). read ∷ rs) rest.1))
  | inr miss ↦ last_miss t (read_one t s read) read miss.0 reads n miss.1 miss.2 e
]

no_count : (rows : List NodeRow) (answer : Answer) → wanted_count rows ≡ Answered answer → ⊥
no_count [] answer e = cc
no_count (r ∷ rows) answer e = cc

-- an answer stands at the stage
answer_stands : (s : State) (stage : Stage) (answer : Answer) → wanted_at s stage ≡ Answered answer → stage ≡ Ended answer
answer_stands s (Walking []) answer e = absurd (cc)
answer_stands s (Walking (m ∷ waiting)) answer e = absurd (cc)
answer_stands s (Keying []) answer e = absurd (cc)
answer_stands s (Keying (m ∷ left)) answer e = absurd (cc)
answer_stands s (Hinting last) answer e = absurd (no_count (uncounted s) answer e)
answer_stands s Counting answer e = absurd (no_count (uncounted s) answer e)
answer_stands s (Ended other) answer e = let same : other ≡ answer = cc in ap Ended same
answer_stands s Failed answer e = absurd (cc)

-- a node is answered to be another seat's where the last that was met is a failed claim of it
pub busy_cause : (t : Task) (met : List Seen) (n : ℕ) → decided t met ≡ Answered (Busy n) → EndsInMiss met n
busy_cause t met n e = let s = after_reads t (begin t) met in ends_in_miss t (begin t) met n tt (answer_stands s s.stage (Busy n) e)

-- ---- a seat that has all numbers finds no claim taken
pub entered_sole : (t : Task) (nodes numbers n : ℕ) (v : View) (s : State) (w : View) (z : State) → numbers ≡ 64 → IsEntered t nodes numbers n v s w z → w.misses ≡ v.misses
entered_sole t nodes numbers n v s w z all (inl miss) = absurd (miss.0 all)
entered_sole t nodes numbers n v s w z all (inr row) = ap (λ (x : View). x.misses) row.1 ∙ go (is_derived row.0)
  where
    go : (b : Bool) → (if b then row_known (claimed v n) n row.0 else released (row_known (claimed v n) n row.0) n).misses ≡ v.misses
    go true = refl
    go false = refl

pub keyed_misses : (t : Task) (n : ℕ) (v : View) (pins : List ℕ) (s : State) (w : View) (more : List ℕ) (z : State) → IsKeyed t n v pins s w more z → w.misses ≡ v.misses
keyed_misses t n v pins s w more z k = ap (λ (x : View). x.misses) k.1 ∙ go (n == t.proposal.root)
  where
    go : (b : Bool) → (key_loaded (if b then v else pinned v n) n k.0).misses ≡ v.misses
    go true = refl
    go false = refl
