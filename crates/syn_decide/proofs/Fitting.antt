-- From the first key on the plan fits the inner rows, and hits are table nodes that are neither node 0 nor leaves.
use Rattle.std.proofs.Common.{◌≡◌, ℕ, ◌<◌, Bool, true, false, not, nat_lt, ◌==◌, ◌&&◌, if◌then◌else◌, List, [], ◌∷◌, ◌++◌, length, Option, Some, None, refl, eq-eqb}
use Rattle.std.proofs.lemmas.Bool.{and_parts, ltb-true}
use Rattle.syn_rows.specs.declared.Row.{Row}
use Rattle.syn_rows.specs.Rows.{is_derived, refs_of}
use Rattle.syn_rows.specs.Nodes.{has_node}
use Rattle.syn_core_laws.specs.declared.Seen.{Seen}
use Rattle.syn_core_laws.specs.declared.Seen.TheVariants as seen
use Rattle.syn_decide.specs.declared.decisions.NodeRow.{NodeRow}
use Rattle.syn_decide.specs.Tasks.{Task}
use Rattle.syn_decide.specs.Decided.{Answer, Done, Busy, Reach, Wide, Differs, NoGain, NoGap, NoRoom}
use Rattle.syn_decide.specs.declared.decisions.TheConstants.{MAX_INNER}
use Rattle.syn_decide.specs.Walk.{from_entered}
use Rattle.syn_decide.specs.Functions.{in_circle, is_same_function, now_table, used_leaves, was_table}
use Rattle.syn_decide.specs.Hints.{first_new, is_asked, may_hit, most_hits}
use Rattle.syn_decide.specs.Fold.{State, Stage, Walking, Keying, Hinting, Counting, Ended, Failed, after_reads, after_walk, answered, at, begin, concluded, count_on, failed, first_unmet, key_loaded, placed_now, read_at, read_count, read_one, row_loaded, uncounted, walk_on, with_count, with_hit, with_inner}
use Rattle.syn_decide.specs.Fitting.{AlwaysFitting, FitsAnswer, FitsAt, HitsAlwaysInside, HitsAreInside, IsFitting, IsInside}
use Rattle.syn_decide.proofs.Walking.{all_more, node_row}

-- both, of a state
abbrev Fine : Task → State → Type 0
Fine t s = FitsAt t s.inner s.stage × HitsAreInside t s.hits

fits_any : (t : Task) (inner : List NodeRow) (answer : Answer) → IsFitting t inner → FitsAnswer t inner answer
fits_any t inner (Done gain) f = f
fits_any t inner (Busy node) f = tt
fits_any t inner (Reach node) f = tt
fits_any t inner (Wide node) f = tt
fits_any t inner (Differs was now) f = tt
fits_any t inner (NoGain freed added) f = f
fits_any t inner (NoGap node low need high) f = f
fits_any t inner (NoRoom need have) f = f

walk_over : (t : Task) (inner : List NodeRow) (o : Option ℕ) → first_unmet t inner ≡ o → FitsAt t inner (after_walk t inner o)
walk_over t inner (Some leaf) e = tt
walk_over t inner None e = go (in_circle t inner) refl (is_same_function t inner) refl
  where
    go : (b : Bool) → in_circle t inner ≡ b → (c : Bool) → is_same_function t inner ≡ c → FitsAt t inner (if b then Failed else (if c then Keying (used_leaves t ++ t.proposal.root ∷ []) else Ended (Differs (was_table t) (now_table t inner))))
    go true f c g = tt
    go false f true g = record { met = e; no_circle = f; same = g }
    go false f false g = tt

goes_on : (t : Task) (inner : List NodeRow) (waiting : List ℕ) → FitsAt t inner (walk_on t inner waiting)
goes_on t inner [] = walk_over t inner (first_unmet t inner) refl
goes_on t inner (n ∷ waiting) = go (nat_lt (length inner) MAX_INNER)
  where
    go : (b : Bool) → FitsAt t inner (if b then Walking (n ∷ waiting) else Ended (Wide n))
    go true = tt
    go false = tt

either_fine : (t : Task) (b : Bool) (x y : State) → Fine t x → Fine t y → Fine t (if b then x else y)
either_fine t true x y g h = g
either_fine t false x y g h = h

row_fine : (t : Task) (s : State) (n : ℕ) (r : Row) (waiting : List ℕ) → HitsAreInside t s.hits → Fine t (row_loaded t s n r waiting)
row_fine t s n r waiting h =
    either_fine t (is_derived r) (at (with_inner s n r) (walk_on t (with_inner s n r).inner (from_entered t.proposal.leaves (with_inner s n r).inner (refs_of r ++ waiting)))) (answered s (Reach n))
    (goes_on t (with_inner s n r).inner (from_entered t.proposal.leaves (with_inner s n r).inner (refs_of r ++ waiting)), h) (tt, h)

key_fine : (t : Task) (s : State) (key : ℕ) (left : List ℕ) → IsFitting t s.inner → HitsAreInside t s.hits → Fine t (key_loaded s key left)
key_fine t s key [] f h = (f, h)
key_fine t s key (m ∷ left) f h = (f, h)

-- a node that may be a hit
may_be_inside : (t : Task) (high n key : ℕ) → may_hit t.proposal.leaves high n key ≡ true → IsInside t n × (n < first_new)
may_be_inside t high n key h =
    let parts = and_parts (nat_lt n first_new && not (n == 0)) (not (has_node t.proposal.leaves n) && nat_lt key high) h in
    let first = and_parts (nat_lt n first_new) (not (n == 0)) parts.0 in
    (record { other = λ e. apart (n == 0) first.1 (eq-eqb n 0 e); inside = not_true (has_node t.proposal.leaves n) (and_parts (not (has_node t.proposal.leaves n)) (nat_lt key high) parts.1).0 }, ltb-true n first_new first.0)
  where
    apart : (b : Bool) → not b ≡ true → b ≡ true → ⊥
    apart true h e = absurd (cc)
    apart false h e = absurd (cc)

    not_true : (b : Bool) → not b ≡ true → b ≡ false
    not_true true h = absurd (cc)
    not_true false h = refl

hint_fine : (t : Task) (s : State) (b : Bool) (last : NodeRow) (key : ℕ) → IsFitting t s.inner → HitsAreInside t s.hits
    → Fine t (if b then (if may_hit t.proposal.leaves s.high last.node key then at (with_hit s last.node last.row key) (Hinting None) else at s (Hinting None)) else failed s)
hint_fine t s false last key f h = (tt, h)
hint_fine t s true last key f h = go (may_hit t.proposal.leaves s.high last.node key) refl
  where
    go : (c : Bool) → may_hit t.proposal.leaves s.high last.node key ≡ c → Fine t (if c then at (with_hit s last.node last.row key) (Hinting None) else at s (Hinting None))
    go true e = (f, all_more (λ q. IsInside t q.node × (q.node < first_new)) s.hits (node_row last.node last.row) h (may_be_inside t s.high last.node key e))
    go false e = (f, h)

count_fine : (t : Task) (s : State) (left : List NodeRow) (node count own : ℕ) → IsFitting t s.inner → HitsAreInside t s.hits → Fine t (read_count t s left node count own)
count_fine t s [] node count own f h = (tt, h)
count_fine t s (r ∷ left) node count own f h = either_fine t (node == r.node) (count_on t (with_count s count own) left) (failed s) (counted left) (tt, h)
  where
    counted : (left : List NodeRow) → Fine t (count_on t (with_count s count own) left)
    counted [] = (fits_any t s.inner (concluded t (with_count s count own)) f, h)
    counted (q ∷ left) = (f, h)

step_fine : (t : Task) (s : State) (stage : Stage) (read : Seen) → FitsAt t s.inner stage → HitsAreInside t s.hits → Fine t (read_at t s stage read)
step_fine t s (Walking []) read f h = (tt, h)
step_fine t s (Walking (n ∷ waiting)) (seen.Row node r) f h = either_fine t (node == n) (row_loaded t s n r waiting) (failed s) (row_fine t s n r waiting h) (tt, h)
step_fine t s (Walking (n ∷ waiting)) (seen.Miss node) f h = either_fine t (node == n) (answered s (Busy n)) (failed s) (tt, h) (tt, h)
step_fine t s (Walking (n ∷ waiting)) (seen.Key node key) f h = (tt, h)
step_fine t s (Walking (n ∷ waiting)) (seen.Count node count own) f h = (tt, h)
step_fine t s (Keying []) read f h = (tt, h)
step_fine t s (Keying (n ∷ left)) (seen.Key node key) f h = either_fine t (node == n) (key_loaded s key left) (failed s) (key_fine t s key left f h) (tt, h)
step_fine t s (Keying (n ∷ left)) (seen.Row node r) f h = (tt, h)
step_fine t s (Keying (n ∷ left)) (seen.Miss node) f h = (tt, h)
step_fine t s (Keying (n ∷ left)) (seen.Count node count own) f h = (tt, h)
step_fine t s (Hinting last) (seen.Row node r) f h = (f, h)
step_fine t s (Hinting None) (seen.Key node key) f h = (tt, h)
step_fine t s (Hinting (Some last)) (seen.Key node key) f h = hint_fine t s ((node == last.node && nat_lt (length s.hits) most_hits) && is_asked (placed_now t s).extra last.row) last key f h
step_fine t s (Hinting last) (seen.Miss node) f h = (f, h)
step_fine t s (Hinting last) (seen.Count node count own) f h = count_fine t s (uncounted s) node count own f h
step_fine t s Counting (seen.Count node count own) f h = count_fine t s (uncounted s) node count own f h
step_fine t s Counting (seen.Row node r) f h = (tt, h)
step_fine t s Counting (seen.Key node key) f h = (tt, h)
step_fine t s Counting (seen.Miss node) f h = (tt, h)
step_fine t s (Ended answer) read f h = (tt, h)
step_fine t s Failed read f h = (tt, h)

all_fine : (t : Task) (s : State) (reads : List Seen) → Fine t s → Fine t (after_reads t s reads)
all_fine t s [] f = f
all_fine t s (read ∷ reads) f = all_fine t (read_one t s read) reads (step_fine t s s.stage read f.0 f.1)

pub always_fitting : AlwaysFitting
always_fitting t reads = (all_fine t (begin t) reads (tt, tt)).0

pub hits_always_inside : HitsAlwaysInside
hits_always_inside t reads = (all_fine t (begin t) reads (tt, tt)).1
