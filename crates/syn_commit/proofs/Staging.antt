-- What each stage of a decision has: before the hints no hit, before the counts no count, behind the walk an inner row that has no count, and behind the counts the answer that they conclude.
use Rattle.std.proofs.Common.{◌≡◌, ◌⊎◌, ℕ, zero, suc, ◌+◌, ◌-◌, ◌<◌, ◌≤◌, ◌==◌, ◌&&◌, nat_lt, Bool, true, false, if◌then◌else◌, List, [], ◌∷◌, ◌++◌, length, drop, Option, Some, None, refl, ap, arith, inl, inr, length-append}
use Rattle.syn_rows.specs.declared.Row.{Row}
use Rattle.syn_rows.specs.Rows.{is_derived, refs_of}
use Rattle.syn_core_laws.specs.declared.Seen.{Seen}
use Rattle.syn_core_laws.specs.declared.Seen.TheVariants as seen
use Rattle.syn_decide.specs.declared.decisions.NodeRow.{NodeRow}
use Rattle.syn_decide.specs.declared.decisions.TheConstants.{MAX_INNER}
use Rattle.syn_decide.specs.Tasks.{Task}
use Rattle.syn_decide.specs.Decided.{Answer, Done, Reach, Busy, Differs, NoGain, NoGap, NoRoom, Wide}
use Rattle.syn_decide.specs.Walk.{from_entered}
use Rattle.syn_decide.specs.Functions.{in_circle, is_same_function, now_table, used_from, used_leaves, uses, was_table}
use Rattle.syn_decide.specs.Hints.{is_asked, may_hit, most_hits}
use Rattle.syn_decide.specs.Fold.{State, Stage, Walking, Keying, Hinting, Counting, Ended, Failed, after_reads, after_walk, answered, at, begin, concluded, count_on, failed, first_unmet, key_loaded, placed_now, read_at, read_count, read_one, row_loaded, uncounted, walk_on, with_count, with_hit, with_inner}
use Rattle.syn_decide.proofs.Walking.{node_row}

-- an answer that comes before the counts
abbrev pub is_early : Answer → Bool
is_early (Done gain) = false
is_early (Busy node) = true
is_early (Reach node) = true
is_early (Wide node) = true
is_early (Differs was now) = true
is_early (NoGain freed added) = false
is_early (NoGap node low need high) = false
is_early (NoRoom need have) = false

-- all counts are there, and conclude this answer
pub record IsConcluded (t : Task) (s : State) (answer : Answer) : Type 0 where
  pub all : length s.counts ≡ length s.inner
  pub some : 1 ≤ length s.inner
  pub is : answer ≡ concluded t s

-- an answer before the counts, with none, or behind them, with all
abbrev pub IsAnswered : Task → State → Answer → Type 0
IsAnswered t s answer = ((s.counts ≡ []) × (is_early answer ≡ true)) ⊎ IsConcluded t s answer

abbrev pub IsStaged : Task → State → Stage → Type 0
IsStaged t s (Walking waiting) = (s.hits ≡ []) × (s.counts ≡ []) × (1 ≤ length waiting)
IsStaged t s (Keying left) = (s.hits ≡ []) × (s.counts ≡ []) × (1 ≤ length left) × (length left ≤ 1 + length t.proposal.leaves) × (1 ≤ length s.inner)
IsStaged t s (Hinting last) = (s.counts ≡ []) × (length s.counts < length s.inner)
IsStaged t s Counting = length s.counts < length s.inner
IsStaged t s (Ended answer) = IsAnswered t s answer
IsStaged t s Failed = Unit {0}

abbrev Staged : Task → State → Type 0
Staged t s = IsStaged t s s.stage

either_staged : (t : Task) (b : Bool) (x y : State) → Staged t x → Staged t y → Staged t (if b then x else y)
either_staged t true x y g h = g
either_staged t false x y g h = h

-- no more leaves are used than there are
few_used : (t : Task) (i : ℕ) (leaves : List ℕ) → length (used_from t i leaves) ≤ length leaves
few_used t i [] = omega arith
few_used t i (leaf ∷ leaves) = go (uses t i) (few_used t (i + 1) leaves)
  where
    go : (b : Bool) → length (used_from t (i + 1) leaves) ≤ length leaves → length (if b then leaf ∷ used_from t (i + 1) leaves else used_from t (i + 1) leaves) ≤ suc (length leaves)
    go true few = omega (arith, few)
    go false few = omega (arith, few)

module _ (t : Task) (s : State) (hits : s.hits ≡ []) (counts : s.counts ≡ []) (some : 1 ≤ length s.inner) where
  keys_staged : (used : List ℕ) → length used ≤ length t.proposal.leaves → IsStaged t s (Keying (used ++ t.proposal.root ∷ []))
  keys_staged used few = let size : length (used ++ t.proposal.root ∷ []) ≡ length used + 1 = length-append used (t.proposal.root ∷ []) in (hits, counts, omega (arith, size), omega (arith, size, few), some)

  over_staged : (inner : List NodeRow) (o : Option ℕ) → IsStaged t s (after_walk t inner o)
  over_staged inner (Some leaf) = inl (counts, refl)
  over_staged inner None = go (in_circle t inner) (is_same_function t inner)
    where
      go : (b c : Bool) → IsStaged t s (if b then Failed else (if c then Keying (used_leaves t ++ t.proposal.root ∷ []) else Ended (Differs (was_table t) (now_table t inner))))
      go true c = tt
      go false true = keys_staged (used_leaves t) (few_used t 0 t.proposal.leaves)
      go false false = inl (counts, refl)

  on_staged : (inner : List NodeRow) (ns : List ℕ) → IsStaged t s (walk_on t inner ns)
  on_staged inner [] = over_staged inner (first_unmet t inner)
  on_staged inner (n ∷ ns) = go (nat_lt (length inner) MAX_INNER)
    where
      go : (b : Bool) → IsStaged t s (if b then Walking (n ∷ ns) else Ended (Wide n))
      go true = (hits, counts, omega arith)
      go false = inl (counts, refl)

-- the stage that a state is put at
at_staged : (t : Task) (s : State) (stage : Stage) → IsStaged t s stage → IsStaged t (at s stage) stage
at_staged t s (Walking waiting) g = g
at_staged t s (Keying left) g = g
at_staged t s (Hinting last) g = g
at_staged t s Counting g = g
at_staged t s (Ended answer) (inl before) = inl before
at_staged t s (Ended answer) (inr all) = inr (record { all = all.all; some = all.some; is = all.is })
at_staged t s Failed g = g

row_staged : (t : Task) (s : State) (n : ℕ) (r : Row) (waiting : List ℕ) → s.hits ≡ [] → s.counts ≡ [] → Staged t (row_loaded t s n r waiting)
row_staged t s n r waiting hits counts = go (is_derived r)
  where
    more : 1 ≤ length (s.inner ++ node_row n r ∷ [])
    more = let size : length (s.inner ++ node_row n r ∷ []) ≡ length s.inner + 1 = length-append s.inner (node_row n r ∷ []) in omega arith

    go : (b : Bool) → Staged t (if b then at (with_inner s n r) (walk_on t (with_inner s n r).inner (from_entered t.proposal.leaves (with_inner s n r).inner (refs_of r ++ waiting))) else answered s (Reach n))
    go true = at_staged t (with_inner s n r) (walk_on t (with_inner s n r).inner (from_entered t.proposal.leaves (with_inner s n r).inner (refs_of r ++ waiting)))
        (on_staged t (with_inner s n r) hits counts more (s.inner ++ node_row n r ∷ []) (from_entered t.proposal.leaves (s.inner ++ node_row n r ∷ []) (refs_of r ++ waiting)))
    go false = inl (counts, refl)

key_staged : (t : Task) (n : ℕ) (s : State) (key : ℕ) (left : List ℕ) → s.hits ≡ [] → s.counts ≡ [] → length (n ∷ left) ≤ 1 + length t.proposal.leaves → 1 ≤ length s.inner → Staged t (key_loaded s key left)
key_staged t n s key [] hits counts few some = let none : length s.counts ≡ 0 = ap length counts in (counts, omega (arith, none, some))
key_staged t n s key (m ∷ left) hits counts few some = (hits, counts, omega arith, omega (arith, few), some)

hint_staged : (t : Task) (s : State) (b c : Bool) (last : NodeRow) (key : ℕ) → (s.counts ≡ []) × (length s.counts < length s.inner)
    → Staged t (if b then (if c then at (with_hit s last.node last.row key) (Hinting None) else at s (Hinting None)) else failed s)
hint_staged t s true true last key l = l
hint_staged t s true false last key l = l
hint_staged t s false c last key l = tt

-- where two are left, there is room for one count more
two_left : (k : ℕ) (rows : List NodeRow) (r q : NodeRow) (left : List NodeRow) → drop k rows ≡ r ∷ q ∷ left → k + 1 < length rows
two_left k [] r q left e = absurd (none k e)
  where
    none : (k : ℕ) → drop k [] ≡ r ∷ q ∷ left → ⊥
    none zero e = cc
    none (suc k) e = cc
two_left zero (p ∷ rows) r q left e = let size : suc (length rows) ≡ suc (suc (length left)) = ap length e in omega arith
two_left (suc k) (p ∷ rows) r q left e = let more = two_left k rows r q left e in omega arith

-- where one is left, there is room for one count alone
one_left : (k : ℕ) (rows : List NodeRow) (r : NodeRow) → drop k rows ≡ r ∷ [] → k + 1 ≡ length rows
one_left k [] r e = absurd (none k e)
  where
    none : (k : ℕ) → drop k [] ≡ r ∷ [] → ⊥
    none zero e = cc
    none (suc k) e = cc
one_left zero (p ∷ rows) r e = let size : suc (length rows) ≡ 1 = ap length e in omega arith
one_left (suc k) (p ∷ rows) r e = let more = one_left k rows r e in omega arith

count_staged : (t : Task) (s : State) (left : List NodeRow) (node count own : ℕ) → uncounted s ≡ left → Staged t (read_count t s left node count own)
count_staged t s [] node count own e = tt
count_staged t s (r ∷ left) node count own e = go (node == r.node) left e
  where
    go : (b : Bool) (left : List NodeRow) → uncounted s ≡ r ∷ left → Staged t (if b then count_on t (with_count s count own) left else failed s)
    go true [] e =
        let size : length (s.counts ++ (count - own) ∷ []) ≡ length s.counts + 1 = length-append s.counts ((count - own) ∷ []) in
        let last = one_left (length s.counts) s.inner r e in
        inr (record { all = omega (arith, size, last); some = omega (arith, last); is = refl })
    go true (q ∷ left) e =
        let size : length (s.counts ++ (count - own) ∷ []) ≡ length s.counts + 1 = length-append s.counts ((count - own) ∷ []) in
        let more = two_left (length s.counts) s.inner r q left e in
        omega (arith, size, more)
    go false left e = tt

step_staged : (t : Task) (s : State) (stage : Stage) (read : Seen) → IsStaged t s stage → Staged t (read_at t s stage read)
step_staged t s (Walking []) read h = tt
step_staged t s (Walking (n ∷ waiting)) (seen.Row node r) h = either_staged t (node == n) (row_loaded t s n r waiting) (failed s) (row_staged t s n r waiting h.0 h.1) tt
step_staged t s (Walking (n ∷ waiting)) (seen.Miss node) h = either_staged t (node == n) (answered s (Busy n)) (failed s) (inl (h.1, refl)) tt
step_staged t s (Walking (n ∷ waiting)) (seen.Key node key) h = tt
step_staged t s (Walking (n ∷ waiting)) (seen.Count node count own) h = tt
step_staged t s (Keying []) read h = tt
step_staged t s (Keying (n ∷ left)) (seen.Key node key) h = either_staged t (node == n) (key_loaded s key left) (failed s) (key_staged t n s key left h.0 h.1 h.3 h.4) tt
step_staged t s (Keying (n ∷ left)) (seen.Row node r) h = tt
step_staged t s (Keying (n ∷ left)) (seen.Miss node) h = tt
step_staged t s (Keying (n ∷ left)) (seen.Count node count own) h = tt
step_staged t s (Hinting last) (seen.Row node r) h = h
step_staged t s (Hinting None) (seen.Key node key) h = tt
step_staged t s (Hinting (Some last)) (seen.Key node key) h =
    hint_staged t s ((node == last.node && nat_lt (length s.hits) most_hits) && is_asked (placed_now t s).extra last.row) (may_hit t.proposal.leaves s.high last.node key) last key h
step_staged t s (Hinting last) (seen.Miss node) h = h
step_staged t s (Hinting last) (seen.Count node count own) h = count_staged t s (uncounted s) node count own refl
step_staged t s Counting (seen.Count node count own) h = count_staged t s (uncounted s) node count own refl
step_staged t s Counting (seen.Row node r) h = tt
step_staged t s Counting (seen.Key node key) h = tt
step_staged t s Counting (seen.Miss node) h = tt
step_staged t s (Ended answer) read h = tt
step_staged t s Failed read h = tt

all_staged : (t : Task) (s : State) (reads : List Seen) → Staged t s → Staged t (after_reads t s reads)
all_staged t s [] h = h
all_staged t s (read ∷ reads) h = all_staged t (read_one t s read) reads (step_staged t s s.stage read h)

-- It holds after any reads.
pub always_staged : (t : Task) (reads : List Seen) → IsStaged t (after_reads t (begin t) reads) (after_reads t (begin t) reads).stage
always_staged t reads = all_staged t (begin t) reads (refl, refl, omega arith)
