-- Which rows of a walk refer to which nodes, after any reads.
use Rattle.std.proofs.Common.{◌≡◌, ◌⊎◌, ℕ, Bool, true, false, not, nat_lt, ◌==◌, ◌&&◌, ◌||◌, if◌then◌else◌, List, [], ◌∷◌, ◌++◌, length, Option, Some, None, find, refl, sym, ap, subst, inl, inr}
use Rattle.std.proofs.lemmas.Bool.{or_cases, or_left, or_right}
use Rattle.syn_rows.specs.declared.Row.{Row}
use Rattle.syn_rows.specs.Rows.{is_derived, refs_of}
use Rattle.syn_rows.specs.Nodes.{has_node}
use Rattle.syn_rows.proofs.Nodes.{has_cases, has_one}
use Rattle.syn_core_laws.specs.declared.Seen.{Seen}
use Rattle.syn_core_laws.specs.declared.Seen.TheVariants as seen
use Rattle.syn_decide.specs.declared.decisions.NodeRow.{NodeRow}
use Rattle.syn_decide.specs.declared.decisions.TheConstants.{MAX_INNER}
use Rattle.syn_decide.specs.Tasks.{Task}
use Rattle.syn_decide.specs.Decided.{Reach, Busy, Differs, Wide}
use Rattle.syn_decide.specs.Walk.{enters, from_entered, is_met, nodes_of}
use Rattle.syn_decide.specs.Functions.{in_circle, is_same_function, now_table, used_leaves, was_table}
use Rattle.syn_decide.specs.Hints.{is_asked, may_hit, most_hits}
use Rattle.syn_decide.specs.Fold.{State, Stage, Walking, Keying, Hinting, Counting, Ended, Failed, after_reads, after_walk, answered, at, begin, count_on, failed, first_unmet, key_loaded, placed_now, read_at, read_count, read_one, row_loaded, uncounted, walk_on, with_count, with_hit, with_inner}
use Rattle.syn_decide.specs.Walked.{AreMet, FirstIs, IsLinked, RootAlone, WaitingAreMet}
use Rattle.syn_decide.proofs.Walking.{node_row, nodes_more}

-- ---- one inner row more refers to its fan-ins, and the others to theirs
met_more : (inner : List NodeRow) (r : NodeRow) (m : ℕ) → is_met inner m ≡ true → is_met (inner ++ r ∷ []) m ≡ true
met_more [] r m h = absurd (cc)
met_more (q ∷ inner) r m h = elim (or_cases (has_node (refs_of q.row) m) (is_met inner m) h) [
  | inl own ↦ or_left (has_node (refs_of q.row) m) (is_met (inner ++ r ∷ []) m) own
  | inr more ↦ or_right (has_node (refs_of q.row) m) (is_met (inner ++ r ∷ []) m) (met_more inner r m more)
]

met_last : (inner : List NodeRow) (r : NodeRow) (m : ℕ) → has_node (refs_of r.row) m ≡ true → is_met (inner ++ r ∷ []) m ≡ true
met_last [] r m h = or_left (has_node (refs_of r.row) m) false h
met_last (q ∷ inner) r m h = or_right (has_node (refs_of q.row) m) (is_met (inner ++ r ∷ []) m) (met_last inner r m h)

-- what waits from the first entered node on waited before
still_waits : (leaves : List ℕ) (inner : List NodeRow) (ns : List ℕ) (m : ℕ) → has_node (from_entered leaves inner ns) m ≡ true → has_node ns m ≡ true
still_waits leaves inner [] m h = h
still_waits leaves inner (n ∷ ns) m h = go (enters leaves inner n) (still_waits leaves inner ns m) h
  where
    go : (b : Bool) → (has_node (from_entered leaves inner ns) m ≡ true → has_node ns m ≡ true) → has_node (if b then n ∷ ns else from_entered leaves inner ns) m ≡ true → has_node (n ∷ ns) m ≡ true
    go true f k = k
    go false f k = or_right (n == m) (has_node ns m) (f k)

-- a test that none of a list passes fails for each
none_found : (p : ℕ → Bool) (ns : List ℕ) → find p ns ≡ None → (m : ℕ) → has_node ns m ≡ true → p m ≡ false
none_found p [] e m h = absurd (cc)
none_found p (n ∷ ns) e m h = go (p n) refl e (none_found p ns)
  where
    go : (b : Bool) → p n ≡ b → (if b then Some n else find p ns) ≡ None → (find p ns ≡ None → (k : ℕ) → has_node ns k ≡ true → p k ≡ false) → p m ≡ false
    go true q f ih = absurd (cc)
    go false q f ih = elim (or_cases (n == m) (has_node ns m) h) [ inl same ↦ subst (λ k. p k ≡ false) (has_one n m (or_left (n == m) false same)) q | inr there ↦ ih f m there ]

first_more : (root : ℕ) (inner : List NodeRow) (n : ℕ) (r : Row) (waiting : List ℕ) → FirstIs root inner → (inner ≡ [] → n ≡ root) → FirstIs root (inner ++ node_row n r ∷ [])
first_more root [] n r waiting f alone = alone refl
first_more root (q ∷ inner) n r waiting f alone = f

abbrev Linked : Task → State → Type 0
Linked t s = IsLinked t s.inner s.stage

-- the root waits alone only before the first row
not_alone : (t : Task) (inner : List NodeRow) (r : NodeRow) (stage : Stage) → RootAlone t (inner ++ r ∷ []) stage
not_alone t [] r stage = tt
not_alone t (q ∷ inner) r stage = tt

module _ (t : Task) (inner : List NodeRow) (r : NodeRow) (f : FirstIs t.proposal.root (inner ++ r ∷ [])) (m : AreMet t (inner ++ r ∷ []) (nodes_of (inner ++ r ∷ []))) where
  abbrev more : List NodeRow
  more = inner ++ r ∷ []

  linked_at : (stage : Stage) → WaitingAreMet t more stage → IsLinked t more stage
  linked_at stage w = record { first = f; alone = not_alone t inner r stage; met = m; waiting = w }

  keys_met : first_unmet t more ≡ None → AreMet t more (used_leaves t ++ t.proposal.root ∷ [])
  keys_met none k h = elim (has_cases (used_leaves t) (t.proposal.root ∷ []) k h) [
    | inl used ↦ inr (not_false (is_met more k) (none_found (λ leaf. not (is_met more leaf)) (used_leaves t) none k used))
    | inr root ↦ inl (sym (has_one t.proposal.root k root))
  ]
    where
      not_false : (b : Bool) → not b ≡ false → b ≡ true
      not_false true e = refl
      not_false false e = absurd (cc)

  walk_over : (o : Option ℕ) → first_unmet t more ≡ o → IsLinked t more (after_walk t more o)
  walk_over (Some leaf) e = linked_at (Ended (Reach leaf)) tt
  walk_over None e = go (in_circle t more) (is_same_function t more)
    where
      go : (b c : Bool) → IsLinked t more (if b then Failed else (if c then Keying (used_leaves t ++ t.proposal.root ∷ []) else Ended (Differs (was_table t) (now_table t more))))
      go true c = linked_at Failed tt
      go false true = linked_at (Keying (used_leaves t ++ t.proposal.root ∷ [])) (keys_met e)
      go false false = linked_at (Ended (Differs (was_table t) (now_table t more))) tt

  goes_on : (waiting : List ℕ) → AreMet t more waiting → IsLinked t more (walk_on t more waiting)
  goes_on [] w = walk_over (first_unmet t more) refl
  goes_on (n ∷ waiting) w = go (nat_lt (length more) MAX_INNER)
    where
      go : (b : Bool) → IsLinked t more (if b then Walking (n ∷ waiting) else Ended (Wide n))
      go true = linked_at (Walking (n ∷ waiting)) w
      go false = linked_at (Ended (Wide n)) tt

-- a state with the same inner rows, at a stage at which nothing waits
quiet : (t : Task) (inner : List NodeRow) (stage next : Stage) → IsLinked t inner stage → RootAlone t inner next → WaitingAreMet t inner next → IsLinked t inner next
quiet t inner stage next l a w = record { first = l.first; alone = a; met = l.met; waiting = w }

still : (t : Task) (inner : List NodeRow) → RootAlone t inner Failed
still t [] = tt
still t (r ∷ inner) = tt

ended : (t : Task) (inner : List NodeRow) (answer : _) → RootAlone t inner (Ended answer)
ended t [] answer = tt
ended t (r ∷ inner) answer = tt

hinting : (t : Task) (inner : List NodeRow) (last : Option NodeRow) → RootAlone t inner (Hinting last)
hinting t [] last = tt
hinting t (r ∷ inner) last = tt

counting : (t : Task) (inner : List NodeRow) → RootAlone t inner Counting
counting t [] = tt
counting t (r ∷ inner) = tt

keying : (t : Task) (inner : List NodeRow) (left : List ℕ) → RootAlone t inner (Keying left)
keying t [] left = tt
keying t (r ∷ inner) left = tt

failed_linked : (t : Task) (s : State) (stage : Stage) → IsLinked t s.inner stage → Linked t (failed s)
failed_linked t s stage l = quiet t s.inner stage Failed l (still t s.inner) tt

row_linked : (t : Task) (s : State) (n : ℕ) (r : Row) (waiting : List ℕ) → IsLinked t s.inner (Walking (n ∷ waiting)) → Linked t (row_loaded t s n r waiting)
row_linked t s n r waiting l = go (is_derived r)
  where
    more : List NodeRow
    more = s.inner ++ node_row n r ∷ []

    was_met : (m : ℕ) → (m ≡ t.proposal.root) ⊎ (is_met s.inner m ≡ true) → (m ≡ t.proposal.root) ⊎ (is_met (s.inner ++ node_row n r ∷ []) m ≡ true)
    was_met m (inl root) = inl root
    was_met m (inr met) = inr (met_more s.inner (node_row n r) m met)

    first_waits : (inner : List NodeRow) → RootAlone t inner (Walking (n ∷ waiting)) → inner ≡ [] → n ≡ t.proposal.root
    first_waits [] alone e = ap (first_or n) alone
      where
        first_or : ℕ → List ℕ → ℕ
        first_or d [] = d
        first_or d (x ∷ xs) = x
    first_waits (q ∷ inner) alone e = absurd (cc)

    inner_met : AreMet t (s.inner ++ node_row n r ∷ []) (nodes_of (s.inner ++ node_row n r ∷ []))
    inner_met m h = elim (has_cases (nodes_of s.inner) (n ∷ []) m (subst (λ ns. has_node ns m ≡ true) (nodes_more s.inner (node_row n r)) h)) [
      | inl old ↦ was_met m (l.met m old)
      | inr new ↦ was_met m (l.waiting m (or_left (n == m) (has_node waiting m) (one (n == m) new)))
    ]
      where
        one : (b : Bool) → (b || false) ≡ true → b ≡ true
        one true e = refl
        one false e = e

    next_met : AreMet t (s.inner ++ node_row n r ∷ []) (from_entered t.proposal.leaves (s.inner ++ node_row n r ∷ []) (refs_of r ++ waiting))
    next_met m h = elim (has_cases (refs_of r) waiting m (still_waits t.proposal.leaves (s.inner ++ node_row n r ∷ []) (refs_of r ++ waiting) m h)) [
      | inl own ↦ inr (met_last s.inner (node_row n r) m own)
      | inr old ↦ was_met m (l.waiting m (or_right (n == m) (has_node waiting m) old))
    ]

    go : (b : Bool) → Linked t (if b then at (with_inner s n r) (walk_on t (with_inner s n r).inner (from_entered t.proposal.leaves (with_inner s n r).inner (refs_of r ++ waiting))) else answered s (Reach n))
    go true = goes_on t s.inner (node_row n r) (first_more t.proposal.root s.inner n r waiting l.first (first_waits s.inner l.alone)) inner_met (from_entered t.proposal.leaves (s.inner ++ node_row n r ∷ []) (refs_of r ++ waiting)) next_met
    go false = quiet t s.inner (Walking (n ∷ waiting)) (Ended (Reach n)) l (ended t s.inner (Reach n)) tt

either_linked : (t : Task) (b : Bool) (x y : State) → Linked t x → Linked t y → Linked t (if b then x else y)
either_linked t true x y g h = g
either_linked t false x y g h = h

key_linked : (t : Task) (s : State) (key n : ℕ) (left : List ℕ) → IsLinked t s.inner (Keying (n ∷ left)) → Linked t (key_loaded s key left)
key_linked t s key n [] l = quiet t s.inner (Keying (n ∷ [])) (Hinting None) l (hinting t s.inner None) tt
key_linked t s key n (m ∷ left) l = quiet t s.inner (Keying (n ∷ m ∷ left)) (Keying (m ∷ left)) l (keying t s.inner (m ∷ left)) (λ k h. l.waiting k (or_right (n == k) (has_node (m ∷ left) k) h))

hint_linked : (t : Task) (s : State) (b c : Bool) (last : NodeRow) (key : ℕ) → IsLinked t s.inner (Hinting None)
    → Linked t (if b then (if c then at (with_hit s last.node last.row key) (Hinting None) else at s (Hinting None)) else failed s)
hint_linked t s true true last key l = quiet t s.inner (Hinting None) (Hinting None) l (hinting t s.inner None) tt
hint_linked t s true false last key l = l
hint_linked t s false c last key l = failed_linked t s (Hinting None) l

count_linked : (t : Task) (s : State) (left : List NodeRow) (node count own : ℕ) → IsLinked t s.inner Counting → Linked t (read_count t s left node count own)
count_linked t s [] node count own l = failed_linked t s Counting l
count_linked t s (r ∷ left) node count own l = go (node == r.node) left
  where
    go : (b : Bool) (left : List NodeRow) → Linked t (if b then count_on t (with_count s count own) left else failed s)
    go true [] = quiet t s.inner Counting _ l (ended t s.inner _) tt
    go true (q ∷ left) = quiet t s.inner Counting Counting l (counting t s.inner) tt
    go false left = failed_linked t s Counting l

step_linked : (t : Task) (s : State) (stage : Stage) (read : Seen) → IsLinked t s.inner stage → Linked t (read_at t s stage read)
step_linked t s (Walking []) read l = failed_linked t s (Walking []) l
step_linked t s (Walking (n ∷ waiting)) (seen.Row node r) l = either_linked t (node == n) (row_loaded t s n r waiting) (failed s) (row_linked t s n r waiting l) (failed_linked t s (Walking (n ∷ waiting)) l)
step_linked t s (Walking (n ∷ waiting)) (seen.Miss node) l = either_linked t (node == n) (answered s (Busy n)) (failed s) (quiet t s.inner (Walking (n ∷ waiting)) (Ended (Busy n)) l (ended t s.inner (Busy n)) tt) (failed_linked t s (Walking (n ∷ waiting)) l)
step_linked t s (Walking (n ∷ waiting)) (seen.Key node key) l = failed_linked t s (Walking (n ∷ waiting)) l
step_linked t s (Walking (n ∷ waiting)) (seen.Count node count own) l = failed_linked t s (Walking (n ∷ waiting)) l
step_linked t s (Keying []) read l = failed_linked t s (Keying []) l
step_linked t s (Keying (n ∷ left)) (seen.Key node key) l = either_linked t (node == n) (key_loaded s key left) (failed s) (key_linked t s key n left l) (failed_linked t s (Keying (n ∷ left)) l)
step_linked t s (Keying (n ∷ left)) (seen.Row node r) l = failed_linked t s (Keying (n ∷ left)) l
step_linked t s (Keying (n ∷ left)) (seen.Miss node) l = failed_linked t s (Keying (n ∷ left)) l
step_linked t s (Keying (n ∷ left)) (seen.Count node count own) l = failed_linked t s (Keying (n ∷ left)) l
step_linked t s (Hinting last) (seen.Row node r) l = quiet t s.inner (Hinting last) (Hinting (Some (node_row node r))) l (hinting t s.inner (Some (node_row node r))) tt
step_linked t s (Hinting None) (seen.Key node key) l = failed_linked t s (Hinting None) l
step_linked t s (Hinting (Some last)) (seen.Key node key) l =
    hint_linked t s ((node == last.node && nat_lt (length s.hits) most_hits) && is_asked (placed_now t s).extra last.row) (may_hit t.proposal.leaves s.high last.node key) last key (quiet t s.inner (Hinting (Some last)) (Hinting None) l (hinting t s.inner None) tt)
step_linked t s (Hinting last) (seen.Miss node) l = quiet t s.inner (Hinting last) (Hinting None) l (hinting t s.inner None) tt
step_linked t s (Hinting last) (seen.Count node count own) l = count_linked t s (uncounted s) node count own (quiet t s.inner (Hinting last) Counting l (counting t s.inner) tt)
step_linked t s Counting (seen.Count node count own) l = count_linked t s (uncounted s) node count own l
step_linked t s Counting (seen.Row node r) l = failed_linked t s Counting l
step_linked t s Counting (seen.Key node key) l = failed_linked t s Counting l
step_linked t s Counting (seen.Miss node) l = failed_linked t s Counting l
step_linked t s (Ended answer) read l = failed_linked t s (Ended answer) l
step_linked t s Failed read l = failed_linked t s Failed l

all_linked : (t : Task) (s : State) (reads : List Seen) → Linked t s → Linked t (after_reads t s reads)
all_linked t s [] l = l
all_linked t s (read ∷ reads) l = all_linked t (read_one t s read) reads (step_linked t s s.stage read l)

pub always_linked : (t : Task) (reads : List Seen) → Linked t (after_reads t (begin t) reads)
always_linked t reads = all_linked t (begin t) reads (record { first = tt; alone = refl; met = λ m h. absurd (cc); waiting = λ m h. inl (sym (has_one t.proposal.root m h)) })
