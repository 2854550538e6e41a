-- One node of a walk: it may be claimed, and what the walk keeps is kept.
use Rattle.std.proofs.Common.{◌≡◌, ◌≢◌, ◌⊎◌, ◌==◌, ℕ, ◌+◌, ◌-◌, ◌<◌, ◌≤◌, ◌||◌, nat_lt, Bool, true, false, if◌then◌else◌, List, [], ◌∷◌, ◌++◌, length, Option, Some, None, refl, sym, ap, ◌∙◌, subst, arith, inl, inr, append-nil, append_assoc, length-append}
use Rattle.std.proofs.lemmas.Bool.{ltb-true, or_cases, or_from, or_left, or_right}
use Rattle.syn_rows.specs.declared.Row.{Row}
use Rattle.syn_rows.specs.Rows.{is_derived, refs_of}
use Rattle.syn_rows.specs.Nodes.{has_node}
use Rattle.syn_rows.proofs.Nodes.{has_here, has_node-append, has_there, node_same}
use Rattle.syn_core_laws.specs.declared.View.{View}
use Rattle.syn_core_laws.specs.declared.Seen.{Seen}
use Rattle.syn_core_laws.specs.declared.Seen.TheVariants as seen
use Rattle.syn_core_laws.specs.Events.{MayPin}
use Rattle.syn_core_laws.specs.Shown.{IsShown}
use Rattle.syn_core_laws.specs.Views.{known_row, refs_known}
use Rattle.syn_core_laws.specs.Views as views
use Rattle.syn_core_laws.proofs.Counting.{times_has}
use Rattle.syn_core_laws.proofs.Listing.{look_here, look_there}
use Rattle.syn_decide.specs.declared.decisions.NodeRow.{NodeRow}
use Rattle.syn_decide.specs.declared.decisions.TheConstants.{MAX_INNER}
use Rattle.syn_decide.specs.declared.decisions.Want.TheVariants as want
use Rattle.syn_decide.specs.declared.decisions.Decision.{Decision}
use Rattle.syn_decide.specs.declared.decisions.Decision.TheVariants as decision
use Rattle.syn_decide.specs.Decided.{Answered, Busy, Differs, Next, Reach, Unfit, Wide, told}
use Rattle.syn_decide.specs.Tasks.{Task}
use Rattle.syn_decide.specs.Walk.{enters, from_entered, is_met, nodes_of}
use Rattle.syn_decide.specs.Functions.{in_circle, is_same_function, now_table, used_leaves, was_table}
use Rattle.syn_decide.specs.Fold.{State, Stage, Walking, Keying, Hinting, Counting, Ended, Failed, after_reads, after_walk, answered, at, begin, failed, first_unmet, read_at, read_one, row_loaded, uncounted, walk_on, wanted_at, wanted_count, wants, with_inner}
use Rattle.syn_decide.specs.Walked.{IsLinked, IsWalked}
use Rattle.syn_decide.proofs.Walking.{always_walked, entered_new, node_row, nodes_more}
use Rattle.syn_decide.proofs.Linking.{always_linked}
use Rattle.syn_commit.specs.Pools.{KeepsPool, found_claimed}
use Rattle.syn_commit.specs.Walks.{KeysWait, AreKnown, IsEntered, IsOfReads, IsWalking}
use Rattle.syn_commit.proofs.Ranking.{row_fits}
use Rattle.syn_commit.proofs.Trying.{claimed_append, held_stays, missed_keeps, or_none, other, rest_on, row_stays, used_keeps}

-- ---- the reads of a call
pub after_more : (t : Task) (s : State) (met : List Seen) (read : Seen) → after_reads t s (met ++ read ∷ []) ≡ read_one t (after_reads t s met) read
after_more t s [] read = refl
after_more t s (x ∷ met) read = after_more t (read_one t s x) met read

reads_begin : (t : Task) (v : View) → IsOfReads t v v (begin t)
reads_begin t v = record { met = []; reads = sym (append-nil v.reads); misses = sym (append-nil v.misses); state = refl }

pub reads_more : (t : Task) (start v w : View) (s z : State) (read : Seen) → IsOfReads t start v s → w.reads ≡ v.reads ++ read ∷ [] → w.misses ≡ v.misses ++ found_claimed (read ∷ []) → z ≡ read_one t s read → IsOfReads t start w z
reads_more t start v w s z read h reads misses next = record {
  met = h.met ++ read ∷ [];
  reads = reads ∙ (ap (λ rs. rs ++ read ∷ []) h.reads ∙ append_assoc start.reads h.met (read ∷ []));
  misses = misses ∙ (ap (λ ns. ns ++ found_claimed (read ∷ [])) h.misses
      ∙ (append_assoc start.misses (found_claimed h.met) (found_claimed (read ∷ [])) ∙ ap (λ ns. start.misses ++ ns) (sym (claimed_append h.met (read ∷ [])))));
  state = next ∙ (ap (λ y. read_one t y read) h.state ∙ sym (after_more t (begin t) h.met read));
}

-- ---- what the decision asks for
-- a row is asked for in the walk alone, that of the node that waits first
pub asks_row : (s : State) (stage : Stage) (n : ℕ) → wanted_at s stage ≡ Next (want.Row n) → (waiting : List ℕ) × (stage ≡ Walking (n ∷ waiting))
asks_row s (Walking []) n e = absurd (cc)
asks_row s (Walking (m ∷ waiting)) n e = let same : m ≡ n = cc in (waiting, ap (λ k. Walking (k ∷ waiting)) same)
asks_row s (Keying []) n e = absurd (cc)
asks_row s (Keying (m ∷ left)) n e = absurd (cc)
asks_row s (Hinting last) n e = absurd (no_count (uncounted s) e)
  where
    no_count : (rows : List NodeRow) → wanted_count rows ≡ Next (want.Row n) → ⊥
    no_count [] h = cc
    no_count (r ∷ rows) h = cc
asks_row s Counting n e = absurd (no_count (uncounted s) e)
  where
    no_count : (rows : List NodeRow) → wanted_count rows ≡ Next (want.Row n) → ⊥
    no_count [] h = cc
    no_count (r ∷ rows) h = cc
asks_row s (Ended answer) n e = absurd (cc)
asks_row s Failed n e = absurd (cc)

-- the same by what the program is told
pub row_asked : (d : Decision) (s : State) (n : ℕ) → told d ≡ wants s → d ≡ decision.Next (want.Row n) → (waiting : List ℕ) × (s.stage ≡ Walking (n ∷ waiting))
row_asked d s n e is = asks_row s s.stage n (sym e ∙ ap told is)

-- ---- one read
row_read : (t : Task) (s : State) (n : ℕ) (waiting : List ℕ) (r : Row) → s.stage ≡ Walking (n ∷ waiting) → read_one t s (seen.Row n r) ≡ row_loaded t s n r waiting
row_read t s n waiting r e = ap (λ g. read_at t s g (seen.Row n r)) e ∙ ap (λ b. if b then row_loaded t s n r waiting else failed s) (node_same n)

pub miss_read : (t : Task) (s : State) (n : ℕ) (waiting : List ℕ) → s.stage ≡ Walking (n ∷ waiting) → read_one t s (seen.Miss n) ≡ answered s (Busy n)
miss_read t s n waiting e = ap (λ g. read_at t s g (seen.Miss n)) e ∙ ap (λ b. if b then answered s (Busy n) else failed s) (node_same n)

-- the inner rows after it
inner_after : (t : Task) (s : State) (n : ℕ) (waiting : List ℕ) (r : Row) → (row_loaded t s n r waiting).inner ≡ (if is_derived r then s.inner ++ node_row n r ∷ [] else s.inner)
inner_after t s n waiting r = pick (is_derived r) (walk_on t (s.inner ++ node_row n r ∷ []) (from_entered t.proposal.leaves (s.inner ++ node_row n r ∷ []) (refs_of r ++ waiting)))
  where
    pick : (b : Bool) (stage : Stage) → (if b then at (with_inner s n r) stage else answered s (Reach n)).inner ≡ (if b then s.inner ++ node_row n r ∷ [] else s.inner)
    pick true stage = refl
    pick false stage = refl

-- no hit comes in the walk
hits_after : (t : Task) (s : State) (n : ℕ) (waiting : List ℕ) (r : Row) → (row_loaded t s n r waiting).hits ≡ s.hits
hits_after t s n waiting r = pick (is_derived r) (walk_on t (s.inner ++ node_row n r ∷ []) (from_entered t.proposal.leaves (s.inner ++ node_row n r ∷ []) (refs_of r ++ waiting)))
  where
    pick : (b : Bool) (stage : Stage) → (if b then at (with_inner s n r) stage else answered s (Reach n)).hits ≡ s.hits
    pick true stage = refl
    pick false stage = refl

-- nor a count
counts_after : (t : Task) (s : State) (n : ℕ) (waiting : List ℕ) (r : Row) → (row_loaded t s n r waiting).counts ≡ s.counts
counts_after t s n waiting r = pick (is_derived r) (walk_on t (s.inner ++ node_row n r ∷ []) (from_entered t.proposal.leaves (s.inner ++ node_row n r ∷ []) (refs_of r ++ waiting)))
  where
    pick : (b : Bool) (stage : Stage) → (if b then at (with_inner s n r) stage else answered s (Reach n)).counts ≡ s.counts
    pick true stage = refl
    pick false stage = refl

-- the keys wait
over_waits : (t : Task) (inner : List NodeRow) (o : Option ℕ) → KeysWait t (after_walk t inner o)
over_waits t inner (Some leaf) = tt
over_waits t inner None = go (in_circle t inner) (is_same_function t inner)
  where
    go : (b c : Bool) → KeysWait t (if b then Failed else (if c then Keying (used_leaves t ++ t.proposal.root ∷ []) else Ended (Differs (was_table t) (now_table t inner))))
    go true c = tt
    go false true = refl
    go false false = tt

on_waits : (t : Task) (inner : List NodeRow) (ns : List ℕ) → KeysWait t (walk_on t inner ns)
on_waits t inner [] = over_waits t inner (first_unmet t inner)
on_waits t inner (n ∷ ns) = go (nat_lt (length inner) MAX_INNER)
  where
    go : (b : Bool) → KeysWait t (if b then Walking (n ∷ ns) else Ended (Wide n))
    go true = tt
    go false = tt

keys_after : (t : Task) (s : State) (n : ℕ) (waiting : List ℕ) (r : Row) → KeysWait t (row_loaded t s n r waiting).stage
keys_after t s n waiting r = pick (is_derived r) (walk_on t (s.inner ++ node_row n r ∷ []) (from_entered t.proposal.leaves (s.inner ++ node_row n r ∷ []) (refs_of r ++ waiting))) (on_waits t (s.inner ++ node_row n r ∷ []) (from_entered t.proposal.leaves (s.inner ++ node_row n r ∷ []) (refs_of r ++ waiting)))
  where
    pick : (b : Bool) (stage : Stage) → KeysWait t stage → KeysWait t (if b then at (with_inner s n r) stage else answered s (Reach n)).stage
    pick true stage w = w
    pick false stage w = tt

-- ---- known rows
pub known_stays : (v w : View) (n : ℕ) (rows : List NodeRow) → ((m : ℕ) → m ≢ n → known_row w m ≡ known_row v m) → ((m : ℕ) → has_node (nodes_of rows) m ≡ true → m ≢ n) → AreKnown v rows → AreKnown w rows
known_stays v w n [] same apart k = tt
known_stays v w n (r ∷ rows) same apart k = (
  same r.node (apart r.node (or_left (r.node == r.node) (has_node (nodes_of rows) r.node) (node_same r.node))) ∙ k.0,
  known_stays v w n rows same (λ m h. apart m (or_right (r.node == m) (has_node (nodes_of rows) m) h)) k.1,
)

pub known_more : (w : View) (rows : List NodeRow) (r : NodeRow) → AreKnown w rows → known_row w r.node ≡ Some r.row → AreKnown w (rows ++ r ∷ [])
known_more w [] r k e = (e, tt)
known_more w (q ∷ rows) r k e = (k.0, known_more w rows r k.1 e)

-- a node that an inner row refers to
pub referring : (v : View) (rows : List NodeRow) (n : ℕ) → AreKnown v rows → is_met rows n ≡ true → (m : ℕ) × (r : Row) × (known_row v m ≡ Some r) × (has_node (refs_of r) n ≡ true)
referring v [] n k h = absurd (cc)
referring v (q ∷ rows) n k h = elim (or_cases (has_node (refs_of q.row) n) (is_met rows n) h) [ inl own ↦ (q.node, q.row, k.0, own) | inr more ↦ referring v rows n k.1 more ]

-- ---- the walk begins
pub walk_begins : (t : Task) (v : View) (pool : List ℕ) (s : State) → KeepsPool v pool → ((n : ℕ) → has_node v.held n ≡ has_node pool n) → s ≡ begin t → IsWalking t v pool v s
walk_begins t v pool s keeps alone e = subst (IsWalking t v pool v) (sym e) record {
  reads = reads_begin t v;
  spare = keeps;
  held = λ n. alone n ∙ sym (or_none (has_node pool n));
  known = tt;
  hits = refl;
  counts = refl;
  keys = tt;
  rest = record { number = refl; pins = refl; idle = refl; makes = refl; changes = refl; difference = refl };
}

pub fits_begins : (t : Task) (s : State) → s ≡ begin t → wants s ≡ Unfit → ⊥
fits_begins t s e unfit = let next : Next (want.Row t.proposal.root) ≡ Unfit = sym (ap wants e) ∙ unfit in cc

module _ (t : Task) (start v : View) (pool : List ℕ) (s : State) (h : IsWalking t start pool v s) (n : ℕ) (waiting : List ℕ) (stage : s.stage ≡ Walking (n ∷ waiting)) where
  -- ---- the node that is entered next
  link : (n ≡ t.proposal.root) ⊎ (is_met s.inner n ≡ true)
  link =
      let all : IsLinked t s.inner s.stage = subst (λ (y : State). IsLinked t y.inner y.stage) (sym h.reads.state) (always_linked t h.reads.met) in
      let here : IsLinked t s.inner (Walking (n ∷ waiting)) = subst (IsLinked t s.inner) stage all in
      here.waiting n (has_here n waiting)

  not_inner : enters t.proposal.leaves [] t.proposal.root ≡ true → has_node (nodes_of s.inner) n ≡ false
  not_inner root =
      let all : IsWalked t s.inner s.stage = subst (λ (y : State). IsWalked t y.inner y.stage) (sym h.reads.state) (always_walked t h.reads.met root) in
      let here : IsWalked t s.inner (Walking (n ∷ waiting)) = subst (IsWalked t s.inner) stage all in
      entered_new t s.inner n here.next

  -- it is the root, or may be pinned
  pub entered_reach : (n ≡ t.proposal.root) ⊎ MayPin v n
  entered_reach = elim link [
    | inl root ↦ inl root
    | inr met ↦ let r = referring v s.inner n h.known met in inr (inl (inr (r.0, r.1, r.2, inr (times_has n (refs_of r.1) r.3))))
  ]

  pub entered_free : (nodes : ℕ) → IsShown nodes v → enters t.proposal.leaves [] t.proposal.root ≡ true → has_node pool t.proposal.root ≡ false → has_node v.held n ≡ false
  entered_free nodes shown root not_spare = h.held n ∙ or_from (has_node pool n) (has_node (nodes_of s.inner) n) (spare (has_node pool n) refl) (not_inner root)
    where
      spare : (b : Bool) → has_node pool n ≡ b → b ≡ false
      spare true e = elim link [
        | inl same ↦ let no : has_node pool n ≡ false = subst (λ k. has_node pool k ≡ false) (sym same) not_spare in absurd (cc)
        | inr met ↦
            let r = referring v s.inner n h.known met in
            let some : 1 ≤ refs_known n (known_row v r.0) = subst (λ o. 1 ≤ refs_known n o) (sym r.2) (times_has n (refs_of r.1) r.3) in
            absurd (shown.used r.0 n some (h.spare.free n e))
      ]
      spare false e = refl

  -- ---- one node more
  module _ (none : has_node v.held n ≡ false) where
    inner_apart : (m : ℕ) → has_node (nodes_of s.inner) m ≡ true → m ≢ n
    inner_apart m there = other v n pool none h.spare m (h.held m ∙ or_right (has_node pool m) (has_node (nodes_of s.inner) m) there)

    missed_on : (z : State) → z ≡ read_one t s (seen.Miss n) → IsWalking t start pool (views.missed v n) z
    missed_on z e =
        let inner : z.inner ≡ s.inner = ap (λ (y : State). y.inner) (e ∙ miss_read t s n waiting stage) in
        record {
          reads = reads_more t start v (views.missed v n) s z (seen.Miss n) h.reads refl refl e;
          spare = missed_keeps v n pool none h.spare;
          held = λ m. h.held m ∙ ap (λ rows. has_node pool m || has_node (nodes_of rows) m) (sym inner);
          known = subst (AreKnown (views.missed v n)) (sym inner) (known_stays v (views.missed v n) n s.inner (λ m ne. refl) inner_apart h.known);
          hits = ap (λ (y : State). y.hits) (e ∙ miss_read t s n waiting stage) ∙ h.hits;
          counts = ap (λ (y : State). y.counts) (e ∙ miss_read t s n waiting stage) ∙ h.counts;
          keys = subst (λ (y : State). KeysWait t y.stage) (sym (e ∙ miss_read t s n waiting stage)) tt;
          rest = rest_on start v (views.missed v n) h.rest (record { number = refl; pins = refl; idle = refl; makes = refl; changes = refl; difference = refl });
        }

    swap : (a p i : Bool) → (a || (p || i)) ≡ (p || (i || (a || false)))
    swap true true i = refl
    swap true false true = refl
    swap true false false = refl
    swap false true i = refl
    swap false false true = refl
    swap false false false = refl

    gate_on : (r : Row) (z : State) → z ≡ read_one t s (seen.Row n r) → z.inner ≡ s.inner ++ node_row n r ∷ [] → IsWalking t start pool (views.row_loaded (views.claimed v n) n r) z
    gate_on r z e inner = record {
      reads = reads_more t start v (views.row_loaded (views.claimed v n) n r) s z (seen.Row n r) h.reads refl (sym (append-nil v.misses)) e;
      spare = record {
        distinct = h.spare.distinct;
        held = λ m there. has_there n m v.held (h.spare.held m there);
        free = λ m there. look_there m n r v.rows (other v n pool none h.spare m (h.spare.held m there)) ∙ h.spare.free m there;
      };
      held = λ m. ap (λ b. (n == m) || b) (h.held m) ∙ (swap (n == m) (has_node pool m) (has_node (nodes_of s.inner) m)
          ∙ ap (λ b. has_node pool m || b) (sym (ap (λ rows. has_node (nodes_of rows) m) inner ∙ (ap (λ ns. has_node ns m) (nodes_more s.inner (node_row n r)) ∙ has_node-append (nodes_of s.inner) (n ∷ []) m))));
      known = subst (AreKnown (views.row_loaded (views.claimed v n) n r)) (sym inner)
          (known_more (views.row_loaded (views.claimed v n) n r) s.inner (node_row n r)
          (known_stays v (views.row_loaded (views.claimed v n) n r) n s.inner (λ m ne. look_there m n r v.rows ne) inner_apart h.known) (look_here n r v.rows));
      hits = ap (λ (y : State). y.hits) (e ∙ row_read t s n waiting r stage) ∙ (hits_after t s n waiting r ∙ h.hits);
      counts = ap (λ (y : State). y.counts) (e ∙ row_read t s n waiting r stage) ∙ (counts_after t s n waiting r ∙ h.counts);
      keys = subst (λ (y : State). KeysWait t y.stage) (sym (e ∙ row_read t s n waiting r stage)) (keys_after t s n waiting r);
      rest = rest_on start v (views.row_loaded (views.claimed v n) n r) h.rest (record { number = refl; pins = refl; idle = refl; makes = refl; changes = refl; difference = refl });
    }

    other_on : (r : Row) (z : State) → z ≡ read_one t s (seen.Row n r) → z.inner ≡ s.inner → IsWalking t start pool (views.released (views.row_loaded (views.claimed v n) n r) n) z
    other_on r z e inner = record {
      reads = reads_more t start v (views.released (views.row_loaded (views.claimed v n) n r) n) s z (seen.Row n r) h.reads refl (sym (append-nil v.misses)) e;
      spare = used_keeps v n pool none h.spare r;
      held = λ m. held_stays v n pool none h.spare m ∙ (h.held m ∙ ap (λ rows. has_node pool m || has_node (nodes_of rows) m) (sym inner));
      known = subst (AreKnown (views.released (views.row_loaded (views.claimed v n) n r) n)) (sym inner)
          (known_stays v (views.released (views.row_loaded (views.claimed v n) n r) n) n s.inner (λ m ne. row_stays v n pool none h.spare r m ne) inner_apart h.known);
      hits = ap (λ (y : State). y.hits) (e ∙ row_read t s n waiting r stage) ∙ (hits_after t s n waiting r ∙ h.hits);
      counts = ap (λ (y : State). y.counts) (e ∙ row_read t s n waiting r stage) ∙ (counts_after t s n waiting r ∙ h.counts);
      keys = subst (λ (y : State). KeysWait t y.stage) (sym (e ∙ row_read t s n waiting r stage)) (keys_after t s n waiting r);
      rest = rest_on start v (views.released (views.row_loaded (views.claimed v n) n r) n) h.rest (record { number = refl; pins = refl; idle = refl; makes = refl; changes = refl; difference = refl });
    }

    pub walk_goes_on : (nodes numbers : ℕ) (w : View) (z : State) → IsEntered t nodes numbers n v s w z → IsWalking t start pool w z
    walk_goes_on nodes numbers w z (inl miss) = subst (λ y. IsWalking t start pool y z) (sym miss.1) (missed_on z miss.2)
    walk_goes_on nodes numbers w z (inr row) = subst (λ y. IsWalking t start pool y z) (sym row.1) (go (is_derived row.0) (ap (λ (y : State). y.inner) (row.2 ∙ row_read t s n waiting row.0 stage) ∙ inner_after t s n waiting row.0))
      where
        go : (b : Bool) → z.inner ≡ (if b then s.inner ++ node_row n row.0 ∷ [] else s.inner)
            → IsWalking t start pool (if b then views.row_loaded (views.claimed v n) n row.0 else views.released (views.row_loaded (views.claimed v n) n row.0) n) z
        go true inner = gate_on row.0 z row.2 inner
        go false inner = other_on row.0 z row.2 inner

    -- the row that was asked for fits
    pub walk_fits : (nodes numbers : ℕ) (w : View) (z : State) → enters t.proposal.leaves [] t.proposal.root ≡ true → IsEntered t nodes numbers n v s w z → wants z ≡ Unfit → ⊥
    walk_fits nodes numbers w z root (inl miss) unfit = let busy : Answered (Busy n) ≡ Unfit = sym (ap wants (miss.2 ∙ miss_read t s n waiting stage)) ∙ unfit in cc
    walk_fits nodes numbers w z root (inr row) unfit =
        let r : Row = row.0 in
        let was : after_reads t (begin t) h.reads.met ≡ s = sym h.reads.state in
        row_fits t h.reads.met nodes n (views.row_loaded (views.claimed v n) n r) r root
        (ap wants was ∙ ap (λ g. wanted_at s g) stage) row.3.no_circle (λ m q e. (row.3.rows m q e).0)
        (subst (λ (y : State). AreKnown (views.row_loaded (views.claimed v n) n r) (y.inner ++ node_row n r ∷ [])) h.reads.state
        (known_more (views.row_loaded (views.claimed v n) n r) s.inner (node_row n r)
        (known_stays v (views.row_loaded (views.claimed v n) n r) n s.inner (λ m ne. look_there m n r v.rows ne) inner_apart h.known) (look_here n r v.rows)))
        (ap wants (after_more t (begin t) h.reads.met (seen.Row n r) ∙ (ap (λ y. read_one t y (seen.Row n r)) was ∙ sym row.2)) ∙ unfit)

-- ---- how long the walk goes on
-- one more than the rows for which there is room, while the walk goes on
abbrev pub left_at : Stage → ℕ → ℕ
left_at (Walking waiting) rows = 49 - rows
left_at (Keying left) rows = 0
left_at (Hinting last) rows = 0
left_at Counting rows = 0
left_at (Ended answer) rows = 0
left_at Failed rows = 0

abbrev pub left_to_enter : State → ℕ
left_to_enter s = left_at s.stage (length s.inner)

-- at each stage of the walk there is room for a row
abbrev pub HasRoom : State → Type 0
HasRoom s = (waiting : List ℕ) → s.stage ≡ Walking waiting → length s.inner < 49

-- fewer are left than before a row was met, where there were so many inner rows
abbrev IsLess : ℕ → Stage → ℕ → Type 0
IsLess before stage rows = (left_at stage rows < 49 - before) × ((waiting : List ℕ) → stage ≡ Walking waiting → rows < 49)

over : (before rows : ℕ) (stage : Stage) → before < 49 → left_at stage rows ≡ 0 → ((waiting : List ℕ) → stage ≡ Walking waiting → ⊥) → IsLess before stage rows
over before rows stage room none never = (omega (arith, none), λ waiting e. absurd (never waiting e))

goes : (before rows : ℕ) (waiting : List ℕ) → rows ≡ before + 1 → rows < 48 → IsLess before (Walking waiting) rows
goes before rows waiting more few = (omega arith, λ ws e. omega arith)

over_less : (t : Task) (inner : List NodeRow) (before : ℕ) → before < 49 → (o : Option ℕ) → IsLess before (after_walk t inner o) (length inner)
over_less t inner before room (Some leaf) = over before (length inner) (Ended (Reach leaf)) room refl (λ w e. cc)
over_less t inner before room None = go (in_circle t inner) (is_same_function t inner)
  where
    go : (b c : Bool) → IsLess before (if b then Failed else (if c then Keying (used_leaves t ++ t.proposal.root ∷ []) else Ended (Differs (was_table t) (now_table t inner)))) (length inner)
    go true c = over before (length inner) Failed room refl (λ w e. cc)
    go false true = over before (length inner) (Keying (used_leaves t ++ t.proposal.root ∷ [])) room refl (λ w e. cc)
    go false false = over before (length inner) (Ended (Differs (was_table t) (now_table t inner))) room refl (λ w e. cc)

on_less : (t : Task) (inner : List NodeRow) (before : ℕ) (ns : List ℕ) → before < 49 → length inner ≡ before + 1 → IsLess before (walk_on t inner ns) (length inner)
on_less t inner before [] room more = over_less t inner before room (first_unmet t inner)
on_less t inner before (n ∷ ns) room more = go (nat_lt (length inner) MAX_INNER) refl
  where
    go : (b : Bool) → nat_lt (length inner) MAX_INNER ≡ b → IsLess before (if b then Walking (n ∷ ns) else Ended (Wide n)) (length inner)
    go true e = goes before (length inner) (n ∷ ns) more (ltb-true (length inner) MAX_INNER e)
    go false e = over before (length inner) (Ended (Wide n)) room refl (λ w h. cc)

pub room_begins : (t : Task) (s : State) → s ≡ begin t → HasRoom s
room_begins t s e waiting w = let none : length s.inner ≡ 0 = ap (λ (y : State). length y.inner) e in omega arith

-- the program's measure falls with each node that is entered
pub falls : (t : Task) (nodes numbers n : ℕ) (v w : View) (s z : State) (waiting : List ℕ) → s.stage ≡ Walking (n ∷ waiting) → HasRoom s → IsEntered t nodes numbers n v s w z → (left_to_enter z < left_to_enter s) × HasRoom z
falls t nodes numbers n v w s z waiting stage room entered = fewer (after entered)
  where
    few : length s.inner < 49
    few = room (n ∷ waiting) stage

    was : left_to_enter s ≡ 49 - length s.inner
    was = ap (λ g. left_at g (length s.inner)) stage

    fewer : IsLess (length s.inner) z.stage (length z.inner) → (left_to_enter z < left_to_enter s) × HasRoom z
    fewer less = (subst (λ k. left_to_enter z < k) (sym was) less.0, less.1)

    one : (r : Row) → length (s.inner ++ node_row n r ∷ []) ≡ length s.inner + 1
    one r = length-append s.inner (node_row n r ∷ [])

    loaded : (r : Row) (ahead : List ℕ) (b : Bool) → IsLess (length s.inner) (if b then at (with_inner s n r) (walk_on t (s.inner ++ node_row n r ∷ []) ahead) else answered s (Reach n)).stage
        (length (if b then at (with_inner s n r) (walk_on t (s.inner ++ node_row n r ∷ []) ahead) else answered s (Reach n)).inner)
    loaded r ahead true = on_less t (s.inner ++ node_row n r ∷ []) (length s.inner) ahead few (one r)
    loaded r ahead false = over (length s.inner) (length s.inner) (Ended (Reach n)) few refl (λ w e. cc)

    after : IsEntered t nodes numbers n v s w z → IsLess (length s.inner) z.stage (length z.inner)
    after (inl miss) = subst (λ (y : State). IsLess (length s.inner) y.stage (length y.inner)) (sym (miss.2 ∙ miss_read t s n waiting stage)) (over (length s.inner) (length s.inner) (Ended (Busy n)) few refl (λ w e. cc))
    after (inr row) = subst (λ (y : State). IsLess (length s.inner) y.stage (length y.inner)) (sym (row.2 ∙ row_read t s n waiting row.0 stage))
        (loaded row.0 (from_entered t.proposal.leaves (s.inner ++ node_row n row.0 ∷ []) (refs_of row.0 ++ waiting)) (is_derived row.0))
