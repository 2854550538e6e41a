-- The loads behind the walk keep what holds on the way.
use Rattle.std.proofs.Common.{◌≡◌, ◌≢◌, ◌⊎◌, ℕ, zero, suc, ◌+◌, ◌-◌, ◌<◌, ◌≤◌, ◌==◌, ◌||◌, Bool, true, false, if◌then◌else◌, List, [], ◌∷◌, ◌++◌, length, drop, Option, refl, sym, ap, ◌∙◌, subst, arith, inl, inr, append-nil, length-append}
use Rattle.std.specs.List.{AllByRecursion}
use Rattle.std.proofs.lemmas.Bool.{eq-eqb, or_left, or_right}
use Rattle.syn_rows.specs.Rows.{refs_of}
use Rattle.syn_rows.specs.Nodes.{has_node}
use Rattle.syn_rows.specs.References.{times}
use Rattle.syn_rows.proofs.Nodes.{has_here, node_same}
use Rattle.syn_core_laws.specs.declared.View.{View}
use Rattle.syn_core_laws.specs.declared.Seen.TheVariants as seen
use Rattle.syn_core_laws.specs.Events.{MayPin}
use Rattle.syn_core_laws.specs.Lists.{look, only}
use Rattle.syn_core_laws.specs.Views.{count_loaded, differs, key_loaded, own_pins, pinned}
use Rattle.syn_core_laws.proofs.Counting.{hits_other, times_append, times_has}
use Rattle.syn_decide.specs.declared.decisions.NodeRow.{NodeRow}
use Rattle.syn_decide.specs.declared.decisions.Want.TheVariants as want
use Rattle.syn_decide.specs.Decided.{Next}
use Rattle.syn_decide.specs.declared.decisions.Counted.{Counted}
use Rattle.syn_decide.specs.Dying.{counted_of}
use Rattle.syn_decide.specs.Tasks.{Task}
use Rattle.syn_decide.specs.Walk.{enters, nodes_of}
use Rattle.syn_decide.specs.Fold.{State, Stage, Walking, Keying, Hinting, Counting, Ended, Failed, count_on, failed, is_hinting, key_loaded as key_read_on, read_at, read_count, read_one, uncounted, wanted_at, wanted_count, wants, with_count}
use Rattle.syn_decide.specs.Walked.{AreGates, IsLinked, IsWalked}
use Rattle.syn_decide.proofs.Walking.{always_walked}
use Rattle.syn_decide.proofs.Linking.{always_linked}
use Rattle.syn_commit_laws.specs.Dying.{IsLoaded}
use Rattle.syn_commit_laws.proofs.Deaths.{loaded_here, loaded_more}
use Rattle.syn_commit.specs.Counts.{CountsAreLoaded}
use Rattle.syn_commit.specs.Walks.{AreKnown, IsOfReads, IsWalking}
use Rattle.syn_commit.specs.Stages.{HasEnded, IsCounted, IsKeyed, IsPastKeys, IsPastWalk, IsTrying}
use Rattle.syn_commit.proofs.Entering.{reads_more, referring}
use Rattle.syn_commit.proofs.Staging.{IsStaged, always_staged}

-- ---- views that differ in what is loaded and pinned alone
record IsBeside (v w : View) : Type 0 where
  held : w.held ≡ v.held
  rows : w.rows ≡ v.rows
  number : w.number ≡ v.number
  idle : v.idle ≡ [] → w.idle ≡ []
  makes : w.makes ≡ v.makes
  changes : w.changes ≡ v.changes
  difference : w.difference ≡ v.difference

known_same : (v w : View) (rows : List NodeRow) → w.rows ≡ v.rows → AreKnown v rows → AreKnown w rows
known_same v w [] e k = tt
known_same v w (r ∷ rows) e k = (ap (λ rs. look r.node rs) e ∙ k.0, known_same v w rows e k.1)

trying_on : (t : Task) (start v w : View) (pool pins more : List ℕ) (s z : State) → IsTrying t start pool pins v s → IsOfReads t start w z → IsBeside v w → z.inner ≡ s.inner → z.hits ≡ s.hits
    → ((n : ℕ) → own_pins w n ≡ times n more) → length w.pins ≡ length more → times t.proposal.root more ≡ 0 → IsTrying t start pool more w z
trying_on t start v w pool pins more s z h reads b inner hits pinned count root_out = record {
  reads = reads;
  spare = record {
    distinct = h.spare.distinct;
    held = λ n there. ap (λ ns. has_node ns n) b.held ∙ h.spare.held n there;
    free = λ n there. ap (λ rs. look n rs) b.rows ∙ h.spare.free n there;
  };
  held = λ n. ap (λ ns. has_node ns n) b.held ∙ (h.held n
      ∙ (ap (λ rows. has_node pool n || (has_node (nodes_of rows) n || has_node (nodes_of s.hits) n)) (sym inner)
      ∙ ap (λ rows. has_node pool n || (has_node (nodes_of z.inner) n || has_node (nodes_of rows) n)) (sym hits)));
  inner = subst (AreKnown w) (sym inner) (known_same v w s.inner b.rows h.inner);
  hits = subst (AreKnown w) (sym hits) (known_same v w s.hits b.rows h.hits);
  gates = subst AreGates (sym hits) h.gates;
  apart = ap (λ rows. has_node (nodes_of rows) t.proposal.root) hits ∙ h.apart;
  root_out = root_out;
  pinned = pinned;
  count = count;
  number = b.number ∙ h.number;
  idle = b.idle h.idle;
  makes = b.makes ∙ h.makes;
  changes = b.changes ∙ h.changes;
  difference = b.difference ∙ h.difference;
}

-- ---- behind the walk there is no hit yet
pub walk_over : (t : Task) (start v : View) (pool : List ℕ) (s : State) → IsWalking t start pool v s → start.pins ≡ [] → start.idle ≡ [] → IsTrying t start pool [] v s
walk_over t start v pool s h pins idle = record {
  reads = h.reads;
  spare = h.spare;
  held = λ n. h.held n ∙ ap (λ b. has_node pool n || b) (sym (ap (λ rows. has_node (nodes_of s.inner) n || has_node (nodes_of rows) n) h.hits ∙ or_none (has_node (nodes_of s.inner) n)));
  inner = h.known;
  hits = subst (AreKnown v) (sym h.hits) tt;
  gates = subst AreGates (sym h.hits) tt;
  apart = ap (λ rows. has_node (nodes_of rows) t.proposal.root) h.hits;
  root_out = refl;
  pinned = λ n. ap (λ ns. times n ns) (h.rest.pins ∙ pins);
  count = ap length (h.rest.pins ∙ pins);
  number = h.rest.number;
  idle = h.rest.idle ∙ idle;
  makes = h.rest.makes;
  changes = h.rest.changes;
  difference = h.rest.difference;
}
  where
    or_none : (a : Bool) → (a || false) ≡ a
    or_none true = refl
    or_none false = refl

-- ---- keys
asks_key : (s : State) (stage : Stage) (n : ℕ) → wanted_at s stage ≡ Next (want.Key n) → (left : List ℕ) × (stage ≡ Keying (n ∷ left))
asks_key s (Walking []) n e = absurd (cc)
asks_key s (Walking (m ∷ waiting)) n e = absurd (cc)
asks_key s (Keying []) n e = absurd (cc)
asks_key s (Keying (m ∷ left)) n e = let same : m ≡ n = cc in (left, ap (λ k. Keying (k ∷ left)) same)
asks_key s (Hinting last) n e = absurd (no_count (uncounted s) e)
  where
    no_count : (rows : List NodeRow) → wanted_count rows ≡ Next (want.Key n) → ⊥
    no_count [] h = cc
    no_count (r ∷ rows) h = cc
asks_key s Counting n e = absurd (no_count (uncounted s) e)
  where
    no_count : (rows : List NodeRow) → wanted_count rows ≡ Next (want.Key n) → ⊥
    no_count [] h = cc
    no_count (r ∷ rows) h = cc
asks_key s (Ended answer) n e = absurd (cc)
asks_key s Failed n e = absurd (cc)

pub key_asked : (s : State) (n : ℕ) → wants s ≡ Next (want.Key n) → (left : List ℕ) × (s.stage ≡ Keying (n ∷ left))
key_asked s n e = asks_key s s.stage n e

-- how many keys are left
abbrev pub left_at : Stage → ℕ
left_at (Walking waiting) = 0
left_at (Keying left) = length left
left_at (Hinting last) = 0
left_at Counting = 0
left_at (Ended answer) = 0
left_at Failed = 0

abbrev pub keys_left : State → ℕ
keys_left s = left_at s.stage

-- what the keys keep: there is room for their pins, the walk is over, and the reads fit
pub record IsKeying (pins : List ℕ) (s : State) : Type 0 where
  pub few : length pins + keys_left s ≤ 9
  pub past : IsPastWalk s.stage

pub staged : (t : Task) (start v : View) (s : State) → IsOfReads t start v s → IsStaged t s s.stage
staged t start v s o = subst (λ (y : State). IsStaged t y y.stage) (sym o.state) (always_staged t o.met)

pub keying_begins : (t : Task) (start v : View) (pool pins : List ℕ) (s : State) → IsTrying t start pool pins v s → pins ≡ [] → length t.proposal.leaves ≤ 8 → IsPastWalk s.stage → IsKeying pins s
keying_begins t start v pool pins s h none few past = record { few = go s.stage (staged t start v s h.reads); past = past }
  where
    empty : length pins ≡ 0
    empty = ap length none

    go : (stage : Stage) → IsStaged t s stage → length pins + left_at stage ≤ 9
    go (Walking waiting) g = omega (arith, empty)
    go (Keying left) g = omega (arith, empty, few, g.3)
    go (Hinting last) g = omega (arith, empty)
    go Counting g = omega (arith, empty)
    go (Ended answer) g = omega (arith, empty)
    go Failed g = omega (arith, empty)

-- when no key is asked for any more, the keys are loaded
pub keying_ends : (t : Task) (start v : View) (s : State) → IsOfReads t start v s → IsPastWalk s.stage → ((n : ℕ) → wants s ≡ Next (want.Key n) → ⊥) → IsPastKeys s.stage
keying_ends t start v s o past none = go s.stage (staged t start v s o) past none
  where
    go : (stage : Stage) → IsStaged t s stage → IsPastWalk stage → ((n : ℕ) → wanted_at s stage ≡ Next (want.Key n) → ⊥) → IsPastKeys stage
    go (Walking waiting) g p f = p
    go (Keying []) g p f = omega (arith, g.2)
    go (Keying (n ∷ left)) g p f = f n refl
    go (Hinting last) g p f = tt
    go Counting g p f = tt
    go (Ended answer) g p f = tt
    go Failed g p f = p

times_more : (m n : ℕ) (ps qs : List ℕ) → times m ps ≡ times m qs → times m (n ∷ ps) ≡ times m (qs ++ n ∷ [])
times_more m n ps qs e = let a = times_append m qs (n ∷ []) in omega (arith, a, e)

-- a pin of another node
pub still_out : (m n : ℕ) (pins : List ℕ) → times m pins ≡ 0 → m ≢ n → times m (pins ++ n ∷ []) ≡ 0
still_out m n pins none ne = let all = times_append m pins (n ∷ []) in let other = hits_other m n ne in omega (arith, all, none, other)

module _ (t : Task) (start v : View) (pool pins : List ℕ) (s : State) (h : IsTrying t start pool pins v s) (n : ℕ) (left : List ℕ) (stage : s.stage ≡ Keying (n ∷ left)) where
  -- the node is the root, which is held, or an inner row refers to it
  pub key_may : n ≢ t.proposal.root → MayPin v n
  key_may other =
      let all : IsLinked t s.inner s.stage = subst (λ (y : State). IsLinked t y.inner y.stage) (sym h.reads.state) (always_linked t h.reads.met) in
      let here : IsLinked t s.inner (Keying (n ∷ left)) = subst (IsLinked t s.inner) stage all in
      elim (here.waiting n (has_here n left)) [
        | inl root ↦ absurd (other root)
        | inr met ↦ let r = referring v s.inner n h.inner met in inl (inr (r.0, r.1, r.2, inr (times_has n (refs_of r.1) r.3)))
      ]

  pub key_held : enters t.proposal.leaves [] t.proposal.root ≡ true → n ≡ t.proposal.root → has_node v.held n ≡ true
  key_held root same =
      let all : IsWalked t s.inner s.stage = subst (λ (y : State). IsWalked t y.inner y.stage) (sym h.reads.state) (always_walked t h.reads.met root) in
      let here : IsWalked t s.inner (Keying (n ∷ left)) = subst (IsWalked t s.inner) stage all in
      let inner : has_node (nodes_of s.inner) n ≡ true = subst (λ k. has_node (nodes_of s.inner) k ≡ true) (sym same) here.root in
      h.held n ∙ or_right (has_node pool n) (has_node (nodes_of s.inner) n || has_node (nodes_of s.hits) n) (or_left (has_node (nodes_of s.inner) n) (has_node (nodes_of s.hits) n) inner)

  pub key_read : (key : ℕ) → read_one t s (seen.Key n key) ≡ key_read_on s key left
  key_read key = ap (λ g. read_at t s g (seen.Key n key)) stage ∙ ap (λ b. if b then key_read_on s key left else failed s) (node_same n)

  inner_same : (key : ℕ) (ns : List ℕ) → (key_read_on s key ns).inner ≡ s.inner
  inner_same key [] = refl
  inner_same key (m ∷ ns) = refl

  hits_same : (key : ℕ) (ns : List ℕ) → (key_read_on s key ns).hits ≡ s.hits
  hits_same key [] = refl
  hits_same key (m ∷ ns) = refl

  pub key_goes_on : (w : View) (more : List ℕ) (z : State) → IsKeyed t n v pins s w more z → IsTrying t start pool more w z
  key_goes_on w more z k = go (n == t.proposal.root) refl k.1 k.2
    where
      read : z ≡ read_one t s (seen.Key n k.0)
      read = k.3

      inner : z.inner ≡ s.inner
      inner = ap (λ (y : State). y.inner) (read ∙ key_read k.0) ∙ inner_same k.0 left

      hits : z.hits ≡ s.hits
      hits = ap (λ (y : State). y.hits) (read ∙ key_read k.0) ∙ hits_same k.0 left

      go : (b : Bool) → (n == t.proposal.root) ≡ b → w ≡ key_loaded (if b then v else pinned v n) n k.0 → more ≡ (if b then pins else pins ++ n ∷ []) → IsTrying t start pool more w z
      go true is view same =
          subst (λ ps. IsTrying t start pool ps w z) (sym same) (subst (λ y. IsTrying t start pool pins y z) (sym view)
          (trying_on t start v (key_loaded v n k.0) pool pins pins s z h
          (reads_more t start v (key_loaded v n k.0) s z (seen.Key n k.0) h.reads refl (sym (append-nil v.misses)) read)
          (record { held = refl; rows = refl; number = refl; idle = λ e. e; makes = refl; changes = refl; difference = refl }) inner hits h.pinned h.count h.root_out))
      go false is view same =
          subst (λ ps. IsTrying t start pool ps w z) (sym same) (subst (λ y. IsTrying t start pool (pins ++ n ∷ []) y z) (sym view)
          (trying_on t start v (key_loaded (pinned v n) n k.0) pool pins (pins ++ n ∷ []) s z h
          (reads_more t start v (key_loaded (pinned v n) n k.0) s z (seen.Key n k.0) h.reads refl (sym (append-nil v.misses)) read)
          (record { held = refl; rows = refl; number = refl; idle = λ e. ap (only (differs n)) e; makes = refl; changes = refl; difference = refl }) inner hits
          (λ m. times_more m n v.pins pins (h.pinned m)) (ap suc h.count ∙ sym (length-append pins (n ∷ []) ∙ one (length pins))) (still_out t.proposal.root n pins h.root_out (λ e. let yes : (n == t.proposal.root) ≡ true = eq-eqb n t.proposal.root (sym e) in cc))))
        where
          one : (k : ℕ) → k + 1 ≡ suc k
          one k = omega arith

  -- one key less is left
  pub key_falls : (w : View) (more : List ℕ) (z : State) → IsKeying pins s → IsKeyed t n v pins s w more z → (keys_left z < keys_left s) × IsKeying more z
  key_falls w more z k i = (omega (arith, was, now), record { few = omega (arith, was, now, grows, k.few); past = subst IsPastWalk (sym next) (past_next left) })
    where
      next : z.stage ≡ (key_read_on s i.0 left).stage
      next = ap (λ (y : State). y.stage) (i.3 ∙ key_read i.0)

      was : keys_left s ≡ suc (length left)
      was = ap left_at stage

      left_next : (ns : List ℕ) → left_at (key_read_on s i.0 ns).stage ≡ length ns
      left_next [] = refl
      left_next (m ∷ ns) = refl

      past_next : (ns : List ℕ) → IsPastWalk (key_read_on s i.0 ns).stage
      past_next [] = tt
      past_next (m ∷ ns) = tt

      now : keys_left z ≡ length left
      now = ap left_at next ∙ left_next left

      pins_most : (b : Bool) → length (if b then pins else pins ++ n ∷ []) ≤ length pins + 1
      pins_most true = omega arith
      pins_most false = let e = length-append pins (n ∷ []) in omega (arith, e)

      grows : length more ≤ length pins + 1
      grows = subst (λ ps. length ps ≤ length pins + 1) (sym i.2) (pins_most (n == t.proposal.root))

-- no count comes with a key
pub key_uncounted : (t : Task) (v : View) (pins : List ℕ) (s : State) (n : ℕ) (left : List ℕ) → s.stage ≡ Keying (n ∷ left) → (w : View) (more : List ℕ) (z : State) → IsKeyed t n v pins s w more z → z.counts ≡ s.counts
key_uncounted t v pins s n left stage w more z k =
    ap (λ (y : State). y.counts) (k.3 ∙ (ap (λ g. read_at t s g (seen.Key n k.0)) stage ∙ ap (λ b. if b then key_read_on s k.0 left else failed s) (node_same n))) ∙ same left
  where
    same : (ns : List ℕ) → (key_read_on s k.0 ns).counts ≡ s.counts
    same [] = refl
    same (m ∷ ns) = refl

-- none is there while hints may stand
pub hinting_uncounted : (t : Task) (start v : View) (s : State) → IsOfReads t start v s → is_hinting s.stage ≡ true → s.counts ≡ []
hinting_uncounted t start v s o hinting = go s.stage (staged t start v s o) hinting
  where
    go : (stage : Stage) → IsStaged t s stage → is_hinting stage ≡ true → s.counts ≡ []
    go (Walking waiting) g e = absurd (cc)
    go (Keying left) g e = absurd (cc)
    go (Hinting last) g e = g.0
    go Counting g e = absurd (cc)
    go (Ended answer) g e = absurd (cc)
    go Failed g e = absurd (cc)

-- ---- counts
-- the first inner row that has no count, which is asked for
abbrev IsFirst : State → ℕ → Type 0
IsFirst s n = (row : NodeRow) × (left : List NodeRow) × (uncounted s ≡ row ∷ left) × (row.node ≡ n)

-- a stage at which counts are read
abbrev ReadsCounts : Stage → Type 0
ReadsCounts stage = (stage ≡ Counting) ⊎ ((last : Option NodeRow) × (stage ≡ Hinting last))

first_asked : (s : State) (n : ℕ) (rows : List NodeRow) → uncounted s ≡ rows → wanted_count rows ≡ Next (want.Count n) → IsFirst s n
first_asked s n [] u h = absurd (cc)
first_asked s n (r ∷ rows) u h = let same : r.node ≡ n = cc in (r, rows, u, same)

asks_count : (s : State) (stage : Stage) (n : ℕ) → wanted_at s stage ≡ Next (want.Count n) → IsFirst s n × ReadsCounts stage
asks_count s (Walking []) n e = absurd (cc)
asks_count s (Walking (m ∷ waiting)) n e = absurd (cc)
asks_count s (Keying []) n e = absurd (cc)
asks_count s (Keying (m ∷ left)) n e = absurd (cc)
asks_count s (Hinting last) n e = (first_asked s n (uncounted s) refl e, inr (last, refl))
asks_count s Counting n e = (first_asked s n (uncounted s) refl e, inl refl)
asks_count s (Ended answer) n e = absurd (cc)
asks_count s Failed n e = absurd (cc)

pub record IsCountAsked (s : State) (n : ℕ) : Type 0 where
  pub first : IsFirst s n
  pub stage : ReadsCounts s.stage

pub count_asked : (s : State) (n : ℕ) → wants s ≡ Next (want.Count n) → IsCountAsked s n
count_asked s n e = let a = asks_count s s.stage n e in record { first = a.0; stage = a.1 }

-- how many counts are left
abbrev pub tally_at : Stage → ℕ → ℕ
tally_at (Walking waiting) k = 0
tally_at (Keying left) k = 0
tally_at (Hinting last) k = k
tally_at Counting k = k
tally_at (Ended answer) k = 0
tally_at Failed k = 0

abbrev pub counts_left : State → ℕ
counts_left s = tally_at s.stage (length s.inner - length s.counts)

dropped_there : (k : ℕ) (rows left : List NodeRow) (r : NodeRow) → drop k rows ≡ r ∷ left → has_node (nodes_of rows) r.node ≡ true
dropped_there k [] left r e = absurd (none k e)
  where
    none : (k : ℕ) → drop k [] ≡ r ∷ left → ⊥
    none zero e = cc
    none (suc k) e = cc
dropped_there zero (q ∷ rows) left r e = let same : q ≡ r = cc in or_left (q.node == r.node) (has_node (nodes_of rows) r.node) (subst (λ (x : NodeRow). (q.node == x.node) ≡ true) same (node_same q.node))
dropped_there (suc k) (q ∷ rows) left r e = or_right (q.node == r.node) (has_node (nodes_of rows) r.node) (dropped_there k rows left r e)

dropped_less : (k : ℕ) (rows left : List NodeRow) (r : NodeRow) → drop k rows ≡ r ∷ left → k < length rows
dropped_less k [] left r e = absurd (none k e)
  where
    none : (k : ℕ) → drop k [] ≡ r ∷ left → ⊥
    none zero e = cc
    none (suc k) e = cc
dropped_less zero (q ∷ rows) left r e = omega arith
dropped_less (suc k) (q ∷ rows) left r e = let less = dropped_less k rows left r e in omega (arith, less)

-- no count, no counted row
pub none_counted : (inner : List NodeRow) → counted_of inner [] ≡ []
none_counted [] = refl
none_counted (r ∷ inner) = refl

-- one count more is one counted row more
counted_more : (inner : List NodeRow) (counts : List ℕ) (r : NodeRow) (left : List NodeRow) (c : ℕ) → drop (length counts) inner ≡ r ∷ left
    → counted_of inner (counts ++ c ∷ []) ≡ counted_of inner counts ++ (record { node = r.node; row = r.row; others = c }) ∷ []
counted_more [] [] r left c e = absurd (cc)
counted_more [] (x ∷ counts) r left c e = absurd (cc)
counted_more (q ∷ inner) [] r left c e = let same : q ≡ r = cc in subst (λ (y : NodeRow). counted_of (q ∷ inner) (c ∷ []) ≡ (record { node = y.node; row = y.row; others = c }) ∷ []) same (ap (λ rows. (record { node = q.node; row = q.row; others = c }) ∷ rows) (none_counted inner))
counted_more (q ∷ inner) (x ∷ counts) r left c e = ap (λ rows. (record { node = q.node; row = q.row; others = x }) ∷ rows) (counted_more inner counts r left c e)

pub none_loaded : (nodes : ℕ) (v : View) (s : State) → s.counts ≡ [] → CountsAreLoaded nodes v s
none_loaded nodes v s none = subst (λ (rows : List Counted). AllByRecursion (λ r. IsLoaded nodes v r.node (r.others + own_pins v r.node)) rows) (sym (ap (counted_of s.inner) none ∙ none_counted s.inner)) tt

module _ (t : Task) (start v : View) (pool pins : List ℕ) (s : State) (h : IsTrying t start pool pins v s) (n : ℕ) (a : IsCountAsked s n) where
  pub count_held : has_node v.held n ≡ true
  count_held =
      let there : has_node (nodes_of s.inner) n ≡ true = subst (λ k. has_node (nodes_of s.inner) k ≡ true) a.first.3 (dropped_there (length s.counts) s.inner a.first.1 a.first.0 a.first.2) in
      h.held n ∙ or_right (has_node pool n) (has_node (nodes_of s.inner) n || has_node (nodes_of s.hits) n) (or_left (has_node (nodes_of s.inner) n) (has_node (nodes_of s.hits) n) there)

  pub count_read : (count own : ℕ) → read_one t s (seen.Count n count own) ≡ count_on t (with_count s count own) a.first.1
  count_read count own =
      elim a.stage [
        | inl e ↦ ap (λ g. read_at t s g (seen.Count n count own)) e
        | inr e ↦ ap (λ g. read_at t s g (seen.Count n count own)) e.1
      ]
      ∙ (ap (λ rows. read_count t s rows n count own) a.first.2
      ∙ ap (λ b. if b then count_on t (with_count s count own) a.first.1 else failed s) (subst (λ k. (n == k) ≡ true) (sym a.first.3) (node_same n)))

  inner_counted : (y : State) (rows : List NodeRow) → (count_on t y rows).inner ≡ y.inner
  inner_counted y [] = refl
  inner_counted y (r ∷ rows) = refl

  hits_counted : (y : State) (rows : List NodeRow) → (count_on t y rows).hits ≡ y.hits
  hits_counted y [] = refl
  hits_counted y (r ∷ rows) = refl

  pub count_goes_on : (nodes : ℕ) (w : View) (z : State) → IsCounted t nodes n v s w z → IsTrying t start pool pins w z
  count_goes_on nodes w z k = subst (λ y. IsTrying t start pool pins y z) (sym k.1)
      (trying_on t start v (count_loaded nodes v n k.0) pool pins pins s z h
      (reads_more t start v (count_loaded nodes v n k.0) s z (seen.Count n k.0 (own_pins v n)) h.reads refl (sym (append-nil v.misses)) k.2)
      (record { held = refl; rows = refl; number = refl; idle = λ e. e; makes = refl; changes = refl; difference = refl })
      (ap (λ (y : State). y.inner) (k.2 ∙ count_read k.0 (own_pins v n)) ∙ inner_counted (with_count s k.0 (own_pins v n)) a.first.1)
      (ap (λ (y : State). y.hits) (k.2 ∙ count_read k.0 (own_pins v n)) ∙ hits_counted (with_count s k.0 (own_pins v n)) a.first.1) h.pinned h.count h.root_out)

  -- the counts stay loaded, with one more
  pub count_loads : (nodes : ℕ) (w : View) (z : State) → CountsAreLoaded nodes v s → IsCounted t nodes n v s w z → CountsAreLoaded nodes w z
  count_loads nodes w z old k = subst (λ y. CountsAreLoaded nodes y z) (sym k.1) (subst (λ (rows : List Counted). AllByRecursion at_count rows) (sym rows_now) (all_more (counted_of s.inner s.counts) kept here))
    where
      at_count : Counted → Type 0
      at_count r = IsLoaded nodes (count_loaded nodes v n k.0) r.node (r.others + own_pins v r.node)

      last : Counted
      last = record { node = a.first.0.node; row = a.first.0.row; others = k.0 - own_pins v n }

      here : at_count last
      here =
          let whole : k.0 ≡ k.0 - own_pins v n + own_pins v n = omega (arith, k.3) in
          let at_n : IsLoaded nodes (count_loaded nodes v n k.0) n (k.0 - own_pins v n + own_pins v n) = subst (IsLoaded nodes (count_loaded nodes v n k.0) n) whole (loaded_here nodes v n k.0 k.3) in
          subst (λ m. IsLoaded nodes (count_loaded nodes v n k.0) m (k.0 - own_pins v n + own_pins v m)) (sym a.first.3) at_n

      all_more : (rows : List Counted) → AllByRecursion at_count rows → at_count last → AllByRecursion at_count (rows ++ last ∷ [])
      all_more [] h p = (p, tt)
      all_more (q ∷ rows) h p = (h.0, all_more rows h.1 p)

      keep : (rows : List Counted) → AllByRecursion (λ r. IsLoaded nodes v r.node (r.others + own_pins v r.node)) rows → AllByRecursion at_count rows
      keep [] h = tt
      keep (q ∷ rows) h = (loaded_more nodes v q.node (q.others + own_pins v q.node) n k.0 h.0, keep rows h.1)

      kept : AllByRecursion at_count (counted_of s.inner s.counts)
      kept = keep (counted_of s.inner s.counts) old

      counts_on : (y : State) (rows : List NodeRow) → (count_on t y rows).counts ≡ y.counts
      counts_on y [] = refl
      counts_on y (r ∷ rows) = refl

      is : z ≡ count_on t (with_count s k.0 (own_pins v n)) a.first.1
      is = k.2 ∙ count_read k.0 (own_pins v n)

      rows_now : counted_of z.inner z.counts ≡ counted_of s.inner s.counts ++ last ∷ []
      rows_now =
          ap (λ rows. counted_of rows z.counts) (ap (λ (y : State). y.inner) is ∙ inner_counted (with_count s k.0 (own_pins v n)) a.first.1)
          ∙ (ap (λ cs. counted_of s.inner cs) (ap (λ (y : State). y.counts) is ∙ counts_on (with_count s k.0 (own_pins v n)) a.first.1)
          ∙ counted_more s.inner s.counts a.first.0 a.first.1 (k.0 - own_pins v n) a.first.2)

  -- one count less is left
  pub count_falls : (nodes : ℕ) (w : View) (z : State) → IsCounted t nodes n v s w z → (counts_left z < counts_left s) × IsPastKeys z.stage
  count_falls nodes w z k = subst (λ (y : State). (counts_left y < counts_left s) × IsPastKeys y.stage) (sym (k.2 ∙ count_read k.0 (own_pins v n))) (go a.first.1)
    where
      less : length s.counts < length s.inner
      less = dropped_less (length s.counts) s.inner a.first.1 a.first.0 a.first.2

      was : counts_left s ≡ length s.inner - length s.counts
      was = elim a.stage [ inl e ↦ ap (λ g. tally_at g (length s.inner - length s.counts)) e | inr e ↦ ap (λ g. tally_at g (length s.inner - length s.counts)) e.1 ]

      one : (x : ℕ) → length (s.counts ++ x ∷ []) ≡ length s.counts + 1
      one x = length-append s.counts (x ∷ [])

      go : (rows : List NodeRow) → (counts_left (count_on t (with_count s k.0 (own_pins v n)) rows) < counts_left s) × IsPastKeys (count_on t (with_count s k.0 (own_pins v n)) rows).stage
      go [] = (omega (arith, was, less), tt)
      go (r ∷ rows) = let size = one (k.0 - own_pins v n) in (omega (arith, was, less, size), tt)

-- when no count is asked for any more, the answer stands
pub counting_ends : (t : Task) (start v : View) (s : State) → IsOfReads t start v s → IsPastKeys s.stage → ((n : ℕ) → wants s ≡ Next (want.Count n) → ⊥) → HasEnded s.stage
counting_ends t start v s o past none = go s.stage (staged t start v s o) past none
  where
    asked : (k : ℕ) (rows : List NodeRow) → k < length rows → ((n : ℕ) → wanted_count (drop k rows) ≡ Next (want.Count n) → ⊥) → ⊥
    asked k [] l f = omega (arith, l)
    asked zero (r ∷ rows) l f = f r.node refl
    asked (suc k) (r ∷ rows) l f = asked k rows (omega (arith, l)) f

    go : (stage : Stage) → IsStaged t s stage → IsPastKeys stage → ((n : ℕ) → wanted_at s stage ≡ Next (want.Count n) → ⊥) → HasEnded stage
    go (Walking waiting) g p f = absurd p
    go (Keying left) g p f = absurd p
    go (Hinting last) g p f = absurd (asked (length s.counts) s.inner g.1 f)
    go Counting g p f = absurd (asked (length s.counts) s.inner g f)
    go (Ended answer) g p f = (answer, refl)
    go Failed g p f = absurd p
