-- What a commit keeps on its way through hints.
use Rattle.std.proofs.Common.{◌≡◌, ◌≢◌, ℕ, suc, ◌+◌, ◌==◌, ◌||◌, not, Bool, true, false, List, [], ◌∷◌, ◌++◌, length, Some, None, refl, sym, ap, ◌∙◌, subst, arith, inl, inr, append-nil, append_assoc, length-append}
use Rattle.std.proofs.lemmas.Bool.{cases_eq, ne_eqb, or_left, or_right}
use Rattle.syn_rows.specs.declared.Row.{Row}
use Rattle.syn_rows.specs.declared.Row.TheVariants.{Free, Source, And, Alias}
use Rattle.syn_rows.specs.Rows.{is_derived}
use Rattle.syn_rows.specs.Nodes.{has_node}
use Rattle.syn_rows.specs.References.{hits, times}
use Rattle.syn_rows.proofs.Nodes.{has_node-append, node_same, same_node}
use Rattle.syn_core_laws.specs.declared.View.{View}
use Rattle.syn_core_laws.specs.declared.Seen.{Seen}
use Rattle.syn_core_laws.specs.declared.Seen.TheVariants as seen
use Rattle.syn_core_laws.specs.Events.{MayPin}
use Rattle.syn_core_laws.specs.Lists.{only}
use Rattle.syn_core_laws.specs.Views.{claimed, differs, known_row, missed, pinned, released}
use Rattle.syn_core_laws.proofs.Counting.{times_append}
use Rattle.syn_core_laws.proofs.Listing.{look_kept}
use Rattle.syn_decide.specs.declared.decisions.NodeRow.{NodeRow}
use Rattle.syn_decide.specs.Tasks.{Task}
use Rattle.syn_decide.specs.Walk.{nodes_of}
use Rattle.syn_decide.specs.Walked.{AreGates}
use Rattle.syn_decide.specs.Fold.{State, Hinting, after_reads, at, begin, is_hinting, placed_now, read_at, read_one}
use Rattle.syn_decide.specs.Hints.{is_asked}
use Rattle.syn_decide.proofs.Walking.{node_row, nodes_more}
use Rattle.syn_commit.specs.Pools.{found_claimed}
use Rattle.syn_commit.specs.Walks.{AreKnown, IsOfReads}
use Rattle.syn_commit.specs.Stages.{IsTrying}
use Rattle.syn_commit.specs.Hinted.{IsHint, IsHinting, IsOpen, hits_after}
use Rattle.syn_commit.proofs.Trying.{claimed_append, held_stays}
use Rattle.syn_commit.proofs.Entering.{known_more, reads_more}
use Rattle.syn_commit.proofs.Loads.{still_out}
use Rattle.syn_commit.proofs.Meeting.{hinting_at}

-- ---- reads, one part behind the other
pub after_append : (t : Task) (s : State) (met more : List Seen) → after_reads t s (met ++ more) ≡ after_reads t (after_reads t s met) more
after_append t s [] more = refl
after_append t s (x ∷ met) more = after_append t (read_one t s x) met more

reads_on : (t : Task) (start v w : View) (s z : State) (met : List Seen) → IsOfReads t start v s → w.reads ≡ v.reads ++ met → w.misses ≡ v.misses → found_claimed met ≡ [] → z ≡ after_reads t s met → IsOfReads t start w z
reads_on t start v w s z met o reads misses none state = record {
  met = o.met ++ met;
  reads = reads ∙ (ap (λ rs. rs ++ met) o.reads ∙ append_assoc start.reads o.met met);
  misses = misses ∙ (o.misses ∙ ap (λ ns. start.misses ++ ns) (sym (claimed_append o.met met ∙ (ap (λ ns. found_claimed o.met ++ ns) none ∙ append-nil (found_claimed o.met)))));
  state = state ∙ (ap (λ y. after_reads t y met) o.state ∙ sym (after_append t (begin t) o.met met));
}

-- ---- rows that stay known
known_up : (v w : View) (rows : List NodeRow) → ((m : ℕ) (r : Row) → has_node (nodes_of rows) m ≡ true → known_row v m ≡ Some r → known_row w m ≡ Some r) → AreKnown v rows → AreKnown w rows
known_up v w [] up k = tt
known_up v w (r ∷ rows) up k = (
  up r.node r.row (or_left (r.node == r.node) (has_node (nodes_of rows) r.node) (node_same r.node)) k.0,
  known_up v w rows (λ m q there. up m q (or_right (r.node == m) (has_node (nodes_of rows) m) there)) k.1,
)

gates_more : (rows : List NodeRow) (r : NodeRow) → AreGates rows → is_derived r.row ≡ true → AreGates (rows ++ r ∷ [])
gates_more [] r g d = (d, tt)
gates_more (q ∷ rows) r g d = (g.0, gates_more rows r g.1 d)

-- what is asked for is an AND
asked_and : (extra : List Row) (pair : Row) → is_asked extra pair ≡ true → is_derived pair ≡ true
asked_and extra Free h = absurd (cc)
asked_and extra Source h = absurd (cc)
asked_and extra (And a b) h = refl
asked_and extra (Alias a) h = absurd (cc)

has_more : (rows : List NodeRow) (n : ℕ) (pair : Row) (m : ℕ) → has_node (nodes_of (rows ++ node_row n pair ∷ [])) m ≡ (has_node (nodes_of rows) m || ((n == m) || false))
has_more rows n pair m = ap (λ ns. has_node ns m) (nodes_more rows (node_row n pair)) ∙ has_node-append (nodes_of rows) (n ∷ []) m

times_one_more : (m n : ℕ) (ps qs : List ℕ) → times m ps ≡ times m qs → times m (n ∷ ps) ≡ times m (qs ++ n ∷ [])
times_one_more m n ps qs e = let a = times_append m qs (n ∷ []) in omega (arith, a, e)

-- the pin of a hit
pub hit_may : (t : Task) (s : State) (n : ℕ) (pair : Row) (w : View) → IsOpen t s pair → known_row w n ≡ Some pair → MayPin w n
hit_may t s n pair w open_now known = inl (inl (pair, known, used))
  where
    used : pair ≢ Free
    used e = let yes = asked_and (placed_now t s).extra pair open_now.asked in let no : is_derived pair ≡ false = ap is_derived e in cc

module _ (t : Task) (start v : View) (pool pins : List ℕ) (s : State) (h : IsTrying t start pool pins v s) (n : ℕ) (pair : Row) (open_now : IsOpen t s pair) where
  -- a hit, by what the view before its pin keeps
  hit_on : (w : View) (z : State) → IsOfReads t start w z → z.inner ≡ s.inner → z.hits ≡ s.hits ++ node_row n pair ∷ [] → is_hinting z.stage ≡ true → known_row w n ≡ Some pair
      → ((m : ℕ) → has_node v.held m ≡ true → has_node w.held m ≡ true)
      → ((m : ℕ) (r : Row) → has_node v.held m ≡ true → known_row v m ≡ Some r → known_row w m ≡ Some r)
      → ((m : ℕ) → has_node w.held m ≡ (has_node pool m || (has_node (nodes_of s.inner) m || (has_node (nodes_of s.hits) m || ((n == m) || false)))))
      → w.pins ≡ v.pins → w.idle ≡ v.idle → w.number ≡ v.number → w.makes ≡ v.makes → w.changes ≡ v.changes → w.difference ≡ v.difference → n ≢ t.proposal.root
      → IsHinting t start pool (pins ++ n ∷ []) (pinned w n) z
  hit_on w z reads inner hits stage own holds up held pins_same idle number makes changes difference no_root = record {
    stage = stage;
    trying = record {
      reads = record { met = reads.met; reads = reads.reads; misses = reads.misses; state = reads.state };
      spare = record {
        distinct = h.spare.distinct;
        held = λ m there. holds m (h.spare.held m there);
        free = λ m there. up m Free (h.spare.held m there) (h.spare.free m there);
      };
      held = λ m. held m ∙ sym (ap (λ rows. has_node pool m || (has_node (nodes_of rows) m || has_node (nodes_of z.hits) m)) inner
          ∙ ap (λ b. has_node pool m || (has_node (nodes_of s.inner) m || b)) (ap (λ rows. has_node (nodes_of rows) m) hits ∙ has_more s.hits n pair m));
      inner = subst (AreKnown (pinned w n)) (sym inner) (known_up v (pinned w n) s.inner (λ m r there k. up m r (inner_held m there) k) h.inner);
      hits = subst (AreKnown (pinned w n)) (sym hits) (known_more (pinned w n) s.hits (node_row n pair) (known_up v (pinned w n) s.hits (λ m r there k. up m r (hits_held m there) k) h.hits) own);
      gates = subst AreGates (sym hits) (gates_more s.hits (node_row n pair) h.gates (asked_and (placed_now t s).extra pair open_now.asked));
      apart = ap (λ rows. has_node (nodes_of rows) t.proposal.root) hits ∙ (has_more s.hits n pair t.proposal.root
          ∙ (ap (λ b. has_node (nodes_of s.hits) t.proposal.root || (b || false)) (ne_eqb n t.proposal.root no_root) ∙ ap (λ b. b || false) h.apart));
      root_out = still_out t.proposal.root n pins h.root_out (λ e. no_root (sym e));
      pinned = λ m. times_one_more m n w.pins pins (ap (λ ps. times m ps) pins_same ∙ h.pinned m);
      count = ap (λ ps. suc (length ps)) pins_same ∙ (ap suc h.count ∙ sym (length-append pins (n ∷ []) ∙ one (length pins)));
      number = number ∙ h.number;
      idle = ap (λ ns. only (differs n) ns) (idle ∙ h.idle);
      makes = makes ∙ h.makes;
      changes = changes ∙ h.changes;
      difference = difference ∙ h.difference;
    };
  }
    where
      one : (k : ℕ) → k + 1 ≡ suc k
      one k = omega arith

      inner_held : (m : ℕ) → has_node (nodes_of s.inner) m ≡ true → has_node v.held m ≡ true
      inner_held m there = h.held m ∙ or_right (has_node pool m) (has_node (nodes_of s.inner) m || has_node (nodes_of s.hits) m) (or_left (has_node (nodes_of s.inner) m) (has_node (nodes_of s.hits) m) there)

      hits_held : (m : ℕ) → has_node (nodes_of s.hits) m ≡ true → has_node v.held m ≡ true
      hits_held m there = h.held m ∙ or_right (has_node pool m) (has_node (nodes_of s.inner) m || has_node (nodes_of s.hits) m) (or_right (has_node (nodes_of s.inner) m) (has_node (nodes_of s.hits) m) there)

  -- no hit, by what the view keeps
  miss_on : (w : View) (z : State) → IsOfReads t start w z → z.inner ≡ s.inner → z.hits ≡ s.hits → is_hinting z.stage ≡ true
      → ((m : ℕ) (r : Row) → has_node v.held m ≡ true → known_row v m ≡ Some r → known_row w m ≡ Some r)
      → ((m : ℕ) → has_node w.held m ≡ has_node v.held m) → w.pins ≡ v.pins → w.idle ≡ v.idle → w.number ≡ v.number → w.makes ≡ v.makes → w.changes ≡ v.changes → w.difference ≡ v.difference
      → IsHinting t start pool pins w z
  miss_on w z reads inner hits stage up held pins_same idle number makes changes difference = record {
    stage = stage;
    trying = record {
      reads = reads;
      spare = record {
        distinct = h.spare.distinct;
        held = λ m there. held m ∙ h.spare.held m there;
        free = λ m there. up m Free (h.spare.held m there) (h.spare.free m there);
      };
      held = λ m. held m ∙ (h.held m ∙ sym (ap (λ rows. has_node pool m || (has_node (nodes_of rows) m || has_node (nodes_of z.hits) m)) inner
          ∙ ap (λ rows. has_node pool m || (has_node (nodes_of s.inner) m || has_node (nodes_of rows) m)) hits));
      inner = subst (AreKnown w) (sym inner) (known_up v w s.inner (λ m r there k. up m r (inner_held m there) k) h.inner);
      hits = subst (AreKnown w) (sym hits) (known_up v w s.hits (λ m r there k. up m r (hits_held m there) k) h.hits);
      gates = subst AreGates (sym hits) h.gates;
      apart = ap (λ rows. has_node (nodes_of rows) t.proposal.root) hits ∙ h.apart;
      root_out = h.root_out;
      pinned = λ m. ap (λ ps. times m ps) pins_same ∙ h.pinned m;
      count = ap length pins_same ∙ h.count;
      number = number ∙ h.number;
      idle = idle ∙ h.idle;
      makes = makes ∙ h.makes;
      changes = changes ∙ h.changes;
      difference = difference ∙ h.difference;
    };
  }
    where
      inner_held : (m : ℕ) → has_node (nodes_of s.inner) m ≡ true → has_node v.held m ≡ true
      inner_held m there = h.held m ∙ or_right (has_node pool m) (has_node (nodes_of s.inner) m || has_node (nodes_of s.hits) m) (or_left (has_node (nodes_of s.inner) m) (has_node (nodes_of s.hits) m) there)

      hits_held : (m : ℕ) → has_node (nodes_of s.hits) m ≡ true → has_node v.held m ≡ true
      hits_held m there = h.held m ∙ or_right (has_node pool m) (has_node (nodes_of s.inner) m || has_node (nodes_of s.hits) m) (or_right (has_node (nodes_of s.inner) m) (has_node (nodes_of s.hits) m) there)

  -- ---- at an inner row's node, which is held
  held_up : (w : View) (z : State) (hit : Bool) → IsHint t n pair v s w z hit → (m : ℕ) (r : Row) → known_row v m ≡ Some r → known_row w m ≡ Some r
  held_up w z hit i m r k = elim (cases_eq m n) [
    | inl same ↦ subst (λ x. known_row w x ≡ Some r) (sym same) (i.again r (ap (known_row v) (sym same) ∙ k))
    | inr ne ↦ i.others m ne ∙ k
  ]

  pub held_misses : (w : View) (z : State) (hit : Bool) → hit ≡ false → IsHint t n pair v s w z hit → IsHinting t start pool pins w z
  held_misses w z hit is i =
      miss_on w z (reads_on t start v w s z i.met h.reads i.reads i.misses i.claims i.state) i.inner (i.hits ∙ ap (hits_after s.hits n pair) is) i.stage (λ m r there k. held_up w z hit i m r k)
      (λ m. ap (λ ns. has_node ns m) i.held) i.pins i.idle i.number i.makes i.changes i.difference

  pub held_hits : (w : View) (z : State) (hit : Bool) → hit ≡ true → n ≢ t.proposal.root → has_node (nodes_of s.inner) n ≡ true → IsHint t n pair v s w z hit → IsHinting t start pool (pins ++ n ∷ []) (pinned w n) z
  held_hits w z hit is no_root inner i =
      hit_on w z (reads_on t start v w s z i.met h.reads i.reads i.misses i.claims i.state) i.inner (i.hits ∙ ap (hits_after s.hits n pair) is) i.stage (i.own is)
      (λ m there. ap (λ ns. has_node ns m) i.held ∙ there) (λ m r there k. held_up w z hit i m r k)
      (λ m. ap (λ ns. has_node ns m) i.held ∙ (h.held m ∙ ap (λ b. has_node pool m || b) (absorbs m (n == m) refl))) i.pins i.idle i.number i.makes i.changes i.difference no_root
    where
      absorbs : (m : ℕ) (b : Bool) → (n == m) ≡ b → (has_node (nodes_of s.inner) m || has_node (nodes_of s.hits) m) ≡ (has_node (nodes_of s.inner) m || (has_node (nodes_of s.hits) m || (b || false)))
      absorbs m true e = go (has_node (nodes_of s.inner) m) (has_node (nodes_of s.hits) m) (subst (λ k. has_node (nodes_of s.inner) k ≡ true) (same_node n m e) inner)
        where
          go : (a c : Bool) → a ≡ true → (a || c) ≡ (a || (c || true))
          go true c f = refl
          go false c f = absurd (cc)
      absorbs m false e = go (has_node (nodes_of s.inner) m) (has_node (nodes_of s.hits) m)
        where
          go : (a c : Bool) → (a || c) ≡ (a || (c || false))
          go true c = refl
          go false true = refl
          go false false = refl

  -- ---- at another node
  module _ (none : has_node v.held n ≡ false) where
    not_it : (m : ℕ) → has_node v.held m ≡ true → m ≢ n
    not_it m there same = let yes : has_node v.held n ≡ true = subst (λ k. has_node v.held k ≡ true) same there in cc

    pub other_missed : (z : State) → z ≡ read_one t s (seen.Miss n) → IsHinting t start pool pins (missed v n) z
    other_missed z e =
        let stage = hinting_at s.stage open_now.stage in
        let now : z ≡ at s (Hinting None) = e ∙ ap (λ g. read_at t s g (seen.Miss n)) stage.1 in
        miss_on (missed v n) z (reads_more t start v (missed v n) s z (seen.Miss n) h.reads refl refl e) (ap (λ (y : State). y.inner) now) (ap (λ (y : State). y.hits) now) (ap (λ (y : State). is_hinting y.stage) now)
        (λ m r there k. k) (λ m. refl) refl refl refl refl refl refl

    pub other_misses : (w : View) (z : State) (hit : Bool) → hit ≡ false → IsHint t n pair (claimed v n) s w z hit → IsHinting t start pool pins (released w n) z
    other_misses w z hit is i =
        miss_on (released w n) z (let o = reads_on t start v w s z i.met h.reads i.reads i.misses i.claims i.state in record { met = o.met; reads = o.reads; misses = o.misses; state = o.state }) i.inner (i.hits ∙ ap (hits_after s.hits n pair) is) i.stage
        (λ m r there k. look_kept (differs n) m w.rows (ap not (ne_eqb m n (not_it m there))) ∙ (i.others m (not_it m there) ∙ k))
        (λ m. ap (λ ns. has_node (only (differs n) ns) m) i.held ∙ held_stays v n pool none h.spare m) i.pins i.idle i.number i.makes i.changes i.difference

    pub other_hits : (w : View) (z : State) (hit : Bool) → hit ≡ true → n ≢ t.proposal.root → IsHint t n pair (claimed v n) s w z hit → IsHinting t start pool (pins ++ n ∷ []) (pinned w n) z
    other_hits w z hit is no_root i =
        hit_on w z (reads_on t start v w s z i.met h.reads i.reads i.misses i.claims i.state) i.inner (i.hits ∙ ap (hits_after s.hits n pair) is) i.stage (i.own is)
        (λ m there. ap (λ ns. has_node ns m) i.held ∙ or_right (n == m) (has_node v.held m) there) (λ m r there k. i.others m (not_it m there) ∙ k)
        (λ m. ap (λ ns. has_node ns m) i.held ∙ (ap (λ b. (n == m) || b) (h.held m) ∙ swap (n == m) (has_node pool m) (has_node (nodes_of s.inner) m) (has_node (nodes_of s.hits) m))) i.pins i.idle i.number i.makes i.changes i.difference no_root
      where
        swap : (a p i h : Bool) → (a || (p || (i || h))) ≡ (p || (i || (h || (a || false))))
        swap true true i h = refl
        swap true false true h = refl
        swap true false false true = refl
        swap true false false false = refl
        swap false true i h = refl
        swap false false true h = refl
        swap false false false true = refl
        swap false false false false = refl
