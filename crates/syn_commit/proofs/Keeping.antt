-- Hints and counts keep the keys: that of each pinned node is known and low enough, and the root's is known.
use Rattle.std.proofs.Common.{◌≡◌, ◌≢◌, ◌⊎◌, ℕ, ◌+◌, ◌-◌, ◌≤◌, ◌==◌, nat_le, nat_lt, Bool, true, false, if◌then◌else◌, List, [], ◌∷◌, ◌++◌, length, Some, None, refl, sym, ap, ◌∙◌, subst, arith, inl, inr}
use Rattle.std.proofs.lemmas.Bool.{or_cases, or_left, or_right}
use Rattle.syn_rows.specs.declared.Row.{Row}
use Rattle.syn_rows.specs.Nodes.{has_node}
use Rattle.syn_rows.proofs.Nodes.{has_cases, has_left, has_one, has_right, has_there}
use Rattle.syn_core_laws.specs.declared.View.{View}
use Rattle.syn_core_laws.specs.declared.Seen.TheVariants as seen
use Rattle.syn_core_laws.specs.Lists.{look, only}
use Rattle.syn_core_laws.specs.Shown.{IsShown}
use Rattle.syn_core_laws.specs.Views.{claimed, count_loaded, differs, is_mine, known_key, missed, own_pins, pinned, released}
use Rattle.syn_core_laws.proofs.Listing.{look_kept}
use Rattle.syn_decide.specs.declared.decisions.NodeRow.{NodeRow}
use Rattle.syn_decide.specs.Tasks.{Task}
use Rattle.syn_decide.specs.Functions.{used_leaves}
use Rattle.syn_decide.specs.Walk.{nodes_of}
use Rattle.syn_decide.specs.Decided.{Done, NoGain, NoGap, NoRoom}
use Rattle.syn_decide.specs.Fold.{State, Hinting, at, concluded, count_on, freed_by, is_hinting, least_gain, placed_now, read_at, read_one, with_count}
use Rattle.syn_decide.specs.Hints.{rows_needed}
use Rattle.syn_decide.proofs.Walking.{node_row, nodes_more}
use Rattle.syn_commit.specs.Hinted.{IsHint, hits_after}
use Rattle.syn_commit.specs.Keyed.{AreAllKeyed, IsKeyedSoFar, KeyAtMost, KeyedAfter, KeyedAt}
use Rattle.syn_commit.specs.Stages.{IsCounted, IsTrying}
use Rattle.syn_commit.proofs.Loads.{IsCountAsked, count_read}
use Rattle.syn_commit.proofs.Meeting.{hinting_at}
use Rattle.syn_commit.proofs.Returning.{used_is_leaf}
use Rattle.syn_commit.proofs.Trying.{has_other}

-- ---- hints
-- a known key stays known while another node is claimed and let go again
key_after : (nodes : ℕ) (v w : View) (n m k : ℕ) → IsShown nodes v → m ≢ n → w.held ≡ n ∷ v.held → w.pins ≡ v.pins → known_key w m ≡ known_key v m → known_key v m ≡ Some k → known_key (released w n) m ≡ Some k
key_after nodes v w n m k shown ne held pins same known = go (m == 0) same known
  where
    mine : is_mine v m ≡ true → is_mine (released w n) m ≡ true
    mine own = elim (or_cases (has_node v.held m) (has_node v.pins m) own) [
      | inl there ↦ or_left (has_node (only (differs n) w.held) m) (has_node w.pins m) (ap (λ ns. has_node (only (differs n) ns) m) held ∙ (has_other (n ∷ v.held) n m ne ∙ has_there n m v.held there))
      | inr pin ↦ or_right (has_node (only (differs n) w.held) m) (has_node w.pins m) (ap (λ ns. has_node ns m) pins ∙ pin)
    ]

    go : (b : Bool) → (if b then Some 0 else look m w.keys) ≡ (if b then Some 0 else look m v.keys) → (if b then Some 0 else look m v.keys) ≡ Some k → (if b then Some 0 else look m (released w n).keys) ≡ Some k
    go true s e = e
    go false s e = look_kept (is_mine (released w n)) m w.keys (mine (shown.keys m k e)) ∙ (s ∙ e)

-- a failed claim leaves the hits
pub missed_hits : (t : Task) (s z : State) (n : ℕ) → is_hinting s.stage ≡ true → z ≡ read_one t s (seen.Miss n) → z.hits ≡ s.hits
missed_hits t s z n hinting e =
    let h = hinting_at s.stage hinting in
    let now : z ≡ at s (Hinting None) = e ∙ ap (λ g. read_at t s g (seen.Miss n)) h.1 in
    ap (λ (y : State). y.hits) now

-- so does a node that is no hit
pub no_hit : (t : Task) (n : ℕ) (pair : Row) (v w : View) (s z : State) (hit : Bool) → hit ≡ false → IsHint t n pair v s w z hit → z.hits ≡ s.hits
no_hit t n pair v w s z hit e h = h.hits ∙ ap (hits_after s.hits n pair) e

-- a node that is neither a leaf nor a hit isn't pinned
pub not_pinned : (t : Task) (pins : List ℕ) (v : View) (s : State) (n : ℕ) → IsKeyedSoFar t pins v s → has_node t.proposal.leaves n ≡ false → has_node (nodes_of s.hits) n ≡ false → has_node pins n ≡ false
not_pinned t pins v s n k no_leaf no_hit = go (has_node pins n) refl
  where
    go : (b : Bool) → has_node pins n ≡ b → b ≡ false
    go true e = elim (k.only n e) [ inl used ↦ absurd (let yes = used_is_leaf t 0 t.proposal.leaves n used in cc) | inr hit ↦ absurd (cc) ]
    go false e = refl

-- what is known of each other node's key stays so
abbrev KeepsOthers : ℕ → View → View → Type 0
KeepsOthers n v w = (m k : ℕ) → m ≢ n → known_key v m ≡ Some k → known_key w m ≡ Some k

module _ (t : Task) (pins : List ℕ) (v : View) (s : State) (k : IsKeyedSoFar t pins v s) (hinting : is_hinting s.stage ≡ true) (n : ℕ) (free : has_node pins n ≡ false) (no_root : n ≢ t.proposal.root) where
  all_keyed : AreAllKeyed t pins v s
  all_keyed = let h = hinting_at s.stage hinting in subst (KeyedAt t pins v s) h.1 k.stage

  other : (m : ℕ) → has_node pins m ≡ true → m ≢ n
  other m there same = let yes : has_node pins n ≡ true = subst (λ x. has_node pins x ≡ true) same there in cc

  root_known : (w : View) (z : State) → z.high ≡ s.high → KeepsOthers n v w → known_key w t.proposal.root ≡ Some z.high
  root_known w z high keeps = keeps t.proposal.root s.high (λ e. no_root (sym e)) all_keyed.root ∙ ap Some (sym high)

  below : (w : View) (z : State) → s.low ≤ z.low → KeepsOthers n v w → (m : ℕ) → has_node pins m ≡ true → KeyAtMost w z.low m
  below w z low keeps m there = let x = k.keys m there in (x.0, keeps m x.0 (other m there) x.1, omega (arith, x.2, low))

  -- no hit
  miss_keyed : (w : View) (z : State) → is_hinting z.stage ≡ true → z.hits ≡ s.hits → s.low ≤ z.low → z.high ≡ s.high → KeepsOthers n v w → IsKeyedSoFar t pins w z
  miss_keyed w z stage hits low high keeps = record {
    keys = below w z low keeps;
    only = λ m there. subst (λ rows. (has_node (used_leaves t) m ≡ true) ⊎ (has_node (nodes_of rows) m ≡ true)) (sym hits) (k.only m there);
    hits = λ m there. k.hits m (subst (λ rows. has_node (nodes_of rows) m ≡ true) hits there);
    stage = let h = hinting_at z.stage stage in let all : AreAllKeyed t pins w z = record { leaves = all_keyed.leaves; root = root_known w z high keeps } in subst (KeyedAt t pins w z) (sym h.1) all;
  }

  -- a hit, which is pinned
  hit_keyed : (w : View) (z : State) (pair : Row) → is_hinting z.stage ≡ true → z.hits ≡ s.hits ++ node_row n pair ∷ [] → s.low ≤ z.low → z.high ≡ s.high → KeepsOthers n v w → KeyAtMost w z.low n → IsKeyedSoFar t (pins ++ n ∷ []) w z
  hit_keyed w z pair stage hits low high keeps own = record {
    keys = λ m there. elim (has_cases pins (n ∷ []) m there) [ inl old ↦ below w z low keeps m old | inr new ↦ subst (KeyAtMost w z.low) (has_one n m new) own ];
    only = λ m there. elim (has_cases pins (n ∷ []) m there) [
      | inl old ↦ elim (k.only m old) [ inl used ↦ inl used | inr hit ↦ inr (in_hits m ∙ has_left (nodes_of s.hits) (n ∷ []) m hit) ]
      | inr new ↦ inr (in_hits m ∙ has_right (nodes_of s.hits) (n ∷ []) m new)
    ];
    hits = λ m there. elim (has_cases (nodes_of s.hits) (n ∷ []) m (sym (in_hits m) ∙ there)) [ inl old ↦ has_left pins (n ∷ []) m (k.hits m old) | inr new ↦ has_right pins (n ∷ []) m new ];
    stage = let h = hinting_at z.stage stage in let all : AreAllKeyed t (pins ++ n ∷ []) w z = record { leaves = λ m used. has_left pins (n ∷ []) m (all_keyed.leaves m used); root = root_known w z high keeps } in
        subst (KeyedAt t (pins ++ n ∷ []) w z) (sym h.1) all;
  }
    where
      in_hits : (m : ℕ) → has_node (nodes_of z.hits) m ≡ has_node (nodes_of s.hits ++ n ∷ []) m
      in_hits m = ap (λ rows. has_node (nodes_of rows) m) hits ∙ ap (λ ns. has_node ns m) (nodes_more s.hits (node_row n pair))

  -- a failed claim
  pub claim_misses : (z : State) → z ≡ read_one t s (seen.Miss n) → IsKeyedSoFar t pins (missed v n) z
  claim_misses z e =
      let h = hinting_at s.stage hinting in
      let now : z ≡ at s (Hinting None) = e ∙ ap (λ g. read_at t s g (seen.Miss n)) h.1 in
      miss_keyed (missed v n) z (ap (λ (y : State). is_hinting y.stage) now) (ap (λ (y : State). y.hits) now) (subst (λ (y : State). s.low ≤ y.low) (sym now) (omega arith)) (ap (λ (y : State). y.high) now) (λ m x ne e. e)

  module _ (pair : Row) (w : View) (z : State) (hit : Bool) where
    -- at a node that was held before
    pub held_misses_keyed : hit ≡ false → IsHint t n pair v s w z hit → IsKeyedSoFar t pins w z
    held_misses_keyed is i = miss_keyed w z i.stage (i.hits ∙ ap (hits_after s.hits n pair) is) i.low i.high (λ m x ne e. i.keys m ne ∙ e)

    pub held_hits_keyed : hit ≡ true → IsHint t n pair v s w z hit → IsKeyedSoFar t (pins ++ n ∷ []) (pinned w n) z
    held_hits_keyed is i = let own = i.key is in hit_keyed (pinned w n) z pair i.stage (i.hits ∙ ap (hits_after s.hits n pair) is) i.low i.high (λ m x ne e. i.keys m ne ∙ e) (own.0, own.1, own.2)

    -- at a node that was claimed for the hint
    pub other_misses_keyed : (nodes : ℕ) → IsShown nodes v → hit ≡ false → IsHint t n pair (claimed v n) s w z hit → IsKeyedSoFar t pins (released w n) z
    other_misses_keyed nodes shown is i = miss_keyed (released w n) z i.stage (i.hits ∙ ap (hits_after s.hits n pair) is) i.low i.high (λ m x ne e. key_after nodes v w n m x shown ne i.held i.pins (i.keys m ne) e)

    pub other_hits_keyed : hit ≡ true → IsHint t n pair (claimed v n) s w z hit → IsKeyedSoFar t (pins ++ n ∷ []) (pinned w n) z
    other_hits_keyed is i = let own = i.key is in hit_keyed (pinned w n) z pair i.stage (i.hits ∙ ap (hits_after s.hits n pair) is) i.low i.high (λ m x ne e. i.keys m ne ∙ e) (own.0, own.1, own.2)

-- ---- counts
-- behind the counts all keys are loaded, whatever is concluded
by_tests : (t : Task) (pins : List ℕ) (w : View) (z : State) → AreAllKeyed t pins w z → (a b c : Bool) (gain need have freed added node low high : ℕ)
    → KeyedAfter t pins w z (if a then (if b then (if c then NoRoom need have else Done gain) else NoGap node low need high) else NoGain freed added)
by_tests t pins w z all true true true gain need have freed added node low high = all
by_tests t pins w z all true true false gain need have freed added node low high = all
by_tests t pins w z all true false c gain need have freed added node low high = all
by_tests t pins w z all false b c gain need have freed added node low high = all

concluded_keyed : (t : Task) (pins : List ℕ) (w : View) (z : State) → AreAllKeyed t pins w z → (y : State) → KeyedAfter t pins w z (concluded t y)
concluded_keyed t pins w z all y =
    by_tests t pins w z all (nat_le (length (placed_now t y).extra + least_gain t) (freed_by y.inner y.hits y.counts)) (nat_lt (y.low + rows_needed t (placed_now t y)) y.high) (nat_lt t.pool (rows_needed t (placed_now t y)))
    (freed_by y.inner y.hits y.counts - length (placed_now t y).extra) (rows_needed t (placed_now t y)) t.pool (freed_by y.inner y.hits y.counts) (length (placed_now t y).extra) t.proposal.root y.low y.high

module _ (t : Task) (start v : View) (pool pins : List ℕ) (s : State) (h : IsTrying t start pool pins v s) (k : IsKeyedSoFar t pins v s) (n : ℕ) (a : IsCountAsked s n) (nodes : ℕ) where
  all_before : AreAllKeyed t pins v s
  all_before = elim a.stage [ inl e ↦ subst (KeyedAt t pins v s) e k.stage | inr e ↦ subst (KeyedAt t pins v s) e.1 k.stage ]

  one_count : (count own : ℕ) (left : List NodeRow) → IsKeyedSoFar t pins (count_loaded nodes v n count) (count_on t (with_count s count own) left)
  one_count count own [] = record {
    keys = λ m there. let x = k.keys m there in (x.0, x.1, x.2);
    only = k.only;
    hits = k.hits;
    stage = concluded_keyed t pins (count_loaded nodes v n count) (count_on t (with_count s count own) []) (record { leaves = all_before.leaves; root = all_before.root }) (with_count s count own);
  }
  one_count count own (r ∷ left) = record {
    keys = λ m there. let x = k.keys m there in (x.0, x.1, x.2);
    only = k.only;
    hits = k.hits;
    stage = record { leaves = all_before.leaves; root = all_before.root };
  }

  pub count_keeps : (w : View) (z : State) → IsCounted t nodes n v s w z → IsKeyedSoFar t pins w z
  count_keeps w z i = subst (λ y. IsKeyedSoFar t pins y z) (sym i.1) (subst (IsKeyedSoFar t pins (count_loaded nodes v n i.0)) (sym (i.2 ∙ count_read t start v pool pins s h n a i.0 (own_pins v n))) (one_count i.0 (own_pins v n) a.first.1))
