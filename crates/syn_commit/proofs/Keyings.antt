-- The loads of keys: what is pinned has a known key at most low, and at the end the root's is known.
use Rattle.std.proofs.Common.{◌≡◌, ◌≢◌, ◌⊎◌, ℕ, ◌≤◌, ◌==◌, ◌&&◌, not, max, Bool, true, false, if◌then◌else◌, List, [], ◌∷◌, ◌++◌, length, Some, refl, sym, ap, ◌∙◌, subst, arith, inl, inr, eq-eqb}
use Rattle.std.proofs.Math.Nat.{le-max_left, le-max_right}
use Rattle.std.proofs.lemmas.Bool.{and_parts, cases_eq, eqb-true, ne_eqb, or_right}
use Rattle.syn_rows.specs.Nodes.{has_node}
use Rattle.syn_rows.proofs.Nodes.{has_cases, has_here, has_left, has_one, has_right, here_or_there}
use Rattle.syn_core_laws.specs.declared.View.{View}
use Rattle.syn_core_laws.specs.Lists.{look}
use Rattle.syn_core_laws.specs.Views.{key_loaded, known_key, pinned}
use Rattle.syn_core_laws.proofs.Counting.{times_has}
use Rattle.syn_core_laws.proofs.Listing.{look_here, look_there}
use Rattle.syn_decide.specs.Tasks.{Task}
use Rattle.syn_decide.specs.Functions.{used_leaves}
use Rattle.syn_decide.specs.Walk.{enters, nodes_of}
use Rattle.syn_decide.specs.Decided.{Answer, Done, Busy, Reach, Wide, Differs, NoGain, NoGap, NoRoom}
use Rattle.syn_decide.specs.Fold.{State, Stage, Walking, Keying, Hinting, Counting, Ended, Failed, key_loaded as key_read_on}
use Rattle.syn_commit.specs.Keyed.{AreWaiting, EndsAt, IsKeyedSoFar, KeyAtMost, KeyedAfter, KeyedAt}
use Rattle.syn_commit.specs.Stages.{IsKeyed, IsTrying}
use Rattle.syn_commit.specs.Walks.{IsOfReads, KeysWait}
use Rattle.syn_commit.proofs.Loads.{key_read, staged}
use Rattle.syn_commit.proofs.Meeting.{key_here}
use Rattle.syn_commit.proofs.Returning.{used_is_leaf}
use Rattle.syn_commit.proofs.Staging.{IsAnswered, IsStaged}

key_there : (v : View) (n key low high m : ℕ) → m ≢ n → low ≤ high → KeyAtMost v low m → KeyAtMost (key_loaded v n key) high m
key_there v n key low high m ne le k = (k.0, go (m == 0) k.1, omega (arith, le, k.2))
  where
    go : (b : Bool) → (if b then Some 0 else look m v.keys) ≡ Some k.0 → (if b then Some 0 else look m ((n, key) ∷ v.keys)) ≡ Some k.0
    go true e = e
    go false e = look_there m n key v.keys ne ∙ e

root_key : (v : View) (n key : ℕ) → n ≢ 0 → known_key (key_loaded v n key) n ≡ Some key
root_key v n key ne = ap (λ b. if b then Some 0 else look n ((n, key) ∷ v.keys)) (ne_eqb n 0 ne) ∙ look_here n key v.keys

module _ (t : Task) (start v : View) (pool pins : List ℕ) (s : State) (root_enters : enters t.proposal.leaves [] t.proposal.root ≡ true) (h : IsTrying t start pool pins v s) (k : IsKeyedSoFar t pins v s) (n : ℕ) where
  abbrev root : ℕ
  root = t.proposal.root

  root_unused : has_node (used_leaves t) root ≡ true → ⊥
  root_unused used =
      let leaf = used_is_leaf t 0 t.proposal.leaves root used in
      let no = (and_parts (not (has_node t.proposal.leaves root)) true (and_parts (not (root == 0)) (not (has_node t.proposal.leaves root) && true) root_enters).1).0 in
      apart (has_node t.proposal.leaves root) leaf no
    where
      apart : (b : Bool) → b ≡ true → not b ≡ true → ⊥
      apart true e f = cc
      apart false e f = cc

  root_positive : root ≢ 0
  root_positive e = apart (root == 0) (and_parts (not (root == 0)) (not (has_node t.proposal.leaves root) && true) root_enters).0 (eq-eqb root 0 e)
    where
      apart : (b : Bool) → not b ≡ true → b ≡ true → ⊥
      apart true e f = cc
      apart false e f = cc

  root_unpinned : has_node pins root ≡ true → ⊥
  root_unpinned there = let some = times_has root pins there in let none = h.root_out in omega (arith, some, none)

  abbrev seen_by : Bool → View
  seen_by b = if b then v else pinned v n

  abbrev pins_by : Bool → List ℕ
  pins_by b = if b then pins else pins ++ n ∷ []

  -- the keys of what is pinned, where the loaded one is low enough, or the node isn't pinned
  keys_on : (b : Bool) (key high : ℕ) → s.low ≤ high → (has_node (pins_by b) n ≡ true → key ≤ high) → (m : ℕ) → has_node (pins_by b) m ≡ true → KeyAtMost (key_loaded (seen_by b) n key) high m
  keys_on true key high le few m there = elim (cases_eq m n) [
    | inl same ↦ subst (KeyAtMost (key_loaded v n key) high) (sym same) (key_here v n key high (few (subst (λ x. has_node pins x ≡ true) same there)))
    | inr ne ↦ key_there v n key s.low high m ne le (k.keys m there)
  ]
  keys_on false key high le few m there = elim (cases_eq m n) [
    | inl same ↦ subst (KeyAtMost (key_loaded (pinned v n) n key) high) (sym same) (key_here (pinned v n) n key high (few (has_right pins (n ∷ []) n (has_here n []))))
    | inr ne ↦ elim (has_cases pins (n ∷ []) m there) [
      | inl old ↦ (let o = k.keys m old in key_there (pinned v n) n key s.low high m ne le (o.0, o.1, o.2))
      | inr new ↦ absurd (ne (sym (has_one n m new)))
    ]
  ]

  only_on : (b : Bool) (left : List ℕ) → AreWaiting t (n ∷ left) pins → (n == root) ≡ b → (m : ℕ) → has_node (pins_by b) m ≡ true → (has_node (used_leaves t) m ≡ true) ⊎ (has_node (nodes_of s.hits) m ≡ true)
  only_on true left a is m there = k.only m there
  only_on false left a is m there = elim (has_cases pins (n ∷ []) m there) [
    | inl old ↦ k.only m old
    | inr new ↦ elim (a.these n (has_here n left)) [
      | inl used ↦ inl (subst (λ x. has_node (used_leaves t) x ≡ true) (has_one n m new) used)
      | inr same ↦ (let no : (n == root) ≡ true = eq-eqb n root same in absurd (cc))
    ]
  ]

  hits_on : (b : Bool) (m : ℕ) → has_node (nodes_of s.hits) m ≡ true → has_node (pins_by b) m ≡ true
  hits_on true m hit = k.hits m hit
  hits_on false m hit = has_left pins (n ∷ []) m (k.hits m hit)

  -- a used leaf waits behind this node, or is pinned
  leaves_on : (b : Bool) (left : List ℕ) → AreWaiting t (n ∷ left) pins → (n == root) ≡ b → (m : ℕ) → has_node (used_leaves t) m ≡ true → (has_node left m ≡ true) ⊎ (has_node (pins_by b) m ≡ true)
  leaves_on b left a is m used = elim (a.leaves m used) [
    | inl waits ↦ elim (here_or_there n m left waits) [ inl same ↦ inr (pinned_now b is (sym same)) | inr later ↦ inl later ]
    | inr old ↦ inr (still b old)
  ]
    where
      pinned_now : (b : Bool) → (n == root) ≡ b → n ≡ m → has_node (pins_by b) m ≡ true
      pinned_now true is same = absurd (root_unused (subst (λ x. has_node (used_leaves t) x ≡ true) (sym same ∙ eqb-true n root is) used))
      pinned_now false is same = subst (λ x. has_node (pins ++ n ∷ []) x ≡ true) same (has_right pins (n ∷ []) n (has_here n []))

      still : (b : Bool) → has_node pins m ≡ true → has_node (pins_by b) m ≡ true
      still true old = old
      still false old = has_left pins (n ∷ []) m old

  -- one key more, of the last node or another
  one_key : (b : Bool) (left : List ℕ) (key : ℕ) → AreWaiting t (n ∷ left) pins → (n == root) ≡ b → IsKeyedSoFar t (pins_by b) (key_loaded (seen_by b) n key) (key_read_on s key left)
  one_key true [] key a is = record {
    keys = keys_on true key s.low (omega arith) (λ there. absurd (root_unpinned (subst (λ x. has_node pins x ≡ true) (eqb-true n root is) there)));
    only = only_on true [] a is;
    hits = hits_on true;
    stage = record {
      leaves = λ m used. elim (leaves_on true [] a is m used) [ inl none ↦ absurd (let no : false ≡ true = none in cc) | inr there ↦ there ];
      root = subst (λ x. known_key (key_loaded v n key) x ≡ Some key) (eqb-true n root is) (root_key v n key (λ e. root_positive (sym (eqb-true n root is) ∙ e)));
    };
  }
  one_key false [] key a is = let no : (n == root) ≡ true = eq-eqb n root a.last in absurd (cc)
  one_key b (m ∷ left) key a is = record {
    keys = keys_on b key (max s.low key) (le-max_left s.low key) (λ there. le-max_right s.low key);
    only = only_on b (m ∷ left) a is;
    hits = hits_on b;
    stage = record {
      last = a.last;
      these = λ x there. a.these x (or_right (n == x) (has_node (m ∷ left) x) there);
      leaves = leaves_on b (m ∷ left) a is;
    };
  }

  pub key_keeps : (left : List ℕ) → s.stage ≡ Keying (n ∷ left) → (w : View) (more : List ℕ) (z : State) → IsKeyed t n v pins s w more z → IsKeyedSoFar t more w z
  key_keeps left stage w more z i =
      let a : AreWaiting t (n ∷ left) pins = subst (λ g. KeyedAt t pins v s g) stage k.stage in
      subst (λ ps. IsKeyedSoFar t ps w z) (sym i.2) (subst (λ y. IsKeyedSoFar t (pins_by (n == root)) y z) (sym i.1) (subst (IsKeyedSoFar t (pins_by (n == root)) (key_loaded (seen_by (n == root)) n i.0))
      (sym (i.3 ∙ key_read t start v pool pins s h n left stage i.0)) (one_key (n == root) left i.0 a refl)))

-- ---- before the first key
ends_at : (root : ℕ) (ns : List ℕ) → EndsAt root (ns ++ root ∷ [])
ends_at root [] = refl
ends_at root (n ∷ []) = refl
ends_at root (n ∷ m ∷ ns) = ends_at root (m ∷ ns)

counts_missing : (s : State) → s.counts ≡ [] → length s.counts ≡ length s.inner → 1 ≤ length s.inner → ⊥
counts_missing s none all some = let zero_counts = ap length none in omega (arith, all, some, zero_counts)

pub keys_begin : (t : Task) (start v : View) (s : State) → IsOfReads t start v s → KeysWait t s.stage → s.hits ≡ [] → s.counts ≡ [] → IsKeyedSoFar t [] v s
keys_begin t start v s o waits no_hits no_counts = record {
  keys = λ n there. absurd (let no : false ≡ true = there in cc);
  only = λ n there. absurd (let no : false ≡ true = there in cc);
  hits = λ n there. absurd (let no : false ≡ true = ap (λ rows. has_node (nodes_of rows) n) (sym no_hits) ∙ there in cc);
  stage = go s.stage waits (staged t start v s o);
}
  where
    go : (stage : Stage) → KeysWait t stage → IsStaged t s stage → KeyedAt t [] v s stage
    go (Walking waiting) w g = tt
    go (Keying left) w g = subst (λ ns. AreWaiting t ns []) (sym w) (record {
      last = ends_at t.proposal.root (used_leaves t);
      these = λ n there. elim (has_cases (used_leaves t) (t.proposal.root ∷ []) n there) [ inl used ↦ inl used | inr root ↦ inr (sym (has_one t.proposal.root n root)) ];
      leaves = λ n used. inl (has_left (used_leaves t) (t.proposal.root ∷ []) n used);
    })
    go (Hinting last) w g = absurd w
    go Counting w g = absurd w
    go (Ended answer) w g = early answer g
      where
        early : (answer : Answer) → IsAnswered t s answer → KeyedAfter t [] v s answer
        early (Busy node) g = tt
        early (Reach node) g = tt
        early (Wide node) g = tt
        early (Differs was now) g = tt
        early (Done gain) (inl e) = absurd (let no : false ≡ true = e.1 in cc)
        early (NoGain freed added) (inl e) = absurd (let no : false ≡ true = e.1 in cc)
        early (NoGap node low need high) (inl e) = absurd (let no : false ≡ true = e.1 in cc)
        early (NoRoom need have) (inl e) = absurd (let no : false ≡ true = e.1 in cc)
        early (Done gain) (inr c) = absurd (counts_missing s no_counts c.all c.some)
        early (NoGain freed added) (inr c) = absurd (counts_missing s no_counts c.all c.some)
        early (NoGap node low need high) (inr c) = absurd (counts_missing s no_counts c.all c.some)
        early (NoRoom need have) (inr c) = absurd (counts_missing s no_counts c.all c.some)
    go Failed w g = tt
