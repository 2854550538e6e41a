-- Before the root is redefined: its new row has the value of its old one, and refers to nodes with keys below its own.
use Rattle.std.proofs.Common.{◌≡◌, ◌≢◌, ℕ, suc, ◌+◌, ◌*◌, ◌<◌, ◌≤◌, ◌==◌, ◌||◌, not, Bool, true, false, List, [], ◌∷◌, length, Option, Some, refl, sym, ap, ◌∙◌, subst, arith, inl, inr}
use Rattle.std.proofs.lemmas.Bool.{and_parts, eqb-true, false_from_ne_true, false≢true, not-false, or_cases, or_left, or_right}
use Rattle.std.proofs.lemmas.Option.{none-some}
use Rattle.syn_rows.specs.declared.Row.{Row}
use Rattle.syn_rows.specs.declared.Row.TheVariants.{Free, Source, And, Alias}
use Rattle.syn_rows.specs.Rows.{AllRefs, is_derived, node_of, refs_of, row_at}
use Rattle.syn_rows.specs.Nodes.{has_node}
use Rattle.syn_rows.specs.References.{refs}
use Rattle.syn_rows.proofs.Nodes.{has_at}
use Rattle.syn_fanout_free.proofs.Bounded.{has_place}
use Rattle.syn_core_laws.specs.declared.View.{View}
use Rattle.syn_core_laws.specs.SameValue.{HasValue, SameValue}
use Rattle.syn_core_laws.specs.Shown.{IsShown}
use Rattle.syn_core_laws.specs.Views.{known_key, known_row, refs_known}
use Rattle.syn_core_laws.proofs.Counting.{has_times, hits_same, times_has}
use Rattle.syn_decide.specs.declared.decisions.NodeRow.{NodeRow}
use Rattle.syn_decide.specs.Tasks.{Task}
use Rattle.syn_decide.specs.Decided.{Done}
use Rattle.syn_decide.specs.Fitting.{FitsAt, HitsAreInside, IsFitting}
use Rattle.syn_decide.specs.Fold.{Ended, State, placed_now}
use Rattle.syn_decide.specs.Functions.{used_leaves}
use Rattle.syn_decide.specs.Hints.{rows_needed}
use Rattle.syn_decide.specs.Walk.{enters, is_met, nodes_of}
use Rattle.syn_decide.specs.Walked.{AreGates, FirstIs, IsLinked, IsWalked}
use Rattle.syn_decide.proofs.Fitting.{always_fitting, hits_always_inside}
use Rattle.syn_decide.proofs.Linking.{always_linked}
use Rattle.syn_decide.proofs.Walking.{always_walked}
use Rattle.syn_commit_laws.specs.Gains.{IsApart}
use Rattle.syn_commit_laws.specs.Redefining.{AreStored, IsInOrder, met_leaves, row_made}
use Rattle.syn_commit_laws.specs.Turning.{Spares}
use Rattle.syn_commit_laws.proofs.Gains.{stored_rows_spare}
use Rattle.syn_commit_laws.proofs.Keeping.{leaf_below, redefines_keep_value}
use Rattle.syn_commit_laws.proofs.Valued.{has_filtered}
use Rattle.syn_commit.specs.Finishing.{new_row}
use Rattle.syn_commit.specs.Keyed.{AreAllKeyed, IsKeyedSoFar, KeyedAt}
use Rattle.syn_commit.specs.Readying.{AreRowsMade, IsReadyFor}
use Rattle.syn_commit.specs.Stages.{IsTrying}
use Rattle.syn_commit.specs.Storing.{MayReferTo, key_at, node_at}
use Rattle.syn_commit.specs.Walks.{AreKnown}
use Rattle.syn_commit.proofs.Draining.{all_at}
use Rattle.syn_commit.proofs.Entering.{referring}
use Rattle.syn_commit.proofs.Following.{gates_stay, key_within, length_nodes, lift}
use Rattle.syn_commit.proofs.Joining.{hit_below, node_there}
use Rattle.syn_commit.proofs.Loads.{staged}
use Rattle.syn_commit.proofs.Returning.{used_is_leaf}
use Rattle.syn_commit.proofs.Staging.{IsStaged}

-- ---- rows
-- a row that has a value is an AND or an alias
valued_gate : (known : ℕ → Option Row) (over : List ℕ) (choice : ℕ → Bool) (row : Row) (b : Bool) → HasValue known over choice row b → is_derived row ≡ true
valued_gate known over choice Free b v = absurd (none-some b v.1)
valued_gate known over choice Source b v = absurd (none-some b v.1)
valued_gate known over choice (And x y) b v = refl
valued_gate known over choice (Alias x) b v = refl

not_free : (row : Row) → is_derived row ≡ true → row ≢ Free
not_free row gate same = let no : is_derived row ≡ false = ap is_derived same in cc

-- what holds of each node that has a reference holds of the row's nodes
refs_at : (P : ℕ → Type 0) (row : Row) → ((m : ℕ) → 1 ≤ refs m row → P m) → AllRefs P row
refs_at P Free f = tt
refs_at P Source f = tt
refs_at P (And a b) f = (f (node_of a) (let one = hits_same (node_of a) in omega (arith, one)), f (node_of b) (let one = hits_same (node_of b) in omega (arith, one)))
refs_at P (Alias a) f = f (node_of a) (let one = hits_same (node_of a) in omega (arith, one))

-- the root's row is the first of the inner rows
first_known : (v : View) (root : ℕ) (inner : List NodeRow) → 1 ≤ length inner → FirstIs root inner → AreKnown v inner → AreGates inner → (old : Row) × (known_row v root ≡ Some old) × (is_derived old ≡ true)
first_known v root [] some first known gates = absurd (omega (arith, some))
first_known v root (r ∷ inner) some first known gates = (r.row, subst (λ k. known_row v k ≡ Some r.row) first known.0, gates.0)

-- the greatest key below the new rows is below the root's
low_below : (low need step high : ℕ) → low + need * step < high → low < high
low_below low need step high gap = omega arith

none_of_some : (n : ℕ) → 1 ≤ n → n ≡ 0 → ⊥
none_of_some n some none = omega (arith, some, none)

module _ (nodes : ℕ) (t : Task) (start counted w : View) (pool pins : List ℕ) (s : State) (gain step : ℕ) (made : List NodeRow) (order : IsInOrder t) (root_enters : enters t.proposal.leaves [] t.proposal.root ≡ true)
    (h : IsTrying t start pool pins counted s) (k : IsKeyedSoFar t pins counted s) (shown : IsShown nodes counted) (constant : known_row counted 0 ≢ Some Free) (ended : s.stage ≡ Ended (Done gain)) (a : AreRowsMade t s step made counted w) where
  -- ---- what the reads have found
  walked : IsWalked t s.inner s.stage
  walked = subst (λ (y : State). IsWalked t y.inner y.stage) (sym h.reads.state) (always_walked t h.reads.met root_enters)

  linked : IsLinked t s.inner s.stage
  linked = subst (λ (y : State). IsLinked t y.inner y.stage) (sym h.reads.state) (always_linked t h.reads.met)

  keyed : AreAllKeyed t pins counted s
  keyed = subst (KeyedAt t pins counted s) ended k.stage

  fits : IsFitting t s.inner
  fits = let at : FitsAt t s.inner s.stage = subst (λ (y : State). FitsAt t y.inner y.stage) (sym h.reads.state) (always_fitting t h.reads.met) in subst (FitsAt t s.inner) ended at

  hits_inside : HitsAreInside t s.hits
  hits_inside = subst (λ (y : State). HitsAreInside t y.hits) (sym h.reads.state) (hits_always_inside t h.reads.met)

  some_inner : 1 ≤ length s.inner
  some_inner = by (subst (IsStaged t s) ended (staged t start counted s h.reads))
    where
      by : IsStaged t s (Ended (Done gain)) → 1 ≤ length s.inner
      by (inl early) = absurd (false≢true early.1)
      by (inr all) = all.some

  root_is : (old : Row) × (known_row counted t.proposal.root ≡ Some old) × (is_derived old ≡ true)
  root_is = first_known counted t.proposal.root s.inner some_inner linked.first h.inner walked.gates

  root_known : known_row w t.proposal.root ≡ Some root_is.0
  root_known = a.keeps.rows t.proposal.root root_is.0 root_is.1 (not_free root_is.0 root_is.2)

  root_key : known_key w t.proposal.root ≡ Some s.high
  root_key = a.keeps.keys t.proposal.root s.high root_is.0 root_is.1 (not_free root_is.0 root_is.2) keyed.root

  -- ---- the rows that are made: their nodes were free, so node 0 and the leaves that were met are not among them
  spare_other : (n : ℕ) → known_row counted n ≡ Some Free → n ≢ 0
  spare_other n free same = constant (ap (known_row counted) (sym same) ∙ free)

  spare_unmet : (n : ℕ) → known_row counted n ≡ Some Free → has_node (met_leaves t s.inner) n ≡ false
  spare_unmet n free = false_from_ne_true (has_node (met_leaves t s.inner) n) (λ there.
      let parts = and_parts (has_node t.proposal.leaves n) (is_met s.inner n) (sym (has_filtered (is_met s.inner) t.proposal.leaves n) ∙ there) in
      let by = referring counted s.inner n h.inner parts.1 in
      shown.used by.0 n (subst (λ o. 1 ≤ refs_known n o) (sym by.2) (times_has n (refs_of by.1) by.3)) free)

  within : (i : ℕ) → i < rows_needed t (placed_now t s) → i < length made
  within i lt = subst (λ n. i < n) (sym a.count) lt

  made_known : (i : ℕ) → i < length made → known_row w (node_at made i) ≡ Some (row_made (nodes_of made) (row_at (placed_now t s).extra i))
  made_known i lt =
      ap (known_row w) (sym (node_there made i none lt))
      ∙ (all_at (λ r. known_row w r.node ≡ Some r.row) made i none lt a.are_made.known ∙ ap (λ r. Some r) (a.are_made.stored i none lt))
    where
      none : NodeRow
      none = record { node = 0; row = Free }

  stored : AreStored t s.inner s.hits (nodes_of made) w
  stored = record {
    inner_known = gates_stay counted w s.inner a.keeps walked.gates h.inner;
    hits_known = gates_stay counted w s.hits a.keeps h.gates h.hits;
    hits_inside = hits_inside;
    made_out = λ i lt. let free = a.spare i (within i lt) in (spare_other (node_at made i) free, spare_unmet (node_at made i) free);
    made_known = λ i lt. made_known i (within i lt);
  }

  same_value : SameValue w (met_leaves t s.inner) root_is.0 (new_row t s made)
  same_value = redefines_keep_value t s.inner s.hits (nodes_of made) w root_is.0 order fits stored root_known

  new_gate : is_derived (new_row t s made) ≡ true
  new_gate = let at = same_value (λ n. false) in valued_gate (known_row w) (met_leaves t s.inner) (λ n. false) (new_row t s made) at.0 at.2

  -- ---- the nodes to which the new row may refer
  zero_may : MayReferTo w s.high 0
  zero_may = let positive = low_below s.low (rows_needed t (placed_now t s)) step s.high a.below in record { pin = inl (inr (t.proposal.root, root_is.0, root_known, inl refl)); below = (0, refl, omega (arith, positive)) }

  pinned_may : (n : ℕ) → has_node pins n ≡ true → MayReferTo w s.high n
  pinned_may n there =
      let own = h.pinned n in
      let some = times_has n pins there in
      let key = k.keys n there in
      let high = low_below s.low (rows_needed t (placed_now t s)) step s.high a.below in
      a.keeps.refers s.high n (record { pin = inr (has_times n counted.pins (omega (arith, own, some))); below = (key.0, key.1, let most = key.2 in omega (arith, most, high)) })

  made_may : (i : ℕ) → i < length made → MayReferTo w s.high (node_at made i)
  made_may i lt =
      let below = key_within s.low step i (rows_needed t (placed_now t s)) s.high (subst (λ n. i < n) a.count lt) a.below in
      lift w (suc (key_at s.low step i)) s.high (node_at made i) (omega (arith, below)) (a.are_made.keyed i lt)

  new_may : (n : ℕ) → has_node (nodes_of made) n ≡ true → MayReferTo w s.high n
  new_may n there = let place = has_place (nodes_of made) n there in subst (MayReferTo w s.high) place.2 (made_may place.0 (subst (λ m. place.0 < m) (length_nodes made) place.1))

  -- these are node 0, the used leaves, the hits, and the nodes of the made rows
  abbrev may : ℕ → Bool
  may n = (n == 0 || has_node (used_leaves t) n) || (has_node (nodes_of s.hits) n || has_node (nodes_of made) n)

  may_refer : (n : ℕ) → may n ≡ true → MayReferTo w s.high n
  may_refer n is = elim (or_cases (n == 0 || has_node (used_leaves t) n) (has_node (nodes_of s.hits) n || has_node (nodes_of made) n) is) [
    | inl old ↦ elim (or_cases (n == 0) (has_node (used_leaves t) n) old) [ inl none ↦ subst (MayReferTo w s.high) (sym (eqb-true n 0 none)) zero_may | inr used ↦ pinned_may n (keyed.leaves n used) ]
    | inr more ↦ elim (or_cases (has_node (nodes_of s.hits) n) (has_node (nodes_of made) n) more) [ inl hit ↦ pinned_may n (k.hits n hit) | inr new ↦ new_may n new ]
  ]

  -- the new row refers to no other node
  apart : IsApart t s.hits (nodes_of made) (λ n. not (may n))
  apart = record {
    constant = refl;
    leaves = λ n used.
        let leaf = leaf_below t.proposal.root t.proposal.leaves n order.below (used_is_leaf t 0 t.proposal.leaves n used) in
        let there = order.there in
        (ap not (or_left (n == 0 || has_node (used_leaves t) n) (has_node (nodes_of s.hits) n || has_node (nodes_of made) n) (or_right (n == 0) (has_node (used_leaves t) n) used)), omega (arith, leaf, there));
    found = λ n hit. (
      ap not (or_right (n == 0 || has_node (used_leaves t) n) (has_node (nodes_of s.hits) n || has_node (nodes_of made) n) (or_left (has_node (nodes_of s.hits) n) (has_node (nodes_of made) n) hit)),
      hit_below t s.hits n hits_inside hit,
    );
    new = λ i lt.
        let there = has_at (nodes_of made) i (node_at made i) (subst (λ m. i < m) (sym (length_nodes made)) (within i lt)) refl in
        ap not (or_right (node_at made i == 0 || has_node (used_leaves t) (node_at made i)) (has_node (nodes_of s.hits) (node_at made i) || has_node (nodes_of made) (node_at made i))
        (or_right (has_node (nodes_of s.hits) (node_at made i)) (has_node (nodes_of made) (node_at made i)) there));
  }

  spared : Spares (λ n. not (may n)) (new_row t s made)
  spared = (stored_rows_spare t s.hits (nodes_of made) (λ n. not (may n)) apart).root

  new_refers : AllRefs (MayReferTo w s.high) (new_row t s made)
  new_refers = refs_at (MayReferTo w s.high) (new_row t s made) (λ m one. may_refer m (not-false (may m) (false_from_ne_true (not (may m)) (λ out. none_of_some (refs m (new_row t s made)) one (spared m out)))))

  ready : (old : Row) × (known_row counted t.proposal.root ≡ Some old) × IsReadyFor t s made old w
  ready = (root_is.0, root_is.1, record { known = root_known; key = root_key; was = root_is.2; gate = new_gate; refers = new_refers; same = same_value })

-- Behind the answer `Done` the root's new row, stored, is one that a redefine may store.
pub root_is_ready : (nodes : ℕ) (t : Task) (start counted w : View) (pool pins : List ℕ) (s : State) (gain step : ℕ) (made : List NodeRow)
    → IsInOrder t → enters t.proposal.leaves [] t.proposal.root ≡ true → IsTrying t start pool pins counted s → IsKeyedSoFar t pins counted s → IsShown nodes counted → known_row counted 0 ≢ Some Free
    → s.stage ≡ Ended (Done gain) → AreRowsMade t s step made counted w
    → (old : Row) × (known_row counted t.proposal.root ≡ Some old) × IsReadyFor t s made old w
root_is_ready nodes t start counted w pool pins s gain step made order root_enters h k shown constant ended a = ready nodes t start counted w pool pins s gain step made order root_enters h k shown constant ended a
