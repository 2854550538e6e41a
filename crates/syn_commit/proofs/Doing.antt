-- Behind the answer `Done`: what its new rows are made of, and what the root's redefine asks for.
use Rattle.std.proofs.Common.{◌≡◌, ℕ, ◌+◌, ◌*◌, ◌<◌, ◌≤◌, true, List, [], ◌∷◌, ◌++◌, length, get_or, reverse, Some, refl, sym, ap, ◌∙◌, subst, arith, inl, inr}
use Rattle.std.proofs.lemmas.List.{reverse-append}
use Rattle.syn_rows.specs.declared.Row.{Row}
use Rattle.syn_rows.specs.declared.Row.TheVariants.{Free}
use Rattle.syn_rows.specs.Nodes.{has_node}
use Rattle.syn_rows.proofs.Nodes.{has_at, has_here, has_left, has_right, here_or_there}
use Rattle.syn_core_laws.specs.declared.View.{View}
use Rattle.syn_core_laws.specs.Shown.{IsShown}
use Rattle.syn_core_laws.specs.Views.{known_row}
use Rattle.syn_gain.specs.Placing.{Placed}
use Rattle.syn_decide.specs.declared.decisions.NodeRow.{NodeRow}
use Rattle.syn_decide.specs.Decided.{Done}
use Rattle.syn_decide.specs.Fold.{Ended, State, placed_now}
use Rattle.syn_decide.specs.Hints.{rows_needed}
use Rattle.syn_decide.specs.Tasks.{Task}
use Rattle.syn_decide.specs.Walk.{enters, nodes_of}
use Rattle.syn_decide.specs.Walked.{FirstIs, IsLinked}
use Rattle.syn_decide.proofs.Linking.{always_linked}
use Rattle.syn_commit_laws.specs.Gains.{IsGain}
use Rattle.syn_commit_laws.specs.Redefining.{IsInOrder}
use Rattle.syn_commit_laws.specs.Turning.{TurnsAll}
use Rattle.syn_commit_laws.proofs.Gains.{done_tells_gain}
use Rattle.syn_commit.specs.Counts.{CountsAreLoaded, dying_by}
use Rattle.syn_commit.specs.Finishing.{HasStored, new_row}
use Rattle.syn_commit.specs.Keyed.{AreAllKeyed, IsKeyedSoFar, KeyedAt}
use Rattle.syn_commit.specs.Making.{HasMade, IsReady, step_now}
use Rattle.syn_commit.specs.Readying.{IsReadyFor}
use Rattle.syn_commit.specs.Stages.{IsTrying}
use Rattle.syn_commit.specs.Storing.{AreMade, AreNewRows, KeepsKnown, RedefinesRow, makes_rows, node_at}
use Rattle.syn_commit.specs.Walks.{AreKnown}
use Rattle.syn_commit.proofs.Following.{length_nodes}
use Rattle.syn_commit.proofs.Joining.{stores_finish}
use Rattle.syn_commit.proofs.Loads.{staged}
use Rattle.syn_commit.proofs.Pinning.{rows_are_ready}
use Rattle.syn_commit.proofs.Staging.{IsConcluded, IsStaged}

has_turned : (ns : List ℕ) (n : ℕ) → has_node ns n ≡ true → has_node (reverse ns) n ≡ true
has_turned [] n h = absurd (cc)
has_turned (m ∷ ns) n h =
    subst (λ ms. has_node ms n ≡ true) (sym (reverse-append (m ∷ []) ns))
    (elim (here_or_there m n ns h) [
      | inl same ↦ subst (λ k. has_node (reverse ns ++ m ∷ []) k ≡ true) (sym same) (has_right (reverse ns) (m ∷ []) m (has_here m []))
      | inr there ↦ has_left (reverse ns) (m ∷ []) n (has_turned ns n there)
    ])

-- no more rows are needed than there are new gates
pub needed_few : (t : Task) (p : Placed) → rows_needed t p ≤ length p.extra
needed_few t p = omega arith

-- the first of the rows is the root's, and known
first_known : (root : ℕ) (v : View) (rows : List NodeRow) (first : NodeRow) → FirstIs root rows → AreKnown v rows → 1 ≤ length rows → first ≡ get_or rows 0 first → (first.node ≡ root) × (known_row v root ≡ Some first.row)
first_known root v [] first f k some is = absurd (omega (arith, some))
first_known root v (r ∷ rows) first f k some is = (
  ap (λ (x : NodeRow). x.node) is ∙ f,
  subst (λ (x : NodeRow). known_row v root ≡ Some x.row) (sym is) (subst (λ n. known_row v n ≡ Some r.row) f k.0),
)

module _ (t : Task) (start v : View) (pool pins : List ℕ) (s : State) (gain : ℕ) (h : IsTrying t start pool pins v s) (done : s.stage ≡ Ended (Done gain)) where
  pub concluded_now : IsConcluded t s (Done gain)
  concluded_now = at (subst (IsStaged t s) done (staged t start v s h.reads))
    where
      at : IsStaged t s (Ended (Done gain)) → IsConcluded t s (Done gain)
      at (inl early) = let never = early.1 in absurd (cc)
      at (inr all) = all

  pub gains : IsGain t s gain
  gains = done_tells_gain t s gain (sym concluded_now.is)

  pub some_inner : 1 ≤ length s.inner
  some_inner = concluded_now.some

  pub new_rows_ready : (rows : List Row) (need low : ℕ) → IsInOrder t → IsKeyedSoFar t pins v s → rows ≡ (placed_now t s).extra → need ≡ rows_needed t (placed_now t s) → low ≡ s.low → AreNewRows v low need rows
  new_rows_ready rows need low order k same_rows same_need same_low =
      let keyed : AreAllKeyed t pins v s = subst (KeyedAt t pins v s) done k.stage in
      subst (λ rs. AreNewRows v low need rs) (sym same_rows) (subst (λ n. AreNewRows v low n (placed_now t s).extra) (sym same_need)
      (subst (λ l. AreNewRows v l (rows_needed t (placed_now t s)) (placed_now t s).extra) (sym same_low) (rows_are_ready t start v pool pins s order h k keyed)))

  -- the nodes of made rows were spare
  spare_before : (kept : List ℕ) (made : List NodeRow) → pool ≡ kept ++ reverse (nodes_of made) → (i : ℕ) → i < length made → known_row v (node_at made i) ≡ Some Free
  spare_before kept made taken i lt =
      let size = length_nodes made in
      let there = has_at (nodes_of made) i (node_at made i) (omega (arith, lt, size)) refl in
      h.spare.free (node_at made i) (subst (λ ns. has_node ns (node_at made i) ≡ true) (sym taken) (has_right kept (reverse (nodes_of made)) (node_at made i) (has_turned (nodes_of made) (node_at made i) there)))

  pub has_made : (nodes : ℕ) (rows : List Row) (need low step : ℕ) (made : List NodeRow) (kept : List ℕ) (w : View) → rows ≡ (placed_now t s).extra → need ≡ rows_needed t (placed_now t s) → low ≡ s.low
      → 1 ≤ step → step ≡ step_now t s → low + need * step < s.high → pool ≡ kept ++ reverse (nodes_of made) → length made ≡ need → AreMade low step rows made w → KeepsKnown v w → TurnsAll nodes v (makes_rows low step 0 made) w
      → HasMade nodes t s made v w
  has_made nodes rows need low step made kept w same_rows same_need same_low some even below taken count are keeps turns = record {
    step = step;
    even = even;
    rows = record {
      count = count ∙ same_need;
      spare = spare_before kept made taken;
      positive = some;
      below = subst (λ n. s.low + n * step < s.high) same_need (subst (λ l. l + need * step < s.high) same_low below);
      are_made = subst (λ rs. AreMade s.low step rs made w) same_rows (subst (λ l. AreMade l step rows made w) same_low are);
      keeps = keeps;
    };
    makes = subst (λ l. TurnsAll nodes v (makes_rows l step 0 made) w) same_low turns;
  }

  linked : IsLinked t s.inner s.stage
  linked = subst (λ (y : State). IsLinked t y.inner y.stage) (sym h.reads.state) (always_linked t h.reads.met)

  -- the root, by the first inner row
  module _ (root : NodeRow) (is : root ≡ get_or s.inner 0 root) where
    root_is : (root.node ≡ t.proposal.root) × (known_row v t.proposal.root ≡ Some root.row)
    root_is = first_known t.proposal.root v s.inner root linked.first h.inner concluded_now.some is

    pub root_node : root.node ≡ t.proposal.root
    root_node = root_is.0

    same_old : (old : Row) → known_row v t.proposal.root ≡ Some old → old ≡ root.row
    same_old old known = let both : Some old ≡ Some root.row = sym known ∙ root_is.1 in cc

    pub ready_now : (made : List NodeRow) (w : View) → IsReady t s made v w → IsReadyFor t s made root.row w
    ready_now made w r = subst (λ old. IsReadyFor t s made old w) (same_old r.0 r.1) r.2

    pub stored_now : (nodes : ℕ) (made : List NodeRow) (row : Row) (w x : View) → IsInOrder t → enters t.proposal.leaves [] t.proposal.root ≡ true → IsShown nodes v → CountsAreLoaded nodes v s
        → HasMade nodes t s made v w → IsReady t s made v w → row ≡ new_row t s made → RedefinesRow nodes w root.node row x → known_row x root.node ≡ Some row
        → HasStored nodes root.node (dying_by s) v root.row row (length made) gain x
    stored_now nodes made row w x order root_enters shown loaded m r same redefined known =
        subst (λ n. HasStored nodes n (dying_by s) v root.row row (length made) gain x) (sym root_node)
        (subst (λ new. HasStored nodes t.proposal.root (dying_by s) v root.row new (length made) gain x) (sym same)
        (subst (λ old. HasStored nodes t.proposal.root (dying_by s) v old (new_row t s made) (length made) gain x) (same_old stores.0 stores.1) stores.2))
      where
        ready : IsReadyFor t s made root.row w
        ready = ready_now made w r

        at_root : RedefinesRow nodes w t.proposal.root (new_row t s made) x
        at_root = subst (λ n. RedefinesRow nodes w n (new_row t s made) x) root_node (subst (λ new. RedefinesRow nodes w root.node new x) same redefined)

        stores : (old : Row) × (known_row v t.proposal.root ≡ Some old) × HasStored nodes t.proposal.root (dying_by s) v old (new_row t s made) (length made) gain x
        stores = stores_finish nodes t start v w x pool pins s s.low m.step gain made order root_enters h shown loaded done (record {
          count = m.rows.count;
          spare = m.rows.spare;
          rows = m.rows.are_made.stored;
          makes = m.makes;
          kept = λ old k. subst (λ o. known_row w t.proposal.root ≡ Some o) (sym (same_old old k)) ready.known;
          redefined = at_root;
          root_row = subst (λ n. known_row x n ≡ Some (new_row t s made)) root_node (subst (λ new. known_row x root.node ≡ Some new) same known);
          root_gate = ready.gate;
        })
