-- A commit that gives up behind its counts: no row that they counted as dying is freed.
use Rattle.std.proofs.Common.{eq-zero-or-pos, ◌≡◌, ◌≢◌, ◌⊎◌, ℕ, ◌+◌, ◌<◌, ◌≤◌, ◌==◌, ◌&&◌, ◌||◌, not, Bool, true, false, if◌then◌else◌, List, [], ◌∷◌, ◌++◌, length, Option, Some, None, refl, sym, ap, ◌∙◌, subst, arith, inl, inr, pos, ◌+ℤ◌}
use Rattle.std.proofs.lemmas.Bool.{and_parts, or_cases, or_left, or_right}
use Rattle.syn_rows.specs.declared.Row.{Row}
use Rattle.syn_rows.specs.Rows.{AllRefs, refs_of}
use Rattle.syn_rows.specs.Nodes.{has_node}
use Rattle.syn_rows.proofs.Nodes.{has_here, here_or_there}
use Rattle.syn_core_laws.specs.declared.View.{View}
use Rattle.syn_core_laws.specs.declared.Change.{Change}
use Rattle.syn_core_laws.specs.declared.EventKind.{EventKind}
use Rattle.syn_core_laws.specs.declared.EventKind.TheVariants as Kind
use Rattle.syn_core_laws.specs.Shown.{IsShown}
use Rattle.syn_core_laws.specs.Views.{is_derived_known, known_row, own_refs, refs_known}
use Rattle.syn_core_laws.proofs.Counting.{has_times, times_has}
use Rattle.syn_decide.specs.declared.decisions.NodeRow.{NodeRow}
use Rattle.syn_decide.specs.Tasks.{Task}
use Rattle.syn_decide.specs.Functions.{used_from, used_leaves, uses}
use Rattle.syn_decide.specs.Walk.{enters, is_met, nodes_of}
use Rattle.syn_decide.specs.Walked.{FirstIs, IsLinked}
use Rattle.syn_decide.specs.Fold.{State, Ended}
use Rattle.syn_decide.specs.Dying.{counted_of, dying_of}
use Rattle.syn_commit_laws.specs.Counted.{dead_of}
use Rattle.syn_decide.proofs.Linking.{always_linked}
use Rattle.syn_commit_laws.specs.Dying.{AreDoomed}
use Rattle.syn_commit_laws.specs.Freeing.{IsGivenUp, IsOut, late}
use Rattle.syn_commit_laws.specs.Turning.{stored_by}
use Rattle.syn_commit_laws.proofs.Giving.{given_up_tells, giving_up_begins, giving_up_goes_on, roots_are_out}
use Rattle.syn_commit_laws.proofs.Sums.{sum_some}
use Rattle.syn_commit.specs.Counts.{CountsAreLoaded, dying_by}
use Rattle.syn_commit.specs.Giving.{FellByLate, GivesBackAll, HasGivenUp}
use Rattle.syn_commit.specs.Stages.{HasEnded, IsTrying}
use Rattle.syn_commit.specs.Walks.{AreKnown}
use Rattle.syn_commit.proofs.Leaning.{HitsLean, IsSource, at_ref, hits_lean}
use Rattle.syn_commit.proofs.Handing.{fell_by_all}
use Rattle.syn_commit.proofs.Loads.{none_counted, staged}
use Rattle.syn_commit.proofs.Staging.{IsStaged}
use Rattle.syn_commit.proofs.Tallying.{all_tallied}

-- the used leaves are leaves
pub used_is_leaf : (t : Task) (i : ℕ) (leaves : List ℕ) (m : ℕ) → has_node (used_from t i leaves) m ≡ true → has_node leaves m ≡ true
used_is_leaf t i [] m h = h
used_is_leaf t i (leaf ∷ leaves) m h = go (uses t i) h (used_is_leaf t (i + 1) leaves m)
  where
    go : (b : Bool) → has_node (if b then leaf ∷ used_from t (i + 1) leaves else used_from t (i + 1) leaves) m ≡ true → (has_node (used_from t (i + 1) leaves) m ≡ true → has_node leaves m ≡ true) → has_node (leaf ∷ leaves) m ≡ true
    go true k later = elim (or_cases (leaf == m) (has_node (used_from t (i + 1) leaves) m) k) [ inl same ↦ or_left (leaf == m) (has_node leaves m) same | inr there ↦ or_right (leaf == m) (has_node leaves m) (later there) ]
    go false k later = or_right (leaf == m) (has_node leaves m) (later k)

-- an inner row that refers to a node
met_by : (v : View) (rows : List NodeRow) (m : ℕ) → AreKnown v rows → is_met rows m ≡ true → (n : ℕ) × (r : Row) × (has_node (nodes_of rows) n ≡ true) × (known_row v n ≡ Some r) × (has_node (refs_of r) m ≡ true)
met_by v [] m k h = absurd (cc)
met_by v (q ∷ rows) m k h = elim (or_cases (has_node (refs_of q.row) m) (is_met rows m) h) [
  | inl own ↦ (q.node, q.row, has_here q.node (nodes_of rows), k.0, own)
  | inr more ↦ let r = met_by v rows m k.1 more in (r.0, r.1, or_right (q.node == r.0) (has_node (nodes_of rows) r.0) r.2, r.3, r.4)
]

-- the row of a hit
hit_row : (t : Task) (hits : List NodeRow) (v : View) (rows : List NodeRow) (n : ℕ) → AreKnown v rows → HitsLean t hits rows → has_node (nodes_of rows) n ≡ true → (r : Row) × (known_row v n ≡ Some r) × AllRefs (IsSource t hits) r
hit_row t hits v [] n k l h = absurd (cc)
hit_row t hits v (q ∷ rows) n k l h = elim (here_or_there q.node n (nodes_of rows) h) [
  | inl same ↦ (q.row, ap (known_row v) same ∙ k.0, l.0)
  | inr there ↦ hit_row t hits v rows n k.1 l.1 there
]

first_there : (root : ℕ) (inner : List NodeRow) → FirstIs root inner → 1 ≤ length inner → has_node (nodes_of inner) root ≡ true
first_there root [] f some = absurd (omega (arith, some))
first_there root (r ∷ inner) f some = subst (λ k. has_node (nodes_of (r ∷ inner)) k ≡ true) f (has_here r.node (nodes_of inner))

module _ (nodes : ℕ) (t : Task) (start v : View) (pool pins : List ℕ) (s : State) (root_enters : enters t.proposal.leaves [] t.proposal.root ≡ true) (h : IsTrying t start pool pins v s) (shown : IsShown nodes v) (some : 1 ≤ length s.inner) where
  abbrev root : ℕ
  root = t.proposal.root

  linked : IsLinked t s.inner s.stage
  linked = subst (λ (y : State). IsLinked t y.inner y.stage) (sym h.reads.state) (always_linked t h.reads.met)

  no_leaf : has_node (used_leaves t) root ≡ true → ⊥
  no_leaf used =
      let yes = used_is_leaf t 0 t.proposal.leaves root used in
      let no = (and_parts (not (has_node t.proposal.leaves root)) true (and_parts (not (root == 0)) (not (has_node t.proposal.leaves root) && true) root_enters).1).0 in
      apart (has_node t.proposal.leaves root) yes no
    where
      apart : (b : Bool) → b ≡ true → not b ≡ true → ⊥
      apart true e f = cc
      apart false e f = cc

  not_source : IsSource t s.hits root → ⊥
  not_source (inl used) = no_leaf used
  not_source (inr hit) = let no = h.apart in cc

  -- no known row refers to the root
  unreferred : (n : ℕ) → n < nodes → 1 ≤ refs_known root (known_row v n) → ⊥
  unreferred n lt refers = row (known_row v n) refl
    where
      spare : has_node pool n ≡ true → ⊥
      spare there = let free = subst (λ o. 1 ≤ refs_known root o) (h.spare.free n there) refers in omega (arith, free)

      inner : has_node (nodes_of s.inner) n ≡ true → ⊥
      inner there =
          let none = roots_are_out nodes root (λ m. has_node (nodes_of s.inner) m) v shown.no_circle (first_there root s.inner linked.first some) referred n lt there in
          omega (arith, none, refers)
        where
          referred : (m : ℕ) → has_node (nodes_of s.inner) m ≡ true → m ≢ root → (k : ℕ) × (k < nodes) × (has_node (nodes_of s.inner) k ≡ true) × (1 ≤ refs_known m (known_row v k))
          referred m there other = elim (linked.met m there) [
            | inl same ↦ absurd (other same)
            | inr met ↦ let r = met_by v s.inner m h.inner met in (r.0, (shown.rows r.0 r.1 r.3).0, r.2, subst (λ o. 1 ≤ refs_known m o) (sym r.3) (times_has m (refs_of r.1) r.4))
          ]

      hit : has_node (nodes_of s.hits) n ≡ true → ⊥
      hit there =
          let r = hit_row t s.hits v s.hits n h.hits (hits_lean t start v s h.reads) there in
          not_source (at_ref (IsSource t s.hits) r.0 root r.2 (has_times root (refs_of r.0) (subst (λ o. 1 ≤ refs_known root o) r.1 refers)))

      held : (has_node pool n ≡ true) ⊎ ((has_node (nodes_of s.inner) n || has_node (nodes_of s.hits) n) ≡ true) → ⊥
      held (inl there) = spare there
      held (inr gate) = elim (or_cases (has_node (nodes_of s.inner) n) (has_node (nodes_of s.hits) n) gate) [ inl there ↦ inner there | inr there ↦ hit there ]

      row : (o : Option Row) → known_row v n ≡ o → ⊥
      row None e = let none = subst (λ x. 1 ≤ refs_known root x) e refers in omega (arith, none)
      row (Some r) e = held (or_cases (has_node pool n) (has_node (nodes_of s.inner) n || has_node (nodes_of s.hits) n) (sym (h.held n) ∙ (shown.rows n r e).1))

  pub root_is_out : IsOut nodes v root
  root_is_out = record {
    refs = elim (eq-zero-or-pos (own_refs nodes v root)) [ inl none ↦ none | inr more ↦ (let n = sum_some nodes (λ k. refs_known root (known_row v k)) more in absurd (unreferred n.0 n.1 n.2)) ];
    pins = h.pinned root ∙ h.root_out;
    idle = ap (λ ns. has_node ns root) h.idle;
  }

-- ---- what is given back
pub given_up_all : (nodes root : ℕ) (dying : ℕ → Bool) (start v w : View) (changes : List Change) (es : List EventKind) → AreDoomed nodes root dying start → IsGivenUp nodes root dying start changes v → GivesBackAll nodes v es w
    → (more : List Change) × IsGivenUp nodes root dying start more w
given_up_all nodes root dying start v w changes [] doom g e = (changes, subst (IsGivenUp nodes root dying start changes) (sym e) g)
given_up_all nodes root dying start v w changes (Kind.Claim n ∷ es) doom g e = absurd e.2
given_up_all nodes root dying start v w changes (Kind.ClaimFailed n ∷ es) doom g e = absurd e.2
given_up_all nodes root dying start v w changes (Kind.Release n ∷ es) doom g e =
    given_up_all nodes root dying start e.0 w (changes ++ []) es doom (giving_up_goes_on nodes root dying start v e.0 changes (Kind.Release n) doom g e.1 e.2) e.3
given_up_all nodes root dying start v w changes (Kind.LoadRow n ∷ es) doom g e = absurd e.2
given_up_all nodes root dying start v w changes (Kind.Pin n ∷ es) doom g e = absurd e.2
given_up_all nodes root dying start v w changes (Kind.Unpin n ∷ es) doom g e =
    given_up_all nodes root dying start e.0 w (changes ++ []) es doom (giving_up_goes_on nodes root dying start v e.0 changes (Kind.Unpin n) doom g e.1 tt) e.3
given_up_all nodes root dying start v w changes (Kind.LoadCount n ∷ es) doom g e = absurd e.2
given_up_all nodes root dying start v w changes (Kind.LoadKey n ∷ es) doom g e = absurd e.2
given_up_all nodes root dying start v w changes (Kind.SetKey n key ∷ es) doom g e = absurd e.2
given_up_all nodes root dying start v w changes (Kind.Make n row ∷ es) doom g e = absurd e.2
given_up_all nodes root dying start v w changes (Kind.Redefine n row over ∷ es) doom g e = absurd e.2
given_up_all nodes root dying start v w changes (Kind.Free n ∷ es) doom g e =
    given_up_all nodes root dying start e.0 w (changes ++ stored_by v (Kind.Free n)) es doom (giving_up_goes_on nodes root dying start v e.0 changes (Kind.Free n) doom g e.1 tt) e.3

-- what became of the difference, by whether all counts were there
pub fell_by_late : (t : Task) (start v w : View) (nodes : ℕ) (pool grown pins : List ℕ) (s : State) → enters t.proposal.leaves [] t.proposal.root ≡ true → IsTrying t start pool pins v s → IsShown nodes v → CountsAreLoaded nodes v s → HasEnded s.stage
    → HasGivenUp nodes v pool w grown → FellByLate start w s
fell_by_late t start v w nodes pool grown pins s root h shown loaded ended g =
    let at : IsStaged t s (Ended ended.0) = subst (IsStaged t s) ended.1 (staged t start v s h.reads) in by at
  where
    early : s.counts ≡ [] → FellByLate start w s
    early none =
        let no : counted_of s.inner s.counts ≡ [] = ap (counted_of s.inner) none ∙ none_counted s.inner in
        let same : (λ n. false) ≡ dying_by s = ap (λ rows. (λ n. has_node (dead_of (dying_of (nodes_of s.hits) rows)) n)) (sym no) in
        let all = fell_by_all start v w nodes pool grown h.changes h.difference g in
        (all.0, all.1, all.2, subst (λ (dying : ℕ → Bool). w.difference +ℤ pos (late dying all.0) ≡ start.difference) same all.3)

    concluded : length s.counts ≡ length s.inner → 1 ≤ length s.inner → FellByLate start w s
    concluded full some =
        let k = all_tallied nodes t start v pool pins s root h shown loaded full some in
        let begins : IsGivenUp nodes t.proposal.root (dying_by s) v [] v =
        giving_up_begins nodes t.proposal.root (dying_by s) v k.doomed (ap is_derived_known k.root_row ∙ k.root_gate) (root_is_out nodes t start v pool pins s root h shown some) in
        let ends = given_up_all nodes t.proposal.root (dying_by s) v v g.0 [] g.1.0 k.doomed begins g.1.1 in (
          ends.0,
          g.2.changes ∙ (ends.1.freeing.told.stored ∙ ap (λ cs. cs ++ ends.0) h.changes),
          ends.1.frees_alone,
          ap (λ d. d +ℤ pos (late (dying_by s) ends.0)) g.2.difference ∙ (given_up_tells nodes t.proposal.root (dying_by s) v g.0 ends.0 ends.1 ∙ h.difference),
        )

    by : IsStaged t s (Ended ended.0) → FellByLate start w s
    by (inl before) = early before.0
    by (inr all) = concluded all.all all.some
