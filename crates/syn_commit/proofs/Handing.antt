-- A commit that gives up: what it has, and what became of the view at the end.
use Rattle.std.proofs.Common.{◌≡◌, ◌⊎◌, ℕ, zero, suc, ◌+◌, ◌≤◌, ◌||◌, Bool, true, false, if◌then◌else◌, List, [], ◌∷◌, ◌++◌, length, Some, refl, sym, ap, ◌∙◌, subst, arith, inl, inr, append-nil, pos, ◌+ℤ◌}
use Rattle.std.specs.List.{AllByRecursion}
use Rattle.std.proofs.lemmas.Bool.{cases_eq, or_cases}
use Rattle.syn_rows.specs.Rows.{is_derived}
use Rattle.syn_rows.specs.Nodes.{has_node}
use Rattle.syn_rows.specs.References.{hits, times}
use Rattle.syn_rows.proofs.Nodes.{has_here, has_left, has_right, here_or_there}
use Rattle.syn_core_laws.specs.declared.View.{View}
use Rattle.syn_core_laws.specs.declared.Change.{Change}
use Rattle.syn_core_laws.specs.declared.EventKind.{EventKind}
use Rattle.syn_core_laws.specs.declared.EventKind.TheVariants as Kind
use Rattle.syn_core_laws.specs.Views.{known_row}
use Rattle.syn_core_laws.proofs.Counting.{has_times, hits_other, hits_same, times_append, times_has}
use Rattle.syn_plan.specs.declared.TheConstants.{MAX_GATES}
use Rattle.syn_decide.specs.declared.decisions.TheConstants.{MAX_INNER}
use Rattle.syn_decide.specs.declared.decisions.NodeRow.{NodeRow}
use Rattle.syn_decide.specs.Tasks.{Task}
use Rattle.syn_decide.specs.Walk.{enters, nodes_of}
use Rattle.syn_decide.specs.Walked.{IsWalked}
use Rattle.syn_decide.specs.Fold.{State}
use Rattle.syn_decide.proofs.Walking.{always_walked, nodes_more}
use Rattle.syn_commit_laws.specs.Freeing.{IsTold, late, redefines}
use Rattle.syn_commit_laws.specs.Turning.{stored_by}
use Rattle.syn_commit_laws.proofs.Giving.{early_tells}
use Rattle.syn_commit_laws.proofs.Goings.{frees_add_none, telling_begins, telling_goes_on}
use Rattle.syn_commit.specs.Giving.{GivesBackAll, HasGivenUp, HoldsAlone, IsGiving, with_gate, with_gates}
use Rattle.syn_commit.specs.Stages.{IsTrying}
use Rattle.syn_commit.specs.Walks.{IsOfReads}
use Rattle.syn_commit.specs.Pools.{KeepsPool}
use Rattle.syn_core_laws.specs.Shown.{IsShown}
use Rattle.syn_commit.proofs.Trying.{not_idle, spare_not_idle}

-- ---- the gates that a commit has
either_gate : (P : List NodeRow → Type 0) (gates : List NodeRow) (r : NodeRow) → (has_node (nodes_of gates) r.node ≡ true → P gates) → (has_node (nodes_of gates) r.node ≡ false → P (gates ++ r ∷ [])) → P (with_gate gates r)
either_gate P gates r there not_there = go (has_node (nodes_of gates) r.node) refl
  where
    go : (b : Bool) → has_node (nodes_of gates) r.node ≡ b → P (if b then gates else gates ++ r ∷ [])
    go true e = there e
    go false e = not_there e

all_snoc : (P : NodeRow → Type 0) (rows : List NodeRow) (r : NodeRow) → AllByRecursion P rows → P r → AllByRecursion P (rows ++ r ∷ [])
all_snoc P [] r a p = (p, tt)
all_snoc P (q ∷ rows) r a p = (a.0, all_snoc P rows r a.1 p)

gates_all : (P : NodeRow → Type 0) (gates rows : List NodeRow) → AllByRecursion P gates → AllByRecursion P rows → AllByRecursion P (with_gates gates rows)
gates_all P gates [] a b = a
gates_all P gates (r ∷ rows) a b = gates_all P (with_gate gates r) rows (either_gate (λ gs. AllByRecursion P gs) gates r (λ e. a) (λ e. all_snoc P gates r a b.0)) b.1

gates_once : (gates rows : List NodeRow) → ((n : ℕ) → times n (nodes_of gates) ≤ 1) → (n : ℕ) → times n (nodes_of (with_gates gates rows)) ≤ 1
gates_once gates [] o = o
gates_once gates (r ∷ rows) o = gates_once (with_gate gates r) rows (either_gate (λ gs. (n : ℕ) → times n (nodes_of gs) ≤ 1) gates r (λ e. o) more)
  where
    none : has_node (nodes_of gates) r.node ≡ false → (k : ℕ) → times r.node (nodes_of gates) ≡ k → k ≡ 0
    none e zero f = refl
    none e (suc k) f = let yes : has_node (nodes_of gates) r.node ≡ true = has_times r.node (nodes_of gates) (omega (arith, f)) in absurd (cc)

    more : has_node (nodes_of gates) r.node ≡ false → (n : ℕ) → times n (nodes_of (gates ++ r ∷ [])) ≤ 1
    more e n = elim (cases_eq n r.node) [
      | inl same ↦ (
          let a = ap (times n) (nodes_more gates r) ∙ times_append n (nodes_of gates) (r.node ∷ []) in
          let one : hits n r.node ≡ 1 = ap (hits n) (sym same) ∙ hits_same n in
          let zero_there : times n (nodes_of gates) ≡ 0 = ap (λ k. times k (nodes_of gates)) same ∙ none e (times r.node (nodes_of gates)) refl in
          omega (arith, a, one, zero_there)
          )
      | inr ne ↦ (
          let a = ap (times n) (nodes_more gates r) ∙ times_append n (nodes_of gates) (r.node ∷ []) in
          let zero_here = hits_other n r.node ne in
          let b = o n in
          omega (arith, a, zero_here, b)
          )
    ]

gates_stay : (gates rows : List NodeRow) (n : ℕ) → has_node (nodes_of gates) n ≡ true → has_node (nodes_of (with_gates gates rows)) n ≡ true
gates_stay gates [] n h = h
gates_stay gates (r ∷ rows) n h = gates_stay (with_gate gates r) rows n (either_gate (λ gs. has_node (nodes_of gs) n ≡ true) gates r (λ e. h) (λ e. subst (λ ns. has_node ns n ≡ true) (sym (nodes_more gates r)) (has_left (nodes_of gates) (r.node ∷ []) n h)))

gates_join : (gates rows : List NodeRow) (n : ℕ) → has_node (nodes_of rows) n ≡ true → has_node (nodes_of (with_gates gates rows)) n ≡ true
gates_join gates [] n h = absurd (cc)
gates_join gates (r ∷ rows) n h = elim (here_or_there r.node n (nodes_of rows) h) [
  | inl same ↦ gates_stay (with_gate gates r) rows n (subst (λ k. has_node (nodes_of (with_gate gates r)) k ≡ true) (sym same)
      (either_gate (λ gs. has_node (nodes_of gs) r.node ≡ true) gates r (λ e. e) (λ e. subst (λ ns. has_node ns r.node ≡ true) (sym (nodes_more gates r)) (has_right (nodes_of gates) (r.node ∷ []) r.node (has_here r.node [])))))
  | inr there ↦ gates_join (with_gate gates r) rows n there
]

-- what a commit on the way has, when it begins to give back
pub trying_gives : (t : Task) (start v : View) (pool pins : List ℕ) (s : State) (gates : List NodeRow) → enters t.proposal.leaves [] t.proposal.root ≡ true → IsTrying t start pool pins v s
    → gates ≡ with_gates (with_gates [] s.inner) s.hits → length gates ≤ MAX_INNER + MAX_GATES → IsGiving pool pins gates [] v
trying_gives t start v pool pins s gates root h is few = record {
  spare = h.spare;
  held = λ n there. held n (or_cases (has_node pool n) (has_node (nodes_of s.inner) n || has_node (nodes_of s.hits) n) (sym (h.held n) ∙ there));
  known = subst (λ gs. AllByRecursion (λ r. known_row v r.node ≡ Some r.row) gs) (sym is) (gates_all (λ r. known_row v r.node ≡ Some r.row) (with_gates [] s.inner) s.hits (gates_all (λ r. known_row v r.node ≡ Some r.row) [] s.inner tt h.inner) h.hits);
  idle_known = tt;
  derived = subst (λ gs. AllByRecursion (λ r. is_derived r.row ≡ true) gs) (sym is) (gates_all (λ r. is_derived r.row ≡ true) (with_gates [] s.inner) s.hits (gates_all (λ r. is_derived r.row ≡ true) [] s.inner tt walked.gates) h.gates);
  idle_derived = tt;
  once = λ n. let o = subst (λ gs. times n (nodes_of gs) ≤ 1) (sym is) (gates_once (with_gates [] s.inner) s.hits (gates_once [] s.inner (λ m. omega arith)) n) in omega (arith, o);
  idle_there = λ n there. let none : has_node [] n ≡ true = subst (λ ns. has_node ns n ≡ true) h.idle there in absurd (cc);
  idle_all = λ n l. absurd (omega (arith, l));
  pinned = h.pinned;
  room = omega (arith, few);
}
  where
    walked : IsWalked t s.inner s.stage
    walked = subst (λ (y : State). IsWalked t y.inner y.stage) (sym h.reads.state) (always_walked t h.reads.met root)

    some : (n : ℕ) → has_node (nodes_of (with_gates (with_gates [] s.inner) s.hits)) n ≡ true → 1 ≤ times n (nodes_of gates) + 0
    some n there = let l = times_has n (nodes_of gates) (subst (λ gs. has_node (nodes_of gs) n ≡ true) (sym is) there) in omega (arith, l)

    held : (n : ℕ) → (has_node pool n ≡ true) ⊎ ((has_node (nodes_of s.inner) n || has_node (nodes_of s.hits) n) ≡ true) → (has_node pool n ≡ true) ⊎ (1 ≤ times n (nodes_of gates) + times n (nodes_of []))
    held n (inl spare) = inl spare
    held n (inr gate) = elim (or_cases (has_node (nodes_of s.inner) n) (has_node (nodes_of s.hits) n) gate) [
      | inl inner ↦ inr (some n (gates_stay (with_gates [] s.inner) s.hits n (gates_join [] s.inner n inner)))
      | inr hit ↦ inr (some n (gates_join (with_gates [] s.inner) s.hits n hit))
    ]

-- ---- at the end
pub giving_no_pins : (pool : List ℕ) (gates : List NodeRow) (v : View) → IsGiving pool [] gates [] v → v.pins ≡ []
giving_no_pins pool gates v g = go v.pins g.pinned
  where
    go : (ps : List ℕ) → ((m : ℕ) → times m ps ≡ times m []) → ps ≡ []
    go [] p = refl
    go (x ∷ ps) p = let one = hits_same x in let none = p x in absurd (omega (arith, one, none))

pub giving_no_idle : (pool : List ℕ) (gates : List NodeRow) (v : View) → IsGiving pool [] gates [] v → v.idle ≡ []
giving_no_idle pool gates v g = go v.idle (λ n h. let l = g.idle_there n h in omega (arith, l))
  where
    go : (ns : List ℕ) → ((n : ℕ) → has_node ns n ≡ true → ⊥) → ns ≡ []
    go [] f = refl
    go (x ∷ ns) f = absurd (f x (has_here x ns))

pub holds_alone : (pool : List ℕ) (v : View) → IsGiving pool [] [] [] v → HoldsAlone pool v
holds_alone pool v g = record {
  spare = g.spare;
  held = λ n. go n (has_node v.held n) (has_node pool n) refl refl;
  pins = giving_no_pins pool [] v g;
  idle = giving_no_idle pool [] v g;
}
  where
    go : (n : ℕ) (a b : Bool) → has_node v.held n ≡ a → has_node pool n ≡ b → a ≡ b
    go n true true p q = refl
    go n true false p q = elim (g.held n p) [ inl spare ↦ (let yes : has_node pool n ≡ true = spare in absurd (cc)) | inr l ↦ absurd (omega (arith, l)) ]
    go n false true p q = let yes = g.spare.held n q in absurd (cc)
    go n false false p q = refl

-- ---- what is given back tells nothing new, and stores frees alone
record IsQuiet (v w : View) : Type 0 where
  number : w.number ≡ v.number
  reads : w.reads ≡ v.reads
  misses : w.misses ≡ v.misses
  makes : w.makes ≡ v.makes

record IsToldFrees (start w : View) : Type 0 where
  changes : List Change
  told : IsTold start 0 changes w
  alone : redefines changes ≡ []

quiet_all : (nodes : ℕ) (v w : View) (es : List EventKind) → GivesBackAll nodes v es w → IsQuiet v w
quiet_all nodes v w [] e = record { number = ap (λ (x : View). x.number) e; reads = ap (λ (x : View). x.reads) e; misses = ap (λ (x : View). x.misses) e; makes = ap (λ (x : View). x.makes) e }
quiet_all nodes v w (Kind.Claim n ∷ es) e = absurd e.2
quiet_all nodes v w (Kind.ClaimFailed n ∷ es) e = absurd e.2
quiet_all nodes v w (Kind.Release n ∷ es) e = let q = quiet_all nodes e.0 w es e.3 in record {
  number = q.number ∙ ap (λ (x : View). x.number) e.1;
  reads = q.reads ∙ ap (λ (x : View). x.reads) e.1;
  misses = q.misses ∙ ap (λ (x : View). x.misses) e.1;
  makes = q.makes ∙ ap (λ (x : View). x.makes) e.1;
}
quiet_all nodes v w (Kind.LoadRow n ∷ es) e = absurd e.2
quiet_all nodes v w (Kind.Pin n ∷ es) e = absurd e.2
quiet_all nodes v w (Kind.Unpin n ∷ es) e = let q = quiet_all nodes e.0 w es e.3 in let u = e.1.3 in record {
  number = q.number ∙ ap (λ (x : View). x.number) u;
  reads = q.reads ∙ ap (λ (x : View). x.reads) u;
  misses = q.misses ∙ ap (λ (x : View). x.misses) u;
  makes = q.makes ∙ ap (λ (x : View). x.makes) u;
}
quiet_all nodes v w (Kind.LoadCount n ∷ es) e = absurd e.2
quiet_all nodes v w (Kind.LoadKey n ∷ es) e = absurd e.2
quiet_all nodes v w (Kind.SetKey n key ∷ es) e = absurd e.2
quiet_all nodes v w (Kind.Make n row ∷ es) e = absurd e.2
quiet_all nodes v w (Kind.Redefine n row over ∷ es) e = absurd e.2
quiet_all nodes v w (Kind.Free n ∷ es) e = let q = quiet_all nodes e.0 w es e.3 in let u = e.1.6 in record {
  number = q.number ∙ ap (λ (x : View). x.number) u;
  reads = q.reads ∙ ap (λ (x : View). x.reads) u;
  misses = q.misses ∙ ap (λ (x : View). x.misses) u;
  makes = q.makes ∙ ap (λ (x : View). x.makes) u;
}

told_all : (nodes : ℕ) (start v w : View) (changes : List Change) (es : List EventKind) → IsTold start 0 changes v → redefines changes ≡ [] → GivesBackAll nodes v es w → IsToldFrees start w
told_all nodes start v w changes [] told alone e = record { changes = changes; told = subst (IsTold start 0 changes) (sym e) told; alone = alone }
told_all nodes start v w changes (Kind.Claim n ∷ es) told alone e = absurd e.2
told_all nodes start v w changes (Kind.ClaimFailed n ∷ es) told alone e = absurd e.2
told_all nodes start v w changes (Kind.Release n ∷ es) told alone e =
    told_all nodes start e.0 w (changes ++ []) es (telling_goes_on nodes start v e.0 0 changes (Kind.Release n) told e.1) (ap redefines (append-nil changes) ∙ alone) e.3
told_all nodes start v w changes (Kind.LoadRow n ∷ es) told alone e = absurd e.2
told_all nodes start v w changes (Kind.Pin n ∷ es) told alone e = absurd e.2
told_all nodes start v w changes (Kind.Unpin n ∷ es) told alone e =
    told_all nodes start e.0 w (changes ++ []) es (telling_goes_on nodes start v e.0 0 changes (Kind.Unpin n) told e.1) (ap redefines (append-nil changes) ∙ alone) e.3
told_all nodes start v w changes (Kind.LoadCount n ∷ es) told alone e = absurd e.2
told_all nodes start v w changes (Kind.LoadKey n ∷ es) told alone e = absurd e.2
told_all nodes start v w changes (Kind.SetKey n key ∷ es) told alone e = absurd e.2
told_all nodes start v w changes (Kind.Make n row ∷ es) told alone e = absurd e.2
told_all nodes start v w changes (Kind.Redefine n row over ∷ es) told alone e = absurd e.2
told_all nodes start v w changes (Kind.Free n ∷ es) told alone e =
    told_all nodes start e.0 w (changes ++ stored_by v (Kind.Free n)) es (telling_goes_on nodes start v e.0 0 changes (Kind.Free n) told e.1) (frees_add_none v n changes ∙ alone) e.3

pub reads_stay : (t : Task) (start v w : View) (nodes : ℕ) (pool grown : List ℕ) (s : State) → IsOfReads t start v s → HasGivenUp nodes v pool w grown → IsOfReads t start w s
reads_stay t start v w nodes pool grown s o g =
    let q = quiet_all nodes v g.0 g.1.0 g.1.1 in
    record { met = o.met; reads = g.2.reads ∙ (q.reads ∙ o.reads); misses = g.2.misses ∙ (q.misses ∙ o.misses); state = o.state }

-- nor makes a row
pub makes_stay : (v w : View) (nodes : ℕ) (pool grown : List ℕ) → HasGivenUp nodes v pool w grown → w.makes ≡ v.makes
makes_stay v w nodes pool grown g = g.2.makes ∙ (quiet_all nodes v g.0 g.1.0 g.1.1).makes

-- nothing was counted as dying: each AND that was freed is late
pub fell_by_all : (start v w : View) (nodes : ℕ) (pool grown : List ℕ) → v.changes ≡ start.changes → v.difference ≡ start.difference → HasGivenUp nodes v pool w grown
    → (changes : List Change) × (w.changes ≡ start.changes ++ changes) × (redefines changes ≡ []) × (w.difference +ℤ pos (late (λ n. false) changes) ≡ start.difference)
fell_by_all start v w nodes pool grown stored fell g =
    let told = told_all nodes v v g.0 [] g.1.0 (telling_begins v) refl g.1.1 in (
      told.changes,
      g.2.changes ∙ (told.told.stored ∙ ap (λ cs. cs ++ told.changes) stored),
      told.alone,
      ap (λ d. d +ℤ pos (late (λ n. false) told.changes)) g.2.difference ∙ (early_tells v g.0 told.changes told.told told.alone ∙ fell),
    )

-- a seat that holds its pool alone has nothing on its zero list
pub nothing_idle : (nodes : ℕ) (v : View) (pool : List ℕ) → IsShown nodes v → KeepsPool v pool → ((n : ℕ) → has_node v.held n ≡ has_node pool n) → v.idle ≡ []
nothing_idle nodes v pool shown keeps alone = go v.idle (λ n h. off n h (has_node pool n) refl)
  where
    off : (n : ℕ) → has_node v.idle n ≡ true → (b : Bool) → has_node pool n ≡ b → ⊥
    off n h true e = let out : has_node v.idle n ≡ false = spare_not_idle nodes v n shown (keeps.free n e) in cc
    off n h false e = let out : has_node v.idle n ≡ false = not_idle nodes v n shown (alone n ∙ e) in cc

    go : (ns : List ℕ) → ((n : ℕ) → has_node ns n ≡ true → ⊥) → ns ≡ []
    go [] f = refl
    go (x ∷ ns) f = absurd (f x (has_here x ns))
