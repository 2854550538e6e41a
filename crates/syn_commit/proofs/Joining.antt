-- From the counts over the stores to the end of a commit.
use Rattle.std.proofs.Common.{◌≡◌, ℕ, zero, suc, ◌<◌, Bool, true, false, if◌then◌else◌, List, [], ◌∷◌, length, get_or, Some, refl, sym, ap, ◌∙◌, subst, arith, inl, inr}
use Rattle.std.specs.List.{AllByRecursion}
use Rattle.arrayvec.specs.ArrayVec.{ArrayVec}
use Rattle.syn_rows.specs.declared.Row.{Row}
use Rattle.syn_rows.specs.declared.Row.TheVariants.{Free, Source, And, Alias}
use Rattle.syn_rows.specs.Rows.{is_derived, row_at}
use Rattle.syn_rows.specs.Nodes.{has_node}
use Rattle.syn_rows.proofs.Nodes.{here_or_there}
use Rattle.syn_fanout_free.specs.Freed.{is_free}
use Rattle.syn_core_laws.specs.declared.View.{View}
use Rattle.syn_core_laws.specs.Shown.{IsShown}
use Rattle.syn_core_laws.specs.Views.{is_derived_known, known_row}
use Rattle.syn_decide.specs.declared.decisions.NodeRow.{NodeRow}
use Rattle.syn_decide.specs.Tasks.{Task}
use Rattle.syn_decide.specs.Decided.{Done}
use Rattle.syn_decide.specs.Fitting.{HitsAreInside, IsInside}
use Rattle.syn_decide.specs.Fold.{Ended, State, placed_now}
use Rattle.syn_decide.specs.Hints.{first_new, rows_needed}
use Rattle.syn_decide.specs.Walk.{enters, nodes_of}
use Rattle.syn_decide.proofs.Fitting.{hits_always_inside}
use Rattle.syn_commit_laws.specs.Gains.{IsApart, StoreNothingOf}
use Rattle.syn_commit_laws.specs.Redefining.{IsInOrder, row_made}
use Rattle.syn_commit_laws.specs.Turning.{Spares, TurnsAll}
use Rattle.syn_commit_laws.proofs.Deaths.{free_nodes_live, new_rows_spare}
use Rattle.syn_commit_laws.proofs.Gains.{done_tells_gain, new_gates_are_stored, stored_rows_spare}
use Rattle.syn_commit_laws.proofs.Goings.{freeing_begins}
use Rattle.syn_commit_laws.proofs.Keeping.{leaf_below}
use Rattle.syn_commit.specs.Counts.{CountsAreLoaded, dying_by}
use Rattle.syn_commit.specs.Finishing.{HasStored, new_row, root_change}
use Rattle.syn_commit.specs.Stages.{IsTrying}
use Rattle.syn_commit.specs.Storing.{RedefinesRow, makes_rows, node_at}
use Rattle.syn_commit.proofs.Insides.{AreInside, inner_inside}
use Rattle.syn_commit.proofs.Loads.{staged}
use Rattle.syn_commit.proofs.Returning.{used_is_leaf}
use Rattle.syn_commit.proofs.Sparing.{SparesAll, stores_free}
use Rattle.syn_commit.proofs.Staging.{IsConcluded, IsStaged}
use Rattle.syn_commit.proofs.Tallying.{AreTallied, all_tallied}

-- Between the counts and the end rows were made for the new gates that need one, in nodes that were spare, and the root was redefined.
pub record AreStoredBy (nodes : ℕ) (t : Task) (s : State) (low step : ℕ) (made : List NodeRow) (counted w v : View) : Type 0 where
  pub count : length made ≡ rows_needed t (placed_now t s)
  pub spare : (i : ℕ) → i < length made → known_row counted (node_at made i) ≡ Some Free
  pub rows : (i : ℕ) (d : NodeRow) → i < length made → (get_or made i d).row ≡ row_made (nodes_of made) (row_at (placed_now t s).extra i)
  pub makes : TurnsAll nodes counted (makes_rows low step 0 made) w
  pub kept : (r : Row) → known_row counted t.proposal.root ≡ Some r → known_row w t.proposal.root ≡ Some r
  pub redefined : RedefinesRow nodes w t.proposal.root (new_row t s made) v
  pub root_row : known_row v t.proposal.root ≡ Some (new_row t s made)
  pub root_gate : is_derived (new_row t s made) ≡ true

inside_at : (t : Task) (rows : List NodeRow) (m : ℕ) → AreInside t rows → has_node (nodes_of rows) m ≡ true → IsInside t m
inside_at t [] m a h = absurd (cc)
inside_at t (q ∷ rows) m a h = elim (here_or_there q.node m (nodes_of rows) h) [ inl same ↦ subst (IsInside t) (sym same) a.0 | inr there ↦ inside_at t rows m a.1 there ]

pub hit_below : (t : Task) (rows : List NodeRow) (m : ℕ) → HitsAreInside t rows → has_node (nodes_of rows) m ≡ true → m < first_new
hit_below t [] m a h = absurd (cc)
hit_below t (q ∷ rows) m a h = elim (here_or_there q.node m (nodes_of rows) h) [ inl same ↦ subst (λ k. k < first_new) (sym same) a.0.1 | inr there ↦ hit_below t rows m a.1 there ]

each_at : (P : NodeRow → Type 0) (rows : List NodeRow) → ((i : ℕ) (d : NodeRow) → i < length rows → P (get_or rows i d)) → AllByRecursion P rows
each_at P [] f = tt
each_at P (q ∷ rows) f = (f 0 q (omega arith), each_at P rows (λ i d lt. f (suc i) d (omega (arith, lt))))

pub node_there : (rows : List NodeRow) (i : ℕ) (d : NodeRow) → i < length rows → (get_or rows i d).node ≡ node_at rows i
node_there [] i d lt = absurd (omega arith)
node_there (q ∷ rows) zero d lt = refl
node_there (q ∷ rows) (suc i) d lt = node_there rows i d (omega arith)

pub gate_no_free : (r : Row) → is_derived r ≡ true → is_free r ≡ false
gate_no_free Free h = absurd (cc)
gate_no_free Source h = refl
gate_no_free (And a b) h = refl
gate_no_free (Alias a) h = refl

module _ (nodes : ℕ) (t : Task) (start counted : View) (pool pins : List ℕ) (s : State) (order : IsInOrder t) (root_enters : enters t.proposal.leaves [] t.proposal.root ≡ true) (h : IsTrying t start pool pins counted s) (shown : IsShown nodes counted)
    (k : AreTallied nodes t counted (nodes_of s.hits) s.inner s.counts) where
  hits_inside : HitsAreInside t s.hits
  hits_inside = subst (λ (y : State). HitsAreInside t y.hits) (sym h.reads.state) (hits_always_inside t h.reads.met)

  not_may : (m : ℕ) → (k.may m ≡ true → ⊥) → k.may m ≡ false
  not_may m f = go (k.may m) refl
    where
      go : (b : Bool) → k.may m ≡ b → b ≡ false
      go true e = absurd (f e)
      go false e = refl

  -- what may die is apart from all that stored rows refer to
  may_apart : (low step : ℕ) (made : List NodeRow) (w v : View) → AreStoredBy nodes t s low step made counted w v → IsApart t s.hits (nodes_of made) k.may
  may_apart low step made w v b = record {
    constant = k.walk.constant;
    leaves = λ m used.
        let leaf = used_is_leaf t 0 t.proposal.leaves m used in (
          not_may m (λ e. let no = (inside_at t s.inner m (inner_inside t start counted s root_enters h.reads) (k.may_inner m e)).inside in let contra : true ≡ false = sym leaf ∙ no in cc),
          (let lt = leaf_below t.proposal.root t.proposal.leaves m order.below leaf in let there = order.there in omega (arith, lt, there)),
        );
    found = λ m hit. (not_may m (λ e. let no = k.may_other m e in let contra : true ≡ false = sym hit ∙ no in cc), hit_below t s.hits m hits_inside hit);
    new = λ i lt. not_may (node_at made i) (λ e.
        let gate = k.walk.gates (node_at made i) e in
        let free = b.spare i (omega (arith, lt, b.count)) in
        let contra : is_derived_known (Some Free) ≡ true = ap is_derived_known (sym free) ∙ gate in cc);
  }

  stored : (low step gain : ℕ) (made : List NodeRow) (w v : View) → IsConcluded t s (Done gain) → AreStoredBy nodes t s low step made counted w v → HasStored nodes t.proposal.root (dying_by s) counted k.old (new_row t s made) (length made) gain v
  stored low step gain made w v all b = record {
    doomed = k.doomed;
    freeing = stores_free nodes t.proposal.root low step (dying_by s) counted counted w v made k.old (new_row t s made) over k.doomed (freeing_begins nodes t.proposal.root (dying_by s) counted k.doomed) spared b.makes
        (b.kept k.old k.root_row) (b.redefined over);
    root_row = b.root_row;
    spared = new_rows_spare nodes counted k.count t.proposal.root k.may (dying_by s) (new_row t s made) k.dies nothing.root;
    first = ap (λ c. if c then [] else root_change t.proposal.root k.old (new_row t s made) ∷ []) (gate_no_free (new_row t s made) b.root_gate);
    ands =
        let g = done_tells_gain t s gain (sym all.is) in
        let n = new_gates_are_stored t s.hits (nodes_of made) in
        let f = k.ands in
        let c = b.count in
        let a = g.ands in
        omega (arith, n, f, c, a);
  }
    where
      over : ArrayVec ℕ
      over = record { items = [] }

      nothing : StoreNothingOf t s.hits (nodes_of made) k.may
      nothing = stored_rows_spare t s.hits (nodes_of made) k.may (may_apart low step made w v b)

      spared : SparesAll (dying_by s) made
      spared = each_at (λ r. (dying_by s r.node ≡ false) × Spares (dying_by s) r.row) made (λ i d lt. (
        subst (λ m. dying_by s m ≡ false) (sym (node_there made i d lt)) (free_nodes_live nodes t.proposal.root (dying_by s) counted (node_at made i) k.doomed (b.spare i lt)),
        subst (Spares (dying_by s)) (sym (b.rows i d lt)) (new_rows_spare nodes counted k.count t.proposal.root k.may (dying_by s) (row_made (nodes_of made) (row_at (placed_now t s).extra i)) k.dies (nothing.rows i (omega (arith, lt, b.count)))),
      ))

-- After the answer `Done` such stores leave what the end of a commit needs.
pub stores_finish : (nodes : ℕ) (t : Task) (start counted w v : View) (pool pins : List ℕ) (s : State) (low step gain : ℕ) (made : List NodeRow)
    → IsInOrder t → enters t.proposal.leaves [] t.proposal.root ≡ true → IsTrying t start pool pins counted s → IsShown nodes counted → CountsAreLoaded nodes counted s → s.stage ≡ Ended (Done gain)
    → AreStoredBy nodes t s low step made counted w v
    → (old : Row) × (known_row counted t.proposal.root ≡ Some old) × HasStored nodes t.proposal.root (dying_by s) counted old (new_row t s made) (length made) gain v
stores_finish nodes t start counted w v pool pins s low step gain made order root_enters h shown loaded ended b =
    let at : IsStaged t s (Ended (Done gain)) = subst (IsStaged t s) ended (staged t start counted s h.reads) in by at
  where
    finish : IsConcluded t s (Done gain) → (old : Row) × (known_row counted t.proposal.root ≡ Some old) × HasStored nodes t.proposal.root (dying_by s) counted old (new_row t s made) (length made) gain v
    finish all =
        let k = all_tallied nodes t start counted pool pins s root_enters h shown loaded all.all all.some in
        (k.old, k.root_row, stored nodes t start counted pool pins s order root_enters h shown k low step gain made w v all b)

    by : IsStaged t s (Ended (Done gain)) → (old : Row) × (known_row counted t.proposal.root ≡ Some old) × HasStored nodes t.proposal.root (dying_by s) counted old (new_row t s made) (length made) gain v
    by (inl early) = absurd (cc_early early.1)
      where
        cc_early : false ≡ true → ⊥
        cc_early e = cc
    by (inr all) = finish all
