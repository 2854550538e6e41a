-- What the counts tell: the rows that the decision counts as dying are doomed.
use Rattle.std.proofs.Common.{◌≡◌, ◌≢◌, ℕ, ◌+◌, ◌-◌, ◌<◌, ◌≤◌, ◌==◌, ◌&&◌, not, Bool, true, false, if◌then◌else◌, List, [], ◌∷◌, length, Some, refl, sym, ap, ◌∙◌, subst, arith, inl, inr}
use Rattle.std.specs.List.{AllByRecursion}
use Rattle.std.proofs.lemmas.Bool.{and_parts, ne_eqb, or_right}
use Rattle.syn_rows.specs.declared.Row.{Row}
use Rattle.syn_rows.specs.Rows.{is_derived, refs_of}
use Rattle.syn_rows.specs.Nodes.{has_node}
use Rattle.syn_rows.specs.References.{and_count}
use Rattle.syn_rows.proofs.Nodes.{node_same}
use Rattle.syn_core_laws.specs.declared.View.{View}
use Rattle.syn_core_laws.specs.Views.{is_derived_known, known_row, own_pins, refs_known}
use Rattle.syn_core_laws.specs.Shown.{IsShown}
use Rattle.syn_core_laws.proofs.Counting.{times_has}
use Rattle.syn_decide.specs.declared.decisions.Counted.{Counted}
use Rattle.syn_decide.specs.declared.decisions.NodeRow.{NodeRow}
use Rattle.syn_decide.specs.Tasks.{Task}
use Rattle.syn_decide.specs.Dying.{ands_of, are_distinct, counted_nodes, counted_of, dying_of}
use Rattle.syn_decide.specs.Walk.{enters, nodes_of}
use Rattle.syn_decide.specs.Walked.{AreGates, AreMet, FirstIs, IsLinked, IsWalked}
use Rattle.syn_decide.specs.Fold.{State}
use Rattle.syn_decide.proofs.Walking.{always_walked}
use Rattle.syn_decide.proofs.Linking.{always_linked}
use Rattle.syn_decide.proofs.Least.{IsOf, distinct_parts, has_of}
use Rattle.syn_commit_laws.specs.Counted.{AreCounted, dead_of, may_die}
use Rattle.syn_commit_laws.specs.Dying.{AreDoomed, AreLoaded, IsDying, IsLoaded, IsWalk, ands_in}
use Rattle.syn_commit_laws.proofs.Bridging.{at_row, counted_rows_die, row_of}
use Rattle.syn_commit_laws.proofs.Deaths.{dying_are_doomed}
use Rattle.syn_commit.specs.Counts.{CountsAreLoaded}
use Rattle.syn_commit.specs.Stages.{IsTrying}
use Rattle.syn_commit.specs.Walks.{AreKnown}
use Rattle.syn_commit.proofs.Entering.{referring}
use Rattle.syn_commit.proofs.Insides.{AreInside, inner_inside}

-- ---- counted rows beside inner rows
counted_is : (inner : List NodeRow) (counts : List ℕ) → length counts ≡ length inner → counted_nodes (counted_of inner counts) ≡ nodes_of inner
counted_is [] counts e = refl
counted_is (r ∷ inner) [] e = absurd (cc)
counted_is (r ∷ inner) (c ∷ counts) e = ap (λ ns. r.node ∷ ns) (counted_is inner counts (omega (arith, e)))

counted_all : (P : ℕ → Row → Type 0) (inner : List NodeRow) (counts : List ℕ) → AllByRecursion (λ r. P r.node r.row) inner → AllByRecursion (λ r. P r.node r.row) (counted_of inner counts)
counted_all P [] counts h = tt
counted_all P (r ∷ inner) [] h = tt
counted_all P (r ∷ inner) (c ∷ counts) h = (h.0, counted_all P inner counts h.1)

every_row : (P : Counted → Type 0) (rows : List Counted) → ((r : Counted) → IsOf r rows → P r) → AllByRecursion P rows
every_row P [] f = tt
every_row P (q ∷ rows) f = (f q (inl refl), every_row P rows (λ r o. f r (inr o)))

-- the references of a counted row's node that are not the seat's own pins
abbrev pub others_at : List Counted → ℕ → ℕ
others_at [] m = 0
others_at (r ∷ rows) m = if r.node == m then r.others else others_at rows m

-- the count that was loaded of the node
abbrev pub count_in : View → List Counted → ℕ → ℕ
count_in v rows m = others_at rows m + own_pins v m

others_of : (rows : List Counted) → are_distinct (counted_nodes rows) ≡ true → (r : Counted) → IsOf r rows → others_at rows r.node ≡ r.others
others_of [] d r o = absurd o
others_of (q ∷ rows) d r (inl e) = subst (λ (x : Counted). (if q.node == x.node then q.others else others_at rows x.node) ≡ x.others) e (ap (λ b. if b then q.others else others_at rows q.node) (node_same q.node))
others_of (q ∷ rows) d r (inr o) =
    let parts = distinct_parts q.node (counted_nodes rows) d in
    let there : has_node (counted_nodes rows) r.node ≡ true = has_of r rows o in
    let apart : q.node ≢ r.node = λ e. let no : has_node (counted_nodes rows) r.node ≡ false = subst (λ k. has_node (counted_nodes rows) k ≡ false) e parts.0 in cc in
    ap (λ b. if b then q.others else others_at rows r.node) (ne_eqb q.node r.node apart) ∙ others_of rows parts.1 r o

-- ---- the inner rows, each with its count
module _ (nodes : ℕ) (t : Task) (v : View) (hits : List ℕ) (first : NodeRow) (inner : List NodeRow) (c : ℕ) (counts : List ℕ) (full : length counts ≡ length inner)
    (distinct : are_distinct (nodes_of (first ∷ inner)) ≡ true) (begins : first.node ≡ t.proposal.root) (met : AreMet t (first ∷ inner) (nodes_of (first ∷ inner)))
    (inside : AreInside t (first ∷ inner)) (gates : AreGates (first ∷ inner)) (known : AreKnown v (first ∷ inner)) (shown : IsShown nodes v)
    (loaded : AllByRecursion (λ r. IsLoaded nodes v r.node (r.others + own_pins v r.node)) (counted_of (first ∷ inner) (c ∷ counts))) where
  abbrev pub head : Counted
  head = record { node = first.node; row = first.row; others = c }

  abbrev pub rest : List Counted
  rest = counted_of inner counts

  abbrev pub count : ℕ → ℕ
  count m = count_in v (head ∷ rest) m

  abbrev pub dying : ℕ → Bool
  dying n = has_node (dead_of (dying_of hits (head ∷ rest))) n

  counted_distinct : are_distinct (counted_nodes (head ∷ rest)) ≡ true
  counted_distinct = subst (λ ns. are_distinct ns ≡ true) (sym (ap (λ ns. first.node ∷ ns) (counted_is inner counts full))) distinct

  root_known : known_row v t.proposal.root ≡ Some first.row
  root_known = subst (λ k. known_row v k ≡ Some first.row) begins known.0

  rest_known : AllByRecursion (λ r. known_row v r.node ≡ Some r.row) rest
  rest_known = counted_all (λ n r. known_row v n ≡ Some r) inner counts known.1

  counted : AreCounted nodes v count (head ∷ rest)
  counted = record {
    distinct = counted_distinct;
    there = ((shown.rows first.node first.row known.0).0, every_row (λ r. r.node < nodes) rest (λ r o. (shown.rows r.node r.row (at_row (λ q. known_row v q.node ≡ Some q.row) rest rest_known r o)).0));
    known = (known.0, rest_known);
    others = every_row (λ r. r.others ≡ count r.node - own_pins v r.node) (head ∷ rest) (λ r o. let same : others_at (head ∷ rest) r.node ≡ r.others = others_of (head ∷ rest) counted_distinct r o in omega (arith, same));
  }

  left_true : (a b : Bool) → (a && b) ≡ true → a ≡ true
  left_true a b h = (and_parts a b h).0

  not_there : (a b : Bool) → a ≡ false → (a && b) ≡ false
  not_there true b h = absurd (cc)
  not_there false b h = refl

  abbrev pub may : ℕ → Bool
  may m = may_die hits rest m

  -- the row of a node that may die
  of_may : (m : ℕ) → may m ≡ true → (r : Counted) × IsOf r rest × (r.node ≡ m)
  of_may m h = row_of rest m (left_true (has_node (counted_nodes rest) m) (not (has_node hits m)) h)

  known_may : (m : ℕ) (h : may m ≡ true) → known_row v m ≡ Some (of_may m h).0.row
  known_may m h = let r = of_may m h in subst (λ k. known_row v k ≡ Some r.0.row) r.2 (at_row (λ q. known_row v q.node ≡ Some q.row) rest rest_known r.0 r.1)

  root_apart : has_node (counted_nodes rest) t.proposal.root ≡ false
  root_apart = subst (λ k. has_node (counted_nodes rest) k ≡ false) begins (distinct_parts first.node (counted_nodes rest) counted_distinct).0

  zero_apart : (b : Bool) → has_node (counted_nodes rest) 0 ≡ b → b ≡ false
  zero_apart true e = let r = row_of rest 0 e in let other = at_row (λ q. q.node ≢ 0) rest (counted_all (λ n q. n ≢ 0) inner counts (others inner inside.1)) r.0 r.1 in absurd (other r.2)
    where
      others : (rows : List NodeRow) → AreInside t rows → AllByRecursion (λ q. q.node ≢ 0) rows
      others [] h = tt
      others (q ∷ rows) h = (h.0.other, others rows h.1)
  zero_apart false e = refl

  pub walk : IsWalk nodes t.proposal.root may v
  walk = record {
    root_there = (shown.rows t.proposal.root first.row root_known).0;
    root_stays = not_there (has_node (counted_nodes rest) t.proposal.root) (not (has_node hits t.proposal.root)) root_apart;
    constant = not_there (has_node (counted_nodes rest) 0) (not (has_node hits 0)) (zero_apart (has_node (counted_nodes rest) 0) refl);
    there = λ m h. (shown.rows m (of_may m h).0.row (known_may m h)).0;
    gates = λ m h. let r = of_may m h in ap is_derived_known (known_may m h) ∙ at_row (λ q. is_derived q.row ≡ true) rest (counted_all (λ n q. is_derived q ≡ true) inner counts gates.1) r.0 r.1;
    referred = referred;
  }
    where
      referred : (m : ℕ) → may m ≡ true → (n : ℕ) × (n < nodes) × (1 ≤ refs_known m (known_row v n))
      referred m h = elim (met m (or_right (first.node == m) (has_node (nodes_of inner) m) (subst (λ ns. has_node ns m ≡ true) (counted_is inner counts full) (left_true (has_node (counted_nodes rest) m) (not (has_node hits m)) h)))) [
        | inl root ↦ (
            let there : has_node (counted_nodes rest) t.proposal.root ≡ true = subst (λ k. has_node (counted_nodes rest) k ≡ true) root (left_true (has_node (counted_nodes rest) m) (not (has_node hits m)) h) in
            absurd (never there)
            )
        | inr is ↦ (
            let q = referring v (first ∷ inner) m known is in
            (q.0, (shown.rows q.0 q.1 q.2).0, subst (λ o. 1 ≤ refs_known m o) (sym q.2) (times_has m (refs_of q.1) q.3))
            )
      ]
        where
          never : has_node (counted_nodes rest) t.proposal.root ≡ true → ⊥
          never there = let not_there = root_apart in cc

  all_loaded : AreLoaded nodes may count v
  all_loaded m h =
      let r = of_may m h in
      let at : IsLoaded nodes v r.0.node (r.0.others + own_pins v r.0.node) = at_row (λ q. IsLoaded nodes v q.node (q.others + own_pins v q.node)) (head ∷ rest) loaded r.0 (inr r.1) in
      let same : r.0.others + own_pins v r.0.node ≡ count r.0.node = ap (λ k. k + own_pins v r.0.node) (sym (others_of (head ∷ rest) counted_distinct r.0 (inr r.1))) in
      subst (λ k. IsLoaded nodes v k (count k)) r.2 (subst (IsLoaded nodes v r.0.node) same at)

  dies : IsDying nodes v count first.node may dying × (and_count first.row + ands_in nodes v dying ≡ ands_of (dying_of hits (head ∷ rest)))
  dies = counted_rows_die nodes v count hits head rest counted

  pub root_dies : IsDying nodes v count t.proposal.root may dying
  root_dies = subst (λ k. IsDying nodes v count k may dying) begins dies.0

  pub doomed : AreDoomed nodes t.proposal.root dying v
  doomed = dying_are_doomed nodes v count t.proposal.root may dying walk all_loaded root_dies

  pub ands_counted : and_count first.row + ands_in nodes v dying ≡ ands_of (dying_of hits (head ∷ rest))
  ands_counted = dies.1

  may_inner : (m : ℕ) → may m ≡ true → has_node (nodes_of (first ∷ inner)) m ≡ true
  may_inner m h = or_right (first.node == m) (has_node (nodes_of inner) m) (subst (λ ns. has_node ns m ≡ true) (counted_is inner counts full) (left_true (has_node (counted_nodes rest) m) (not (has_node hits m)) h))

  may_other : (m : ℕ) → may m ≡ true → has_node hits m ≡ false
  may_other m h = not_true (has_node hits m) (and_parts (has_node (counted_nodes rest) m) (not (has_node hits m)) h).1
    where
      not_true : (b : Bool) → not b ≡ true → b ≡ false
      not_true true h = absurd (cc)
      not_true false h = refl

-- What all counts tell: the root's row, and the dying rows, which are doomed, as many ANDs as were counted. What may die is an inner row's node and no hit.
pub record AreTallied (nodes : ℕ) (t : Task) (v : View) (hits : List ℕ) (inner : List NodeRow) (counts : List ℕ) : Type 0 where
  pub old : Row
  pub root_row : known_row v t.proposal.root ≡ Some old
  pub root_gate : is_derived old ≡ true
  pub may : ℕ → Bool
  pub may_inner : (m : ℕ) → may m ≡ true → has_node (nodes_of inner) m ≡ true
  pub may_other : (m : ℕ) → may m ≡ true → has_node hits m ≡ false
  pub walk : IsWalk nodes t.proposal.root may v
  pub count : ℕ → ℕ
  pub dies : IsDying nodes v count t.proposal.root may (λ n. has_node (dead_of (dying_of hits (counted_of inner counts))) n)
  pub doomed : AreDoomed nodes t.proposal.root (λ n. has_node (dead_of (dying_of hits (counted_of inner counts))) n) v
  pub ands : and_count old + ands_in nodes v (λ n. has_node (dead_of (dying_of hits (counted_of inner counts))) n) ≡ ands_of (dying_of hits (counted_of inner counts))

tallied : (nodes : ℕ) (t : Task) (v : View) (hits : List ℕ) (inner : List NodeRow) (counts : List ℕ) → length counts ≡ length inner → 1 ≤ length inner → are_distinct (nodes_of inner) ≡ true → FirstIs t.proposal.root inner → AreMet t inner (nodes_of inner)
    → AreInside t inner → AreGates inner → AreKnown v inner → IsShown nodes v → AllByRecursion (λ r. IsLoaded nodes v r.node (r.others + own_pins v r.node)) (counted_of inner counts) → AreTallied nodes t v hits inner counts
tallied nodes t v hits [] counts full some distinct begins met inside gates known shown loaded = absurd (omega (arith, some))
tallied nodes t v hits (first ∷ inner) [] full some distinct begins met inside gates known shown loaded = absurd (cc)
tallied nodes t v hits (first ∷ inner) (c ∷ counts) full some distinct begins met inside gates known shown loaded =
    let all : length counts ≡ length inner = omega (arith, full) in
    record {
      old = first.row;
      root_row = root_known nodes t v hits first inner c counts all distinct begins met inside gates known shown loaded;
      root_gate = gates.0;
      may = may nodes t v hits first inner c counts all distinct begins met inside gates known shown loaded;
      may_inner = may_inner nodes t v hits first inner c counts all distinct begins met inside gates known shown loaded;
      may_other = may_other nodes t v hits first inner c counts all distinct begins met inside gates known shown loaded;
      walk = walk nodes t v hits first inner c counts all distinct begins met inside gates known shown loaded;
      count = count nodes t v hits first inner c counts all distinct begins met inside gates known shown loaded;
      dies = root_dies nodes t v hits first inner c counts all distinct begins met inside gates known shown loaded;
      doomed = doomed nodes t v hits first inner c counts all distinct begins met inside gates known shown loaded;
      ands = ands_counted nodes t v hits first inner c counts all distinct begins met inside gates known shown loaded;
    }

-- of a commit whose counts are all loaded
pub all_tallied : (nodes : ℕ) (t : Task) (start v : View) (pool pins : List ℕ) (s : State) → enters t.proposal.leaves [] t.proposal.root ≡ true → IsTrying t start pool pins v s → IsShown nodes v → CountsAreLoaded nodes v s
    → length s.counts ≡ length s.inner → 1 ≤ length s.inner → AreTallied nodes t v (nodes_of s.hits) s.inner s.counts
all_tallied nodes t start v pool pins s root h shown loaded full some =
    let w : IsWalked t s.inner s.stage = subst (λ (y : State). IsWalked t y.inner y.stage) (sym h.reads.state) (always_walked t h.reads.met root) in
    let l : IsLinked t s.inner s.stage = subst (λ (y : State). IsLinked t y.inner y.stage) (sym h.reads.state) (always_linked t h.reads.met) in
    tallied nodes t v (nodes_of s.hits) s.inner s.counts full some w.distinct l.first l.met (inner_inside t start v s root h.reads) w.gates h.inner shown loaded
