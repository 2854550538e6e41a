-- From the rows that a decision counts as dying to the dying rows of a view.
use Rattle.std.proofs.Common.{◌≡◌, ℕ, zero, suc, ◌+◌, ◌-◌, ◌<◌, ◌≤◌, ◌==◌, ◌&&◌, ◌||◌, not, nat_le, Bool, true, false, List, [], ◌∷◌, ◌++◌, length, Option, Some, None, refl, sym, ap, ap₂, ◌∙◌, subst, arith, rules, inl, inr}
use Rattle.std.specs.List.{AllByRecursion}
use Rattle.std.proofs.lemmas.Bool.{and_from, and_parts}
use Rattle.syn_rows.proofs.Nodes.{same_node}
use Rattle.syn_rows.specs.References.{and_count}
use Rattle.syn_core_laws.specs.declared.View.{View}
use Rattle.syn_rows.specs.Nodes.{has_node}
use Rattle.syn_core_laws.specs.Views.{known_row, own_pins, refs_known}
use Rattle.syn_decide.specs.declared.decisions.Counted.{Counted}
use Rattle.syn_decide.specs.Dying.{ands_of, and_more, counted_nodes, dies, dying_after, dying_of, first_dying, refs_by_counted}
use Rattle.syn_decide.proofs.Least.{IsOf, dies_parts, distinct_parts, first_some, has_of, none_left}
use Rattle.syn_commit_laws.specs.Dying.{AreFound, IsDying, ands_among, ands_in, ands_known, explained_by, refs_among}
use Rattle.syn_commit_laws.specs.Counted.{AreCounted, CountedRowsDie, dead_of, may_die}
use Rattle.syn_commit_laws.proofs.Deaths.{finding_begins, finding_ends, finding_goes_on}

le_if : (a b : ℕ) → nat_le a b ≡ true → a ≤ b
le_if a b h = search rules

le_test : (a b : ℕ) → a ≤ b → nat_le a b ≡ true
le_test a b h = search rules

pub at_row : (P : Counted → Type 0) (rows : List Counted) → AllByRecursion P rows → (r : Counted) → IsOf r rows → P r
at_row P [] a r o = absurd o
at_row P (q ∷ rows) a r (inl e) = subst P e a.0
at_row P (q ∷ rows) a r (inr o) = at_row P rows a.1 r o

-- the row of a node that is there
pub row_of : (rows : List Counted) (m : ℕ) → has_node (counted_nodes rows) m ≡ true → (r : Counted) × IsOf r rows × (r.node ≡ m)
row_of [] m h = absurd (cc)
row_of (q ∷ rows) m h = go (q.node == m) refl h (row_of rows m)
  where
    go : (b : Bool) → (q.node == m) ≡ b → (b || has_node (counted_nodes rows) m) ≡ true → (has_node (counted_nodes rows) m ≡ true → (r : Counted) × IsOf r rows × (r.node ≡ m)) → (r : Counted) × IsOf r (q ∷ rows) × (r.node ≡ m)
    go true e k next = (q, inl refl, same_node q.node m e)
    go false e k next = let t = next k in (t.0, inr t.1, t.2)

nodes_more : (rows : List Counted) (r : Counted) → counted_nodes rows ++ r.node ∷ [] ≡ counted_nodes (rows ++ r ∷ [])
nodes_more [] r = refl
nodes_more (q ∷ rows) r = ap (λ ns. q.node ∷ ns) (nodes_more rows r)

all_more : (P : Counted → Type 0) (rows : List Counted) (r : Counted) → AllByRecursion P rows → P r → AllByRecursion P (rows ++ r ∷ [])
all_more P [] r a p = (p, tt)
all_more P (q ∷ rows) r a p = (a.0, all_more P rows r a.1 p)

right_false : (a b : Bool) → (a || b) ≡ false → b ≡ false
right_false true b h = absurd (cc)
right_false false b h = h

not_false : (b : Bool) → b ≡ false → not b ≡ true
not_false true h = absurd (cc)
not_false false h = refl

not_true : (b : Bool) → not b ≡ true → b ≡ false
not_true true h = absurd (cc)
not_true false h = refl

module _ (nodes : ℕ) (v : View) (counts : ℕ → ℕ) (hits : List ℕ) (root : Counted) (rows : List Counted) (c : AreCounted nodes v counts (root ∷ rows)) where
  -- some rows were found to die, behind the root's
  record AreBoth (rest : List Counted) : Type 0 where
    found : AreFound nodes v counts root.node (may_die hits rows) (counted_nodes rest)
    known : AllByRecursion (λ r. known_row v r.node ≡ Some r.row) rest

  refs_are : (rest : List Counted) → AllByRecursion (λ r. known_row v r.node ≡ Some r.row) rest → (m : ℕ) → refs_among v (counted_nodes rest) m ≡ refs_by_counted rest m
  refs_are [] k m = refl
  refs_are (r ∷ rest) k m = ap₂ (λ a b. a + b) (ap (refs_known m) k.0) (refs_are rest k.1 m)

  ands_are : (rest : List Counted) → AllByRecursion (λ r. known_row v r.node ≡ Some r.row) rest → ands_among v (counted_nodes rest) ≡ ands_of rest
  ands_are [] k = refl
  ands_are (r ∷ rest) k = ap₂ (λ a b. a + b) (ap ands_known k.0) (ands_are rest k.1)

  -- what the rows found explain, in both ways
  explained_is : (rest : List Counted) → AreBoth rest → (m : ℕ) → explained_by v root.node (counted_nodes rest) m ≡ own_pins v m + refs_by_counted (root ∷ rest) m
  explained_is rest b m = ap₂ (λ x y. own_pins v m + (x + y)) (ap (refs_known m) c.known.0) (refs_are rest b.known m)

  begun : AreBoth []
  begun = record { found = finding_begins nodes v counts root.node (may_die hits rows); known = tt }

  more : (rest : List Counted) (r : Counted) → AreBoth rest → IsOf r rows → dies hits (root ∷ rest) r ≡ true → AreBoth (rest ++ r ∷ [])
  more rest r b o h =
      let parts = dies_parts hits (root ∷ rest) r h in
      let explains = explained_is rest b r.node in
      let low = le_if r.others (refs_by_counted (root ∷ rest) r.node) parts.2 in
      let less : r.others ≡ counts r.node - own_pins v r.node = at_row (λ q. q.others ≡ counts q.node - own_pins v q.node) rows c.others.1 r o in
      record {
        found = subst (λ ns. AreFound nodes v counts root.node (may_die hits rows) ns) (nodes_more rest r)
            (finding_goes_on nodes v counts root.node (may_die hits rows) (counted_nodes rest) r.node b.found
            (at_row (λ q. q.node < nodes) rows c.there.1 r o)
            (and_from (has_node (counted_nodes rows) r.node) (not (has_node hits r.node)) (has_of r rows o) (not_false _ parts.1))
            (omega (arith, explains, low, less))
            (right_false (root.node == r.node) (has_node (counted_nodes rest) r.node) parts.0));
        known = all_more (λ q. known_row v q.node ≡ Some q.row) rest r b.known (at_row (λ q. known_row v q.node ≡ Some q.row) rows c.known.1 r o);
      }

  along : (k : ℕ) (rest : List Counted) → AreBoth rest → (out : List Counted) × (dying_after k hits rows (root ∷ rest) ≡ root ∷ out) × AreBoth out
  along zero rest b = (rest, refl, b)
  along (suc k) rest b = go (first_dying hits (root ∷ rest) rows) refl (along k)
    where
      go : (o : Option Counted) → first_dying hits (root ∷ rest) rows ≡ o
          → ((rest : List Counted) → AreBoth rest → (out : List Counted) × (dying_after k hits rows (root ∷ rest) ≡ root ∷ out) × AreBoth out)
          → (out : List Counted) × (and_more (root ∷ rest) (dying_after k hits rows) o ≡ root ∷ out) × AreBoth out
      go None e next = (rest, refl, b)
      go (Some r) e next = let found = first_some hits (root ∷ rest) rows r e in next (rest ++ r ∷ []) (more rest r b found.0 found.1)

  -- where no further row dies, what is explained was found
  full : (out : List Counted) → AreBoth out → ((r : Counted) → IsOf r rows → dies hits (root ∷ out) r ≡ false)
      → (m : ℕ) → may_die hits rows m ≡ true → counts m ≤ explained_by v root.node (counted_nodes out) m → has_node (counted_nodes out) m ≡ true
  full out b none m can le =
      let parts = and_parts (has_node (counted_nodes rows) m) (not (has_node hits m)) can in
      let t = row_of rows m parts.0 in
      subst (λ n. has_node (counted_nodes out) n ≡ true) t.2 (at_node t.0 t.1 (subst (λ n. has_node hits n ≡ false) (sym t.2) (not_true _ parts.1)) (subst (λ n. counts n ≤ explained_by v root.node (counted_nodes out) n) (sym t.2) le))
    where
      settled : (a b c : Bool) → ((not a && not b) && c) ≡ false → b ≡ false → c ≡ true → a ≡ true
      settled true b c h k l = refl
      settled false true c h k l = absurd (cc)
      settled false false true h k l = absurd (cc)
      settled false false false h k l = absurd (cc)

      other : (r : Counted) → IsOf r rows → (root.node == r.node) ≡ false
      other r o = go (root.node == r.node) refl
        where
          go : (b : Bool) → (root.node == r.node) ≡ b → b ≡ false
          go true e =
              let same : r.node ≡ root.node = sym (same_node root.node r.node e) in
              let yes : has_node (counted_nodes rows) root.node ≡ true = subst (λ n. has_node (counted_nodes rows) n ≡ true) same (has_of r rows o) in
              let no : has_node (counted_nodes rows) root.node ≡ false = (distinct_parts root.node (counted_nodes rows) c.distinct).0 in
              absurd (cc)
          go false e = refl

      at_node : (r : Counted) → IsOf r rows → has_node hits r.node ≡ false → counts r.node ≤ explained_by v root.node (counted_nodes out) r.node → has_node (counted_nodes out) r.node ≡ true
      at_node r o free le =
          let explains = explained_is out b r.node in
          let less : r.others ≡ counts r.node - own_pins v r.node = at_row (λ q. q.others ≡ counts q.node - own_pins v q.node) rows c.others.1 r o in
          let there : ((root.node == r.node) || has_node (counted_nodes out) r.node) ≡ true =
          settled _ _ _ (none r o) free (le_test r.others (refs_by_counted (root ∷ out) r.node) (omega (arith, explains, less, le))) in
          sym (ap (λ a. a || has_node (counted_nodes out) r.node) (other r o)) ∙ there

  both : IsDying nodes v counts root.node (may_die hits rows) (λ n. has_node (dead_of (dying_of hits (root ∷ rows))) n)
      × (and_count root.row + ands_in nodes v (λ n. has_node (dead_of (dying_of hits (root ∷ rows))) n) ≡ ands_of (dying_of hits (root ∷ rows)))
  both =
      let all = along (length rows) [] begun in
      let none : (r : Counted) → IsOf r rows → dies hits (root ∷ all.0) r ≡ false = λ r o. subst (λ ds. dies hits ds r ≡ false) all.1 (none_left hits root rows c.distinct r o) in
      let ends = finding_ends nodes v counts root.node (may_die hits rows) (counted_nodes all.0) all.2.found (full all.0 all.2 none) in
      subst
      (λ ds. IsDying nodes v counts root.node (may_die hits rows) (λ n. has_node (dead_of ds) n) × (and_count root.row + ands_in nodes v (λ n. has_node (dead_of ds) n) ≡ ands_of ds))
      (sym all.1) (ends.0, ap (λ k. and_count root.row + k) (ends.1 ∙ ands_are all.0 all.2.known))

pub counted_rows_die : CountedRowsDie
counted_rows_die nodes v counts hits root rows c = both nodes v counts hits root rows c
