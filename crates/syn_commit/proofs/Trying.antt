-- Nodes that a pool tries, one after the other.
use Rattle.std.proofs.Common.{◌≡◌, ◌≢◌, ◌⊎◌, ◌==◌, ℕ, suc, ◌+◌, ◌<◌, ◌&&◌, ◌||◌, not, Bool, true, false, if◌then◌else◌, List, [], ◌∷◌, ◌++◌, length, Option, Some, None, refl, sym, ap, ◌∙◌, subst, arith, inl, inr, append-nil, append_assoc, length-append, get_or, take, drop}
use Rattle.std.proofs.lemmas.Bool.{and_parts, cases_eq, or_from, or_left, eq-eqb, ne_eqb}
use Rattle.std.proofs.lemmas.List.{drop_more, take_more}
use Rattle.syn_rows.specs.declared.Lit.{Lit}
use Rattle.syn_rows.specs.declared.Row.{Row}
use Rattle.syn_rows.specs.declared.Row.TheVariants.{Free, Source, And, Alias}
use Rattle.syn_rows.specs.Nodes.{has_node}
use Rattle.syn_rows.proofs.Nodes.{has_cases, has_here, has_one, has_right, has_there, here_or_there, has_node-append, node_same}
use Rattle.syn_fanout_free.specs.Freed.{is_free}
use Rattle.syn_core_laws.specs.declared.View.{View}
use Rattle.syn_core_laws.specs.declared.Seen.{Seen}
use Rattle.syn_core_laws.specs.declared.Seen.TheVariants as seen
use Rattle.syn_core_laws.specs.Lists.{only}
use Rattle.syn_core_laws.specs.Views.{claimed, differs, known_row, is_derived_known, missed, released, row_loaded}
use Rattle.syn_core_laws.specs.Shown.{IsShown}
use Rattle.syn_core_laws.proofs.Listing.{has_only, only_has, look_here, look_there, look_kept}
use Rattle.syn_decide.specs.Dying.{are_distinct}
use Rattle.syn_decide.proofs.Walking.{distinct_more}
use Rattle.syn_table.specs.declared.Known.{Known}
use Rattle.syn_table.specs.Steps.{with_view}
use Rattle.syn_commit.specs.Pools.{AreTried, AreTries, HoldsNoneOf, IsEmptied, IsTried, KeepsPool, LeavesRest, found_claimed, found_free}

-- ---- what was met, one part behind the other
tries_on : (n : ℕ) (met more : List Seen) → AreTries n met → AreTries (n + length met) more → AreTries n (met ++ more)
tries_on n [] more t u = let same : n + 0 ≡ n = omega arith in subst (λ k. AreTries k more) same u
tries_on n (seen.Row node row ∷ met) more t u = let same : n + suc (length met) ≡ suc n + length met = omega arith in (t.0, tries_on (suc n) met more t.1 (subst (λ k. AreTries k more) same u))
tries_on n (seen.Miss node ∷ met) more t u = let same : n + suc (length met) ≡ suc n + length met = omega arith in (t.0, tries_on (suc n) met more t.1 (subst (λ k. AreTries k more) same u))
tries_on n (seen.Key node key ∷ met) more t u = absurd t
tries_on n (seen.Count node count own ∷ met) more t u = absurd t

free_append : (met more : List Seen) → found_free (met ++ more) ≡ found_free met ++ found_free more
free_append [] more = refl
free_append (seen.Row node row ∷ met) more = go (is_free row) (free_append met more)
  where
    go : (b : Bool) → found_free (met ++ more) ≡ found_free met ++ found_free more → (if b then node ∷ found_free (met ++ more) else found_free (met ++ more)) ≡ (if b then node ∷ found_free met else found_free met) ++ found_free more
    go true ih = ap (λ ns. node ∷ ns) ih
    go false ih = ih
free_append (seen.Miss node ∷ met) more = free_append met more
free_append (seen.Key node key ∷ met) more = free_append met more
free_append (seen.Count node count own ∷ met) more = free_append met more

pub claimed_append : (met more : List Seen) → found_claimed (met ++ more) ≡ found_claimed met ++ found_claimed more
claimed_append [] more = refl
claimed_append (seen.Row node row ∷ met) more = claimed_append met more
claimed_append (seen.Miss node ∷ met) more = ap (λ ns. node ∷ ns) (claimed_append met more)
claimed_append (seen.Key node key ∷ met) more = claimed_append met more
claimed_append (seen.Count node count own ∷ met) more = claimed_append met more

-- what was found free was tried
pub found_below : (from : ℕ) (met : List Seen) → AreTries from met → (m : ℕ) → has_node (found_free met) m ≡ true → m < from + length met
found_below from [] t m h = absurd (cc)
found_below from (seen.Row node row ∷ met) t m h = go (is_free row) (found_below (suc from) met t.1 m) h
  where
    go : (b : Bool) → (has_node (found_free met) m ≡ true → m < suc from + length met) → has_node (if b then node ∷ found_free met else found_free met) m ≡ true → m < from + suc (length met)
    go true later k = elim (here_or_there node m (found_free met) k) [ inl same ↦ let first : m ≡ from = same ∙ t.0 in omega arith | inr r ↦ let below = later r in omega arith ]
    go false later k = let below = later k in omega arith
found_below from (seen.Miss node ∷ met) t m h = let below : m < suc from + length met = found_below (suc from) met t.1 m h in omega arith
found_below from (seen.Key node key ∷ met) t m h = absurd t
found_below from (seen.Count node count own ∷ met) t m h = absurd t

or_assoc : (a b c : Bool) → ((a || b) || c) ≡ (a || (b || c))
or_assoc true b c = refl
or_assoc false b c = refl

pub or_none : (a : Bool) → (a || false) ≡ a
or_none true = refl
or_none false = refl

pub rest_on : (v w x : View) → LeavesRest v w → LeavesRest w x → LeavesRest v x
rest_on v w x r s = record {
  number = s.number ∙ r.number;
  pins = s.pins ∙ r.pins;
  idle = s.idle ∙ r.idle;
  makes = s.makes ∙ r.makes;
  changes = s.changes ∙ r.changes;
  difference = s.difference ∙ r.difference;
}

pub tried_none : (from : ℕ) (v : View) (pool : List ℕ) → AreTried from v pool [] v pool
tried_none from v pool = record {
  order = tt;
  joined = sym (append-nil pool);
  reads = sym (append-nil v.reads);
  misses = sym (append-nil v.misses);
  held = λ n. sym (or_none (has_node v.held n));
  rows = λ n h. refl;
  rest = record { number = refl; pins = refl; idle = refl; makes = refl; changes = refl; difference = refl };
}

pub tried_on : (from : ℕ) (v w x : View) (pool grown larger : List ℕ) (met more : List Seen) → AreTried from v pool met w grown → AreTried (from + length met) w grown more x larger → AreTried from v pool (met ++ more) x larger
tried_on from v w x pool grown larger met more t u = record {
  order = tries_on from met more t.order u.order;
  joined = u.joined ∙ (ap (λ ns. ns ++ found_free more) t.joined ∙ (append_assoc pool (found_free met) (found_free more) ∙ ap (λ ns. pool ++ ns) (sym (free_append met more))));
  reads = u.reads ∙ (ap (λ rs. rs ++ more) t.reads ∙ append_assoc v.reads met more);
  misses = u.misses ∙ (ap (λ ns. ns ++ found_claimed more) t.misses ∙ (append_assoc v.misses (found_claimed met) (found_claimed more) ∙ ap (λ ns. v.misses ++ ns) (sym (claimed_append met more))));
  held = λ n. u.held n
      ∙ (ap (λ b. b || has_node (found_free more) n) (t.held n)
      ∙ (or_assoc (has_node v.held n) (has_node (found_free met) n) (has_node (found_free more) n)
      ∙ ap (λ b. has_node v.held n || b) (sym (ap (λ ns. has_node ns n) (free_append met more) ∙ has_node-append (found_free met) (found_free more) n))));
  rows = λ n h. u.rows n (t.held n ∙ or_left (has_node v.held n) (has_node (found_free met) n) h) ∙ t.rows n h;
  rest = rest_on v w x t.rest u.rest;
}

-- none of the nodes that come is held
pub none_ahead : (from count : ℕ) (v w : View) (pool grown : List ℕ) (met : List Seen) → HoldsNoneOf v from count → AreTried from v pool met w grown → (n : ℕ) → from + length met ≡ n → n < from + count → has_node w.held n ≡ false
none_ahead from count v w pool grown met none t n here within =
    t.held n ∙ or_from (has_node v.held n) (has_node (found_free met) n) (none n (omega (arith, here)) within) (later (has_node (found_free met) n) refl)
  where
    later : (b : Bool) → has_node (found_free met) n ≡ b → b ≡ false
    later true e = let below : n < from + length met = found_below from met t.order n e in absurd (omega (arith, here))
    later false e = refl

-- one node more was tried
pub tried_one : (from node : ℕ) (v w x : View) (pool grown larger : List ℕ) (met : List Seen) → AreTried from v pool met w grown → from + length met ≡ node → IsTried node w grown x larger
    → (all : List Seen) × AreTried from v pool all x larger × (from + length all ≡ node + 1)
tried_one from node v w x pool grown larger met t here one =
    let both = tried_on from v w x pool grown larger met one.0 t (subst (λ k. AreTried k w grown one.0 x larger) (sym here) one.1) in
    let len : length (met ++ one.0) ≡ length met + length one.0 = length-append met one.0 in
    (met ++ one.0, both, omega (arith, here, len, one.2))

-- the claim, and the load of the row
pub taken_view : (k k1 k2 : Known) (b : Bool) (n : ℕ) (r : Row) → b ≡ true → k1 ≡ with_view k (if b then claimed k.core n else missed k.core n) → k2 ≡ with_view k1 (row_loaded k1.core n r)
    → k2.core ≡ row_loaded (claimed k.core n) n r
taken_view k k1 k2 b n r got claim load =
    ap (λ (x : Known). x.core) load ∙ ap (λ (v : View). row_loaded v n r) (ap (λ (x : Known). x.core) claim ∙ ap (λ t. if t then claimed k.core n else missed k.core n) got)

-- ---- lists of held nodes without one
pub has_other : (xs : List ℕ) (n m : ℕ) → m ≢ n → has_node (only (differs n) xs) m ≡ has_node xs m
has_other xs n m ne = go (has_node xs m) refl
  where
    go : (b : Bool) → has_node xs m ≡ b → has_node (only (differs n) xs) m ≡ has_node xs m
    go true e = only_has (differs n) m xs e (ap not (ne_eqb m n ne)) ∙ sym e
    go false e = none (has_node (only (differs n) xs) m) refl ∙ sym e
      where
        none : (b : Bool) → has_node (only (differs n) xs) m ≡ b → b ≡ false
        none true k = let yes : has_node xs m ≡ true = (has_only (differs n) m xs k).0 in absurd (cc)
        none false k = refl

pub has_self : (xs : List ℕ) (n : ℕ) → has_node (only (differs n) xs) n ≡ false
has_self xs n = go (has_node (only (differs n) xs) n) refl
  where
    go : (b : Bool) → has_node (only (differs n) xs) n ≡ b → b ≡ false
    go true k = let other : not (n == n) ≡ true = (has_only (differs n) n xs k).1 in let same : not (n == n) ≡ false = ap not (node_same n) in absurd (cc)
    go false k = refl

and_false : (a : Bool) → (a && false) ≡ false
and_false true = refl
and_false false = refl

or_swap : (a b : Bool) → (a || b) ≡ (b || (a || false))
or_swap true true = refl
or_swap true false = refl
or_swap false true = refl
or_swap false false = refl

-- ---- one node is tried
module _ (v : View) (node : ℕ) (pool : List ℕ) (none : has_node v.held node ≡ false) (keeps : KeepsPool v pool) where
  -- what is held is another node
  pub other : (n : ℕ) → has_node v.held n ≡ true → n ≢ node
  other n h same = let no : has_node v.held n ≡ false = subst (λ k. has_node v.held k ≡ false) (sym same) none in absurd (cc)

  new_to_pool : has_node pool node ≡ false
  new_to_pool = go (has_node pool node) refl
    where
      go : (b : Bool) → has_node pool node ≡ b → b ≡ false
      go true e = let yes : has_node v.held node ≡ true = keeps.held node e in absurd (cc)
      go false e = refl

  pub missed_tried : AreTried node v pool (seen.Miss node ∷ []) (missed v node) pool
  missed_tried = record {
    order = (refl, tt);
    joined = sym (append-nil pool);
    reads = refl;
    misses = refl;
    held = λ n. sym (or_none (has_node v.held n));
    rows = λ n h. refl;
    rest = record { number = refl; pins = refl; idle = refl; makes = refl; changes = refl; difference = refl };
  }

  pub missed_keeps : KeepsPool (missed v node) pool
  missed_keeps = record { distinct = keeps.distinct; held = keeps.held; free = keeps.free }

  taken : Row → View
  taken r = row_loaded (claimed v node) node r

  pub free_tried : AreTried node v pool (seen.Row node Free ∷ []) (row_loaded (claimed v node) node Free) (pool ++ node ∷ [])
  free_tried = record {
    order = (refl, tt);
    joined = refl;
    reads = refl;
    misses = sym (append-nil v.misses);
    held = λ n. or_swap (node == n) (has_node v.held n);
    rows = λ n h. look_there n node Free v.rows (other n h);
    rest = record { number = refl; pins = refl; idle = refl; makes = refl; changes = refl; difference = refl };
  }

  pub free_keeps : KeepsPool (row_loaded (claimed v node) node Free) (pool ++ node ∷ [])
  free_keeps = record {
    distinct = distinct_more pool node keeps.distinct new_to_pool;
    held = λ n h. elim (has_cases pool (node ∷ []) n h) [
      | inl there ↦ has_there node n v.held (keeps.held n there)
      | inr one ↦ subst (λ k. has_node (node ∷ v.held) k ≡ true) (has_one node n one) (has_here node v.held)
    ];
    free = λ n h. elim (has_cases pool (node ∷ []) n h) [
      | inl there ↦ look_there n node Free v.rows (other n (keeps.held n there)) ∙ keeps.free n there
      | inr one ↦ subst (λ k. known_row (row_loaded (claimed v node) node Free) k ≡ Some Free) (has_one node n one) (look_here node Free v.rows)
    ];
  }

  -- a node that isn't free is let go again
  pub row_stays : (r : Row) (n : ℕ) → n ≢ node → known_row (released (row_loaded (claimed v node) node r) node) n ≡ known_row v n
  row_stays r n ne = look_kept (differs node) n ((node, r) ∷ v.rows) (ap not (ne_eqb n node ne)) ∙ look_there n node r v.rows ne

  pub held_stays : (n : ℕ) → has_node (only (differs node) (node ∷ v.held)) n ≡ has_node v.held n
  held_stays n = elim (cases_eq n node) [
    | inl same ↦ subst (λ k. has_node (only (differs node) (node ∷ v.held)) k ≡ has_node v.held k) (sym same) (has_self (node ∷ v.held) node ∙ sym none)
    | inr ne ↦ has_other (node ∷ v.held) node n ne ∙ ap (λ b. b || has_node v.held n) (ne_eqb node n (λ e. ne (sym e)))
  ]

  pub used_tried : (r : Row) → is_free r ≡ false → AreTried node v pool (seen.Row node r ∷ []) (released (row_loaded (claimed v node) node r) node) pool
  used_tried r used =
      let nothing : found_free (seen.Row node r ∷ []) ≡ [] = ap (λ b. if b then node ∷ [] else []) used in
      record {
        order = (refl, tt);
        joined = sym (ap (λ ns. pool ++ ns) nothing ∙ append-nil pool);
        reads = refl;
        misses = sym (append-nil v.misses);
        held = λ n. held_stays n ∙ sym (ap (λ ns. has_node v.held n || has_node ns n) nothing ∙ or_none (has_node v.held n));
        rows = λ n h. row_stays r n (other n h);
        rest = record { number = refl; pins = refl; idle = refl; makes = refl; changes = refl; difference = refl };
      }

  pub used_keeps : (r : Row) → KeepsPool (released (row_loaded (claimed v node) node r) node) pool
  used_keeps r = record {
    distinct = keeps.distinct;
    held = λ n h. held_stays n ∙ keeps.held n h;
    free = λ n h. row_stays r n (other n (keeps.held n h)) ∙ keeps.free n h;
  }

-- a node that isn't held isn't on the zero list, nor is one that is known as free
pub not_idle : (nodes : ℕ) (v : View) (n : ℕ) → IsShown nodes v → has_node v.held n ≡ false → has_node v.idle n ≡ false
not_idle nodes v n shown none = go (has_node v.idle n) refl
  where
    known : (o : Option Row) → known_row v n ≡ o → is_derived_known o ≡ true → ⊥
    known None e h = absurd (cc)
    known (Some r) e h = let yes : has_node v.held n ≡ true = (shown.rows n r e).1 in absurd (cc)

    go : (b : Bool) → has_node v.idle n ≡ b → b ≡ false
    go true e = absurd (known (known_row v n) refl (shown.idles n e).0)
    go false e = refl

pub spare_not_idle : (nodes : ℕ) (v : View) (n : ℕ) → IsShown nodes v → known_row v n ≡ Some Free → has_node v.idle n ≡ false
spare_not_idle nodes v n shown free = go (has_node v.idle n) refl
  where
    go : (b : Bool) → has_node v.idle n ≡ b → b ≡ false
    go true e = let gate : is_derived_known (known_row v n) ≡ true = (shown.idles n e).0 in let no : is_derived_known (known_row v n) ≡ false = ap is_derived_known free in absurd (cc)
    go false e = refl

-- what is held beside a node that was let go
held_else : (w : View) (n m : ℕ) → has_node (released w n).held m ≡ true → (m ≢ n) × (has_node w.held m ≡ true)
held_else w n m h =
    let both = has_only (differs n) m w.held h in
    ((λ same. let yes : (m == n) ≡ true = eq-eqb m n same in let no : not (m == n) ≡ true = both.1 in absurd (cc)), both.0)

row_else : (w : View) (n m : ℕ) → m ≢ n → known_row (released w n) m ≡ known_row w m
row_else w n m ne = look_kept (differs n) m w.rows (ap not (ne_eqb m n ne))

pub emptied_on : (v w : View) (done : List ℕ) (n : ℕ) → IsEmptied v done w → IsEmptied v (done ++ n ∷ []) (released w n)
emptied_on v w done n e = record {
  held = λ m. elim (cases_eq m n) [
    | inl same ↦ subst (λ k. has_node (only (differs n) w.held) k ≡ (has_node v.held k && not (has_node (done ++ n ∷ []) k))) (sym same)
        (has_self w.held n ∙ sym (ap (λ b. has_node v.held n && not b) (has_right done (n ∷ []) n (has_here n [])) ∙ and_false (has_node v.held n)))
    | inr ne ↦ has_other w.held n m ne ∙ (e.held m ∙ ap (λ b. has_node v.held m && not b)
        (sym (has_node-append done (n ∷ []) m ∙ (ap (λ b. has_node done m || (b || false)) (ne_eqb n m (λ s. ne (sym s))) ∙ or_none (has_node done m)))))
  ];
  rows = λ m h. let both = held_else w n m h in row_else w n m both.0 ∙ e.rows m both.1;
  reads = e.reads;
  misses = e.misses;
  rest = record { number = e.rest.number; pins = e.rest.pins; idle = e.rest.idle; makes = e.rest.makes; changes = e.rest.changes; difference = e.rest.difference };
}

pub kept_on : (w : View) (n : ℕ) (left : List ℕ) → KeepsPool w (n ∷ left) → KeepsPool (released w n) left
kept_on w n left keeps =
    let parts = and_parts (not (has_node left n)) (are_distinct left) keeps.distinct in
    let apart : (m : ℕ) → has_node left m ≡ true → m ≢ n = λ m there same. let yes : has_node left n ≡ true = subst (λ k. has_node left k ≡ true) same there in let no : not (has_node left n) ≡ true = parts.0 in absurd (cc) in
    record {
      distinct = parts.1;
      held = λ m there. has_other w.held n m (apart m there) ∙ keeps.held m (has_there n m left there);
      free = λ m there. row_else w n m (apart m there) ∙ keeps.free m (has_there n m left there);
    }

-- one more of the pool's nodes is let go
pub emptied_next : (v w x : View) (pool : List ℕ) (i : ℕ) → i < length pool → IsEmptied v (take i pool) w → KeepsPool w (drop i pool) → x ≡ released w (get_or pool i 0) → IsEmptied v (take (i + 1) pool) x × KeepsPool x (drop (i + 1) pool)
emptied_next v w x pool i within e keeps is =
    let n : ℕ = get_or pool i 0 in (
      subst (λ ns. IsEmptied v ns x) (sym (take_more pool i 0 within)) (subst (IsEmptied v (take i pool ++ n ∷ [])) (sym is) (emptied_on v w (take i pool) n e)),
      subst (λ y. KeepsPool y (drop (i + 1) pool)) (sym is) (kept_on w n (drop (i + 1) pool) (subst (KeepsPool w) (drop_more pool i 0 within) keeps)),
    )

-- what one call leaves where the node was free, and where it wasn't
pub free_kept : (v : View) (node : ℕ) (pool grown : List ℕ) (w : View) (r : Row) → has_node v.held node ≡ false → KeepsPool v pool → r ≡ Free → w ≡ row_loaded (claimed v node) node r → grown ≡ pool ++ node ∷ []
    → KeepsPool w grown × IsTried node v pool w grown
free_kept v node pool grown w r none keeps free view more =
    let is : w ≡ row_loaded (claimed v node) node Free = view ∙ ap (row_loaded (claimed v node) node) free in (
      subst (λ y. KeepsPool y grown) (sym is) (subst (KeepsPool (row_loaded (claimed v node) node Free)) (sym more) (free_keeps v node pool none keeps)),
      (
        seen.Row node Free ∷ [],
        subst (λ y. AreTried node v pool (seen.Row node Free ∷ []) y grown) (sym is)
            (subst (AreTried node v pool (seen.Row node Free ∷ []) (row_loaded (claimed v node) node Free)) (sym more) (free_tried v node pool none keeps)),
        refl,
      ),
    )

pub let_go_kept : (v : View) (node : ℕ) (pool : List ℕ) (w x : View) (r : Row) → has_node v.held node ≡ false → KeepsPool v pool → is_free r ≡ false → w ≡ row_loaded (claimed v node) node r → x ≡ released w node
    → KeepsPool x pool × IsTried node v pool x pool
let_go_kept v node pool w x r none keeps used view gone =
    let is : x ≡ released (row_loaded (claimed v node) node r) node = gone ∙ ap (λ (y : View). released y node) view in (
      subst (λ y. KeepsPool y pool) (sym is) (used_keeps v node pool none keeps r),
      (seen.Row node r ∷ [], subst (λ y. AreTried node v pool (seen.Row node r ∷ []) y pool) (sym is) (used_tried v node pool none keeps r used), refl),
    )

pub used_rows : (r : Row) → (r ≡ Source) ⊎ (((a : Lit) × (b : Lit) × (r ≡ And a b)) ⊎ ((a : Lit) × (r ≡ Alias a))) → is_free r ≡ false
used_rows r (inl e) = ap is_free e
used_rows r (inr (inl t)) = ap is_free t.2
used_rows r (inr (inr t)) = ap is_free t.1
