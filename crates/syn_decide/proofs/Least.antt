-- The rows that die are the least set that the rule closes.
use Rattle.std.proofs.Common.{◌≡◌, ℕ, zero, suc, ◌+◌, ◌≤◌, Bool, true, false, not, nat_le, ◌==◌, ◌&&◌, ◌||◌, if◌then◌else◌, List, [], ◌∷◌, ◌++◌, length, Option, Some, None, refl, sym, ap, ap₂, ◌∙◌, subst, arith, rules, inl, inr, ◌⊎◌}
use Rattle.std.specs.List.{All}
use Rattle.syn_rows.specs.References.{refs}
use Rattle.syn_rows.specs.Nodes.{has_node}
use Rattle.syn_rows.proofs.Nodes.{node_same, same_node}
use Rattle.syn_decide.specs.declared.decisions.Counted.{Counted}
use Rattle.syn_decide.specs.Dying.{IsClosedByCounts, IsLeastDying, and_more, are_distinct, counted_nodes, first_dying, dies, dying_after, dying_of, refs_by_counted, refs_by_set}
use Rattle.std.proofs.lemmas.Bool.{and_parts}
use Rattle.std.proofs.lemmas.Option.{none-some}
use Rattle.std.specs.Prelude.{unwrap_or}

-- the set with one node more
abbrev with_one : (ℕ → Bool) → ℕ → ℕ → Bool
with_one set n m = set m || (n == m)

-- a row that is one of the rows
abbrev pub IsOf : Counted → List Counted → Type 0
IsOf r [] = ⊥
IsOf r (q ∷ rows) = (q ≡ r) ⊎ IsOf r rows

or_false : (b : Bool) → (b || false) ≡ b
or_false true = refl
or_false false = refl

or_true : (b : Bool) → (b || true) ≡ true
or_true true = refl
or_true false = refl

or_assoc : (a b c : Bool) → (a || (b || c)) ≡ ((a || b) || c)
or_assoc true b c = refl
or_assoc false b c = refl

-- one row more is one node more
has_more : (n : ℕ) (dying : List Counted) (r : Counted) → has_node (counted_nodes (dying ++ r ∷ [])) n ≡ with_one (λ m. has_node (counted_nodes dying) m) r.node n
has_more n [] r = or_false (r.node == n)
has_more n (g ∷ dying) r = ap (λ b. (g.node == n) || b) (has_more n dying r) ∙ or_assoc (g.node == n) (has_node (counted_nodes dying) n) (r.node == n)

pub refs_more : (dying : List Counted) (r : Counted) (m : ℕ) → refs_by_counted (dying ++ r ∷ []) m ≡ refs_by_counted dying m + refs m r.row
refs_more [] r m = omega arith
refs_more (g ∷ dying) r m = let rest = refs_more dying r m in omega (arith, rest)

-- one step of the steps that are left
pub one_step : (hits : List ℕ) (rows dying next all : List Counted) (r : Counted) (k steps : ℕ) → steps ≡ suc k → first_dying hits dying rows ≡ Some r → next ≡ dying ++ r ∷ []
    → dying_after steps hits rows dying ≡ all → dying_after k hits rows next ≡ all
one_step hits rows dying next all r k steps e first pushed rest =
    ap (dying_after k hits rows) pushed ∙ sym (ap (and_more dying (dying_after k hits rows)) first) ∙ ap (λ s. dying_after s hits rows dying) (sym e) ∙ rest

pub has_of : (r : Counted) (rows : List Counted) → IsOf r rows → has_node (counted_nodes rows) r.node ≡ true
has_of r [] h = absurd h
has_of r (q ∷ rows) (inl e) = ap (λ (z : Counted). (z.node == r.node) || has_node (counted_nodes rows) r.node) e ∙ ap (λ b. b || has_node (counted_nodes rows) r.node) (node_same r.node)
has_of r (q ∷ rows) (inr h) = ap (λ b. (q.node == r.node) || b) (has_of r rows h) ∙ or_true (q.node == r.node)

-- a set that agrees on the nodes of the rows gives the same references
refs_same : (rows : List Counted) (set other : ℕ → Bool) (m : ℕ) → ((n : ℕ) → has_node (counted_nodes rows) n ≡ true → set n ≡ other n) → refs_by_set rows set m ≡ refs_by_set rows other m
refs_same [] set other m h = refl
refs_same (r ∷ rows) set other m h =
    ap₂ (λ b k. (if b then refs m r.row else 0) + k) (h r.node (ap (λ b. b || has_node (counted_nodes rows) r.node) (node_same r.node)))
    (refs_same rows set other m (λ n k. h n (ap (λ b. (r.node == n) || b) k ∙ or_true (r.node == n))))

-- a greater set gives no fewer references
refs_grow : (rows : List Counted) (set other : ℕ → Bool) (m : ℕ) → ((n : ℕ) → set n ≡ true → other n ≡ true) → refs_by_set rows set m ≤ refs_by_set rows other m
refs_grow [] set other m h = omega arith
refs_grow (r ∷ rows) set other m h = let rest = refs_grow rows set other m h in go (set r.node) (other r.node) (h r.node) rest
  where
    go : (a b : Bool) → (a ≡ true → b ≡ true) → refs_by_set rows set m ≤ refs_by_set rows other m
        → (if a then refs m r.row else 0) + refs_by_set rows set m ≤ (if b then refs m r.row else 0) + refs_by_set rows other m
    go true true k l = omega arith
    go true false k l = let e : false ≡ true = k refl in absurd (cc)
    go false true k l = omega arith
    go false false k l = omega arith

pub distinct_parts : (n : ℕ) (ns : List ℕ) → are_distinct (n ∷ ns) ≡ true → (has_node ns n ≡ false) × (are_distinct ns ≡ true)
distinct_parts n ns h = go (has_node ns n) (and_parts (not (has_node ns n)) (are_distinct ns) h)
  where
    go : (b : Bool) → (not b ≡ true) × (are_distinct ns ≡ true) → (b ≡ false) × (are_distinct ns ≡ true)
    go true p = absurd (cc)
    go false p = (refl, p.1)

other_node : (r q : Counted) (rows : List Counted) → IsOf r rows → has_node (counted_nodes rows) q.node ≡ false → (r.node == q.node) ≡ false
other_node r q rows h e = go (r.node == q.node) refl
  where
    go : (b : Bool) → (r.node == q.node) ≡ b → b ≡ false
    go true k = let same : r.node ≡ q.node = same_node _ _ k in let there : has_node (counted_nodes rows) q.node ≡ true = subst (λ n. has_node (counted_nodes rows) n ≡ true) same (has_of r rows h) in absurd (cc)
    go false k = refl

-- one node more adds its row's references
refs_with_one : (rows : List Counted) (r : Counted) (set : ℕ → Bool) (m : ℕ) → are_distinct (counted_nodes rows) ≡ true → IsOf r rows → set r.node ≡ false
    → refs_by_set rows (with_one set r.node) m ≡ refs_by_set rows set m + refs m r.row
refs_with_one [] r set m d h e = absurd h
refs_with_one (q ∷ rows) r set m d (inl k) e =
    let parts = distinct_parts q.node (counted_nodes rows) d in
    let node : q.node ≡ r.node = ap (λ (z : Counted). z.node) k in
    let row : refs m q.row ≡ refs m r.row = ap (λ (z : Counted). refs m z.row) k in
    let old : set q.node ≡ false = ap set node ∙ e in
    let new : with_one set r.node q.node ≡ true = ap₂ (λ a b. a || b) old (ap (λ n. r.node == n) node ∙ node_same r.node) in
    let rest : refs_by_set rows (with_one set r.node) m ≡ refs_by_set rows set m = refs_same rows (with_one set r.node) set m (λ n there. ap (λ b. set n || b) (apart n there parts.0 node) ∙ or_false (set n)) in
    ap₂ (λ b k. (if b then refs m q.row else 0) + k) new rest ∙ first ∙ sym (ap (λ b. ((if b then refs m q.row else 0) + refs_by_set rows set m) + refs m r.row) old)
  where
    first : refs m q.row + refs_by_set rows set m ≡ (0 + refs_by_set rows set m) + refs m r.row
    first = let row : refs m q.row ≡ refs m r.row = ap (λ (z : Counted). refs m z.row) k in omega (arith, row)

    apart : (n : ℕ) → has_node (counted_nodes rows) n ≡ true → has_node (counted_nodes rows) q.node ≡ false → q.node ≡ r.node → (r.node == n) ≡ false
    apart n there none node = go (r.node == n) refl
      where
        go : (b : Bool) → (r.node == n) ≡ b → b ≡ false
        go true s = let same : q.node ≡ n = node ∙ same_node _ _ s in let no : has_node (counted_nodes rows) n ≡ false = subst (λ z. has_node (counted_nodes rows) z ≡ false) same none in absurd (cc)
        go false s = refl
refs_with_one (q ∷ rows) r set m d (inr h) e =
    let parts = distinct_parts q.node (counted_nodes rows) d in
    let same : with_one set r.node q.node ≡ set q.node = ap (λ b. set q.node || b) (other_node r q rows h parts.0) ∙ or_false (set q.node) in
    let rest = refs_with_one rows r set m parts.1 h e in
    ap (λ b. (if b then refs m q.row else 0) + refs_by_set rows (with_one set r.node) m) same ∙ last rest
  where
    last : refs_by_set rows (with_one set r.node) m ≡ refs_by_set rows set m + refs m r.row
        → (if set q.node then refs m q.row else 0) + refs_by_set rows (with_one set r.node) m ≡ ((if set q.node then refs m q.row else 0) + refs_by_set rows set m) + refs m r.row
    last rest = omega (arith, rest)

of_all : (P : Counted → Type 0) (r : Counted) (rows : List Counted) → All P rows → IsOf r rows → P r
of_all P r [] h o = absurd o
of_all P r (q ∷ rows) h (inl e) = subst P e (h 0 q (omega arith))
of_all P r (q ∷ rows) h (inr o) = of_all P r rows (λ k d l. h (suc k) d (omega arith)) o

all_of : (P : Counted → Type 0) (rows : List Counted) → ((r : Counted) → IsOf r rows → P r) → All P rows
all_of P [] h k d l = absurd (omega arith)
all_of P (q ∷ rows) h zero d l = h q (inl refl)
all_of P (q ∷ rows) h (suc k) d l = all_of P rows (λ r o. h r (inr o)) k d (omega arith)

chosen_some : (b : Bool) (x : Counted) (o : Option Counted) (r : Counted) → (if b then Some x else o) ≡ Some r → ((b ≡ true) × (x ≡ r)) ⊎ (o ≡ Some r)
chosen_some true x o r e = inl (refl, ap (λ o. unwrap_or o x) e)
chosen_some false x o r e = inr e

pub first_some : (hits : List ℕ) (dying rows : List Counted) (r : Counted) → first_dying hits dying rows ≡ Some r → IsOf r rows × (dies hits dying r ≡ true)
first_some hits dying [] r e = absurd (none-some r e)
first_some hits dying (q ∷ rows) r e =
    elim (chosen_some (dies hits dying q) q (first_dying hits dying rows) r e) [
      | inl h ↦ (inl h.1, subst (λ z. dies hits dying z ≡ true) h.1 h.0)
      | inr h ↦ (let rest = first_some hits dying rows r h in (inr rest.0, rest.1))
    ]

chosen_none : (b : Bool) (x : Counted) (o : Option Counted) → (if b then Some x else o) ≡ None → (b ≡ false) × (o ≡ None)
chosen_none true x o e = absurd (none-some x (sym e))
chosen_none false x o e = (refl, e)

first_none : (hits : List ℕ) (dying rows : List Counted) → first_dying hits dying rows ≡ None → (r : Counted) → IsOf r rows → dies hits dying r ≡ false
first_none hits dying [] e r o = absurd o
first_none hits dying (q ∷ rows) e r (inl s) = subst (λ z. dies hits dying z ≡ false) s (chosen_none (dies hits dying q) q (first_dying hits dying rows) e).0
first_none hits dying (q ∷ rows) e r (inr o) = first_none hits dying rows (chosen_none (dies hits dying q) q (first_dying hits dying rows) e).1 r o

-- how many of the rows are not dying
open_count : List Counted → List Counted → ℕ
open_count dying [] = 0
open_count dying (r ∷ rows) = (if has_node (counted_nodes dying) r.node then 0 else 1) + open_count dying rows

open_most : (dying rows : List Counted) → open_count dying rows ≤ length rows
unfolding open_count
open_most dying [] = omega arith
open_most dying (r ∷ rows) = let rest = open_most dying rows in go (has_node (counted_nodes dying) r.node) rest
  where
    go : (b : Bool) → open_count dying rows ≤ length rows → (if b then 0 else 1) + open_count dying rows ≤ length (r ∷ rows)
    go true l = omega arith
    go false l = omega arith

open_grow : (dying rows : List Counted) (r : Counted) → open_count (dying ++ r ∷ []) rows ≤ open_count dying rows
unfolding open_count
open_grow dying [] r = omega arith
open_grow dying (q ∷ rows) r = let rest = open_grow dying rows r in go (has_node (counted_nodes dying) q.node) (has_node (counted_nodes (dying ++ r ∷ [])) q.node) (λ h. has_more q.node dying r ∙ ap (λ b. b || (r.node == q.node)) h) rest
  where
    go : (a b : Bool) → (a ≡ true → b ≡ true) → open_count (dying ++ r ∷ []) rows ≤ open_count dying rows
        → (if b then 0 else 1) + open_count (dying ++ r ∷ []) rows ≤ (if a then 0 else 1) + open_count dying rows
    go a true h l = omega arith
    go true false h l = let e : false ≡ true = h refl in absurd (cc)
    go false false h l = omega arith

open_less : (dying rows : List Counted) (r : Counted) → IsOf r rows → has_node (counted_nodes dying) r.node ≡ false → open_count (dying ++ r ∷ []) rows + 1 ≤ open_count dying rows
unfolding open_count
open_less dying [] r o h = absurd o
open_less dying (q ∷ rows) r (inl e) h =
    let rest = open_grow dying rows r in
    let old : has_node (counted_nodes dying) q.node ≡ false = subst (λ (z : Counted). has_node (counted_nodes dying) z.node ≡ false) (sym e) h in
    let new : has_node (counted_nodes (dying ++ r ∷ [])) q.node ≡ true =
    has_more q.node dying r ∙ ap (λ b. has_node (counted_nodes dying) q.node || b) (ap (λ (z : Counted). z.node == q.node) (sym e) ∙ node_same q.node) ∙ or_true (has_node (counted_nodes dying) q.node) in
    go (has_node (counted_nodes dying) q.node) (has_node (counted_nodes (dying ++ r ∷ [])) q.node) old new rest
  where
    go : (a b : Bool) → a ≡ false → b ≡ true → open_count (dying ++ r ∷ []) rows ≤ open_count dying rows
        → ((if b then 0 else 1) + open_count (dying ++ r ∷ []) rows) + 1 ≤ (if a then 0 else 1) + open_count dying rows
    go true b h k l = absurd (cc)
    go false false h k l = absurd (cc)
    go false true h k l = omega arith
open_less dying (q ∷ rows) r (inr o) h =
    let rest = open_less dying rows r o h in
    go (has_node (counted_nodes dying) q.node) (has_node (counted_nodes (dying ++ r ∷ [])) q.node) (λ k. has_more q.node dying r ∙ ap (λ b. b || (r.node == q.node)) k) rest
  where
    go : (a b : Bool) → (a ≡ true → b ≡ true) → open_count (dying ++ r ∷ []) rows + 1 ≤ open_count dying rows
        → ((if b then 0 else 1) + open_count (dying ++ r ∷ []) rows) + 1 ≤ (if a then 0 else 1) + open_count dying rows
    go a true h l = omega arith
    go true false h l = let e : false ≡ true = h refl in absurd (cc)
    go false false h l = omega arith

open_zero : (dying rows : List Counted) (r : Counted) → open_count dying rows ≤ 0 → IsOf r rows → has_node (counted_nodes dying) r.node ≡ true
unfolding open_count
open_zero dying [] r l o = absurd o
open_zero dying (q ∷ rows) r l (inl e) = subst (λ (z : Counted). has_node (counted_nodes dying) z.node ≡ true) e (go (has_node (counted_nodes dying) q.node) l)
  where
    go : (b : Bool) → (if b then 0 else 1) + open_count dying rows ≤ 0 → b ≡ true
    go true l = refl
    go false l = absurd (omega arith)
open_zero dying (q ∷ rows) r l (inr o) = open_zero dying rows r (omega arith) o

-- what holds of the rows that are dying so far
record AreDying (hits : List ℕ) (rows : List Counted) (root : ℕ) (dying : List Counted) : Type 0 where
  refs_are : (m : ℕ) → refs_by_set rows (λ n. has_node (counted_nodes dying) n) m ≡ refs_by_counted dying m
  has_root : has_node (counted_nodes dying) root ≡ true
  sound : (set : ℕ → Bool) → set root ≡ true → IsClosedByCounts hits rows set → (n : ℕ) → has_node (counted_nodes dying) n ≡ true → set n ≡ true

not_true : (b : Bool) → not b ≡ true → b ≡ false
not_true true h = absurd (cc)
not_true false h = refl

-- what it takes to go
pub dies_parts : (hits : List ℕ) (dying : List Counted) (r : Counted) → dies hits dying r ≡ true
    → (has_node (counted_nodes dying) r.node ≡ false) × (has_node hits r.node ≡ false) × (nat_le r.others (refs_by_counted dying r.node) ≡ true)
dies_parts hits dying r h =
    let first = and_parts (not (has_node (counted_nodes dying) r.node) && not (has_node hits r.node)) (nat_le r.others (refs_by_counted dying r.node)) h in
    let second = and_parts (not (has_node (counted_nodes dying) r.node)) (not (has_node hits r.node)) first.0 in
    (not_true _ second.0, not_true _ second.1, first.1)

either : (a b : Bool) → (a || b) ≡ true → (a ≡ true) ⊎ (b ≡ true)
either true b h = inl refl
either false b h = inr h

le_from : (a b : ℕ) → nat_le a b ≡ true → a ≤ b
le_from a b h = search rules

more_dying : (hits : List ℕ) (rows : List Counted) (root : ℕ) (dying : List Counted) (r : Counted) → are_distinct (counted_nodes rows) ≡ true → AreDying hits rows root dying → IsOf r rows → dies hits dying r ≡ true
    → AreDying hits rows root (dying ++ r ∷ [])
more_dying hits rows root dying r d g o h = record {
  refs_are = λ m. refs_same rows (λ n. has_node (counted_nodes (dying ++ r ∷ [])) n) (with_one (λ n. has_node (counted_nodes dying) n) r.node) m (λ n there. has_more n dying r)
      ∙ refs_with_one rows r (λ n. has_node (counted_nodes dying) n) m d o (dies_parts hits dying r h).0
      ∙ ap (λ k. k + refs m r.row) (g.refs_are m)
      ∙ sym (refs_more dying r m);
  has_root = has_more root dying r ∙ ap (λ b. b || (r.node == root)) g.has_root;
  sound = λ set root_in closed n there.
      elim (either (has_node (counted_nodes dying) n) (r.node == n) (sym (has_more n dying r) ∙ there)) [
        | inl old ↦ g.sound set root_in closed n old
        | inr same ↦ subst (λ k. set k ≡ true) (same_node _ _ same) (enters set root_in closed)
      ];
}
  where
    enters : (set : ℕ → Bool) → set root ≡ true → IsClosedByCounts hits rows set → set r.node ≡ true
    enters set root_in closed =
        let grow = refs_grow rows (λ n. has_node (counted_nodes dying) n) set r.node (g.sound set root_in closed) in
        let few = le_from _ _ (dies_parts hits dying r h).2 in
        let same = g.refs_are r.node in
        of_all (λ q. has_node hits q.node ≡ false → q.others ≤ refs_by_set rows set q.node → set q.node ≡ true) r rows closed o (dies_parts hits dying r h).1 (omega (arith, grow, few, same))

-- nothing more dies
abbrev Settled : List ℕ → List Counted → List Counted → Type 0
Settled hits rows dying = (r : Counted) → IsOf r rows → (has_node (counted_nodes dying) r.node ≡ true) ⊎ (dies hits dying r ≡ false)

settled : (k : ℕ) (hits : List ℕ) (q : Counted) (rows dying : List Counted) → are_distinct (counted_nodes (q ∷ rows)) ≡ true → AreDying hits (q ∷ rows) q.node dying → open_count dying rows ≤ k
    → AreDying hits (q ∷ rows) q.node (dying_after k hits rows dying) × Settled hits rows (dying_after k hits rows dying)
settled zero hits q rows dying d g l = (g, λ r o. inl (open_zero dying rows r l o))
settled (suc k) hits q rows dying d g l = go (first_dying hits dying rows) refl (settled k hits q rows)
  where
    go : (o : Option Counted) → first_dying hits dying rows ≡ o
        → ((dying : List Counted) → are_distinct (counted_nodes (q ∷ rows)) ≡ true → AreDying hits (q ∷ rows) q.node dying → open_count dying rows ≤ k
        → AreDying hits (q ∷ rows) q.node (dying_after k hits rows dying) × Settled hits rows (dying_after k hits rows dying))
        → AreDying hits (q ∷ rows) q.node (and_more dying (dying_after k hits rows) o) × Settled hits rows (and_more dying (dying_after k hits rows) o)
    go None e next = (g, λ r o. inr (first_none hits dying rows e r o))
    go (Some r) e next =
        let found = first_some hits dying rows r e in
        let fewer = open_less dying rows r found.0 (dies_parts hits dying r found.1).0 in
        next (dying ++ r ∷ []) d (more_dying hits (q ∷ rows) q.node dying r d g (inr found.0) found.1) (omega (arith, fewer, l))

begun : (hits : List ℕ) (root : Counted) (rows : List Counted) → are_distinct (counted_nodes (root ∷ rows)) ≡ true → AreDying hits (root ∷ rows) root.node (root ∷ [])
begun hits root rows d = record {
  refs_are = λ m. refs_same (root ∷ rows) (λ n. has_node (root.node ∷ []) n) (with_one (λ n. false) root.node) m (λ n there. or_false (root.node == n))
      ∙ refs_with_one (root ∷ rows) root (λ n. false) m d (inl refl) refl
      ∙ none (root ∷ rows) m;
  has_root = ap (λ b. b || false) (node_same root.node);
  sound = λ set root_in closed n there. subst (λ k. set k ≡ true) (same_node root.node n (sym (or_false (root.node == n)) ∙ there)) root_in;
}
  where
    nothing : (rows : List Counted) (m : ℕ) → refs_by_set rows (λ n. false) m ≡ 0
    nothing [] m = refl
    nothing (r ∷ rows) m = let e = nothing rows m in omega (arith, e)

    none : (rows : List Counted) (m : ℕ) → refs_by_set rows (λ n. false) m + refs m root.row ≡ refs_by_counted (root ∷ []) m
    none rows m = let e = nothing rows m in omega (arith, e)

le_true : (a b : ℕ) → a ≤ b → nat_le a b ≡ true
le_true a b h = search rules

pub dying_are_least : (hits : List ℕ) (root : Counted) (rows : List Counted) → are_distinct (counted_nodes (root ∷ rows)) ≡ true
    → IsLeastDying hits (root ∷ rows) root.node (λ n. has_node (counted_nodes (dying_of hits (root ∷ rows))) n)
dying_are_least hits root rows d = record {
  root_dies = all.0.has_root;
  closed = all_of (λ r. has_node hits r.node ≡ false → r.others ≤ refs_by_set (root ∷ rows) (λ n. has_node (counted_nodes (dying_of hits (root ∷ rows))) n) r.node → has_node (counted_nodes (dying_of hits (root ∷ rows))) r.node ≡ true) (root ∷ rows) closed;
  least = λ set root_in closed n there. all.0.sound set root_in closed n there;
}
  where
    all : AreDying hits (root ∷ rows) root.node (dying_of hits (root ∷ rows)) × Settled hits rows (dying_of hits (root ∷ rows))
    all = settled (length rows) hits root rows (root ∷ []) d (begun hits root rows d) (open_most (root ∷ []) rows)

    decided : (a b c : Bool) → ((not a && not b) && c) ≡ false → b ≡ false → c ≡ true → a ≡ true
    decided true b c h k l = refl
    decided false true c h k l = absurd (cc)
    decided false false true h k l = absurd (cc)
    decided false false false h k l = absurd (cc)

    closed : (r : Counted) → IsOf r (root ∷ rows) → has_node hits r.node ≡ false → r.others ≤ refs_by_set (root ∷ rows) (λ n. has_node (counted_nodes (dying_of hits (root ∷ rows))) n) r.node → has_node (counted_nodes (dying_of hits (root ∷ rows))) r.node ≡ true
    closed r (inl e) free l = subst (λ (z : Counted). has_node (counted_nodes (dying_of hits (root ∷ rows))) z.node ≡ true) e all.0.has_root
    closed r (inr o) free l =
        elim (all.1 r o) [
          | inl there ↦ there
          | inr h ↦ decided _ _ _ h free (le_true _ _ (let same = all.0.refs_are r.node in omega (arith, same, l)))
        ]

-- no further row dies
pub none_left : (hits : List ℕ) (root : Counted) (rows : List Counted) → are_distinct (counted_nodes (root ∷ rows)) ≡ true → (r : Counted) → IsOf r rows → dies hits (dying_of hits (root ∷ rows)) r ≡ false
none_left hits root rows d r o =
    elim ((settled (length rows) hits root rows (root ∷ []) d (begun hits root rows d) (open_most (root ∷ []) rows)).1 r o) [
      | inl there ↦ ap (λ b. (not b && not (has_node hits r.node)) && nat_le r.others (refs_by_counted (dying_of hits (root ∷ rows)) r.node)) there
      | inr h ↦ h
    ]
