-- One node after the other is balanced.
use Rattle.std.proofs.Common.{◌≡◌, ◌≢◌, ℕ, zero, suc, ◌+◌, ◌-◌, ◌*◌, ◌%◌, ◌<◌, ◌≤◌, ◌⊎◌, nat_eq, Bool, true, false, List, [], ◌∷◌, ◌++◌, length, set, refl, sym, ap, ◌∙◌, subst, subst₂, arith, inl, inr, Option, Some, None, IsSome}
use Rattle.std.specs.List.{sum_by}
use Rattle.std.specs.List.Sorted.{IsPermutation}
use Rattle.std.proofs.lemmas.Bool.{cases_lt, cases_eq, cond-true, eq-eqb, both_ways, false_from_ne_true}
use Rattle.std.proofs.lemmas.List.{get_or-set_same, get_or-set_other, length-set}
use Rattle.std.proofs.lemmas.List.Sorted.{IsPermutation-refl, IsPermutation-trans}
use Rattle.std.proofs.lemmas.List.Sums.{sum_by-set}
use Rattle.syn_rows.specs.declared.Lit.{Lit}
use Rattle.syn_rows.specs.declared.Row.{Row}
use Rattle.syn_rows.specs.declared.Row.TheVariants.{And}
use Rattle.syn_rows.specs.Rows.{node_of, row_at}
use Rattle.syn_rows.specs.References.{hits, refs}
use Rattle.syn_hashed.specs.Growing.{Extends}
use Rattle.syn_hashed.specs.Visiting.{visited, with_sign, literal_of}
use Rattle.syn_balance.specs.Roots.{mark_at, refs_before, HasRoots}
use Rattle.syn_balance.specs.Leaves.{StandFor, plain, waiting_at, leaves_where, leaves_of, left_where, left_by, joins_of}
use Rattle.syn_balance.specs.Rule.{Balanced, BalancesNode, AreBalanced, AreJoined, AreOne}
use Rattle.syn_balance.specs.Balancing.{IsBalancing, WaitFor}
use Rattle.syn_balance.proofs.Standing.{one_leaf, one_parts, stand_kept, signed, signed_stands}

-- references
refs_rise : (rows : List Row) (m n k : ℕ) → n ≤ k → refs_before n rows m ≤ refs_before k rows m
refs_rise rows m n zero h = let e : n ≡ 0 = omega arith in let same = ap (λ j. refs_before j rows m) e in omega (arith, same)
refs_rise rows m n (suc k) h = elim (cases_lt n (suc k)) [
  | inl lt ↦ let less = refs_rise rows m n k (omega arith) in omega (arith, less)
  | inr ge ↦ let same = ap (λ j. refs_before j rows m) (let e : n ≡ suc k = omega arith in e) in omega (arith, same)
]

hits_itself : (n : ℕ) → hits n n ≡ 1
hits_itself n = cond-true (nat_eq n n) 1 0 (eq-eqb n n refl)

refers : (rows : List Row) (n : ℕ) (a b : Lit) → row_at rows n ≡ And a b → (0 < refs (node_of a) (row_at rows n)) × (0 < refs (node_of b) (row_at rows n))
refers rows n a b is = (
  (let e : refs (node_of a) (row_at rows n) ≡ hits (node_of a) (node_of a) + (hits (node_of a) (node_of b) + 0) = ap (refs (node_of a)) is in let o = hits_itself (node_of a) in omega (arith, e, o)),
  (let e : refs (node_of b) (row_at rows n) ≡ hits (node_of b) (node_of a) + (hits (node_of b) (node_of b) + 0) = ap (refs (node_of b)) is in let o = hits_itself (node_of b) in omega (arith, e, o)),
)

some_none : {A : Type 0} (x : A) → Some x ≡ None → ⊥
some_none x e = cc

is_some_none : {A : Type 0} (o : Option A) → IsSome o → o ≡ None → ⊥
is_some_none None h e = both_ways false refl h
is_some_none (Some x) h e = some_none x e

-- a fan-in without a literal of its own is plain, and nobody has taken what waits there
pub record IsReady (rows : List Row) (n : ℕ) (lit : Lit) : Type 0 where
  pub plain : lit.0 % 2 ≡ 0
  pub left : refs_before n rows (node_of lit) ≡ 0

ready : (rows : List Row) (lits : List Lit) (roots : List Bool) (n : ℕ) (lit : Lit) → HasRoots rows lits roots → n < length rows → mark_at roots (node_of lit) ≡ false
    → (lit.0 % 2 ≡ 1 → mark_at roots (node_of lit) ≡ true) → 0 < refs (node_of lit) (row_at rows n) → IsReady rows n lit
ready rows lits roots n lit r lt off marked some = record {
  plain = elim (cases_eq (lit.0 % 2) 1) [ inl e ↦ absurd (both_ways (mark_at roots (node_of lit)) off (marked e)) | inr ne ↦ omega arith ];
  left = (
      let most = r.shared (node_of lit) off in
      let less = refs_rise rows (node_of lit) (suc n) (length rows) (omega arith) in
      let more : refs_before (suc n) rows (node_of lit) ≡ refs_before n rows (node_of lit) + refs (node_of lit) (row_at rows n) = refl in
      omega (arith, most, less, more, some));
}

pub both_ready : (count : ℕ) (rows : List Row) (lits : List Lit) (roots : List Bool) (n : ℕ) (literals : List (Option Lit)) (waiting : List (List Lit)) (new : List Row) (a b : Lit)
    → HasRoots rows lits roots → IsBalancing count rows roots n literals waiting new → n < length rows → row_at rows n ≡ And a b → node_of a < n → node_of b < n
    → (visited literals (node_of a) ≡ None → IsReady rows n a) × (visited literals (node_of b) ≡ None → IsReady rows n b)
both_ready count rows lits roots n literals waiting new a b r s lt is la lb = (
  λ e. ready rows lits roots n a r lt (off a la e) (r.complemented n a b (omega arith) is).0 (refers rows n a b is).0,
  λ e. ready rows lits roots n b r lt (off b lb e) (r.complemented n a b (omega arith) is).1 (refers rows n a b is).1,
)
  where
    off : (x : Lit) → node_of x < n → visited literals (node_of x) ≡ None → mark_at roots (node_of x) ≡ false
    off x l e = false_from_ne_true (mark_at roots (node_of x)) (λ m. is_some_none (visited literals (node_of x)) (s.rooted (node_of x) l m) e)

-- the leaves of a fan-in stand for it
number_is : (lit : Lit) → lit.0 % 2 ≡ 0 → plain (node_of lit) ≡ lit
number_is lit e = ap (λ (k : ℕ). let l : Lit = record { 0 = k } in l) (let n : 2 * node_of lit ≡ lit.0 = omega arith in n)

pub leaves_stand : (count : ℕ) (rows : List Row) (roots : List Bool) (n : ℕ) (literals : List (Option Lit)) (waiting : List (List Lit)) (new : List Row) (lit : Lit)
    → IsBalancing count rows roots n literals waiting new → node_of lit < n → (visited literals (node_of lit) ≡ None → IsReady rows n lit) → StandFor rows new lit (leaves_of literals waiting lit)
leaves_stand count rows roots n literals waiting new lit s lt r = go (visited literals (node_of lit)) refl
  where
    go : (o : Option Lit) → visited literals (node_of lit) ≡ o → StandFor rows new lit (leaves_where (with_sign lit o) (waiting_at waiting (node_of lit)))
    go (Some l) e = one_leaf rows new lit (signed lit l) (signed_stands rows new lit l (one_parts rows new (plain (node_of lit)) l (s.made (node_of lit) l e)))
    go None e = elim (s.waits (node_of lit) lt e) [
      | inl w ↦ subst (λ (x : Lit). StandFor rows new x (waiting_at waiting (node_of lit))) (number_is lit (r e).plain) w.0
      | inr taken ↦ absurd (let l = (r e).left in omega (arith, l))
    ]

-- and are those that the rule gives it
pub leaves_match : (count : ℕ) (rows : List Row) (roots : List Bool) (n : ℕ) (literals : List (Option Lit)) (waiting : List (List Lit)) (new : List Row) (lit : Lit)
    → (s : IsBalancing count rows roots n literals waiting new) → node_of lit < n → (visited literals (node_of lit) ≡ None → IsReady rows n lit) → IsPermutation (leaves_of literals s.leaves lit) (leaves_of literals waiting lit)
leaves_match count rows roots n literals waiting new lit s lt r = go (visited literals (node_of lit)) refl
  where
    go : (o : Option Lit) → visited literals (node_of lit) ≡ o → IsPermutation (leaves_where (with_sign lit o) (waiting_at s.leaves (node_of lit))) (leaves_where (with_sign lit o) (waiting_at waiting (node_of lit)))
    go (Some l) e = IsPermutation-refl (signed lit l ∷ [])
    go None e = elim (s.waits (node_of lit) lt e) [
      | inl w ↦ w.1
      | inr taken ↦ absurd (let l = (r e).left in omega (arith, l))
    ]

-- what is left when leaves were taken
pub record IsLeft (waiting left : List (List Lit)) (node : ℕ) (leaves : List Lit) : Type 0 where
  pub others : (m : ℕ) → m ≢ node → waiting_at left m ≡ waiting_at waiting m
  pub size : length left ≡ length waiting
  pub joins : sum_by joins_of left + joins_of leaves ≤ sum_by joins_of waiting

pub taken : (literals : List (Option Lit)) (waiting : List (List Lit)) (lit : Lit) → node_of lit < length waiting → IsLeft waiting (left_by literals waiting lit) (node_of lit) (leaves_of literals waiting lit)
taken literals waiting lit lt = go (literal_of literals lit)
  where
    go : (o : Option Lit) → IsLeft waiting (left_where o waiting (node_of lit)) (node_of lit) (leaves_where o (waiting_at waiting (node_of lit)))
    go (Some l) = record { others = λ m ne. refl; size = refl; joins = omega arith }
    go None = record {
      others = λ m ne. get_or-set_other waiting (node_of lit) m [] [] ne;
      size = length-set waiting (node_of lit) [];
      joins = (let e = sum_by-set joins_of waiting (node_of lit) [] [] lt in omega (arith, e));
    }

pub leaves_still : (literals : List (Option Lit)) (waiting left : List (List Lit)) (lit : Lit) → waiting_at left (node_of lit) ≡ waiting_at waiting (node_of lit) → leaves_of literals left lit ≡ leaves_of literals waiting lit
leaves_still literals waiting left lit e = ap (leaves_where (literal_of literals lit)) e

-- what was taken from both fan-ins
pub record AreTaken (rows : List Row) (n : ℕ) (a b : Lit) (waiting left : List (List Lit)) (joins : ℕ) : Type 0 where
  pub others : (m : ℕ) → m ≢ node_of a → m ≢ node_of b → waiting_at left m ≡ waiting_at waiting m
  pub size : length left ≡ length waiting
  pub joins_left : sum_by joins_of left + joins ≤ sum_by joins_of waiting

pub both_taken : (rows : List Row) (n : ℕ) (a b : Lit) (waiting mid left : List (List Lit)) (xs ys : List Lit) → IsLeft waiting mid (node_of a) xs → IsLeft mid left (node_of b) ys → AreTaken rows n a b waiting left (joins_of xs + joins_of ys)
both_taken rows n a b waiting mid left xs ys s t = record {
  others = λ m ma mb. t.others m mb ∙ s.others m ma;
  size = t.size ∙ s.size;
  joins_left = (let p = s.joins in let q = t.joins in omega (arith, p, q));
}

-- the next node: who refers to what
referred : (rows : List Row) (n m : ℕ) (a b : Lit) → row_at rows n ≡ And a b → (m ≡ node_of a) ⊎ (m ≡ node_of b) → 0 < refs_before (suc n) rows m
referred rows n m a b is (inl e) = subst (λ k. 0 < refs_before (suc n) rows k) (sym e) (let h = (refers rows n a b is).0 in let z : 0 < refs_before n rows (node_of a) + refs (node_of a) (row_at rows n) = omega (arith, h) in z)
referred rows n m a b is (inr e) = subst (λ k. 0 < refs_before (suc n) rows k) (sym e) (let h = (refers rows n a b is).1 in let z : 0 < refs_before n rows (node_of b) + refs (node_of b) (row_at rows n) = omega (arith, h) in z)

still_open : (count : ℕ) (rows : List Row) (roots : List Bool) (n : ℕ) (literals : List (Option Lit)) (waiting left : List (List Lit)) (new : List Row) (a b : Lit) (joins : ℕ)
    → (s : IsBalancing count rows roots n literals waiting new) → AreTaken rows n a b waiting left joins → row_at rows n ≡ And a b → (m : ℕ) → m < n → visited literals m ≡ None
    → WaitFor rows new m (waiting_at s.leaves m) (waiting_at left m) ⊎ (0 < refs_before (suc n) rows m)
still_open count rows roots n literals waiting left new a b joins s t is m lt e = elim (cases_eq m (node_of a)) [
  | inl same ↦ inr (referred rows n m a b is (inl same))
  | inr ma ↦ elim (cases_eq m (node_of b)) [
    | inl same ↦ inr (referred rows n m a b is (inr same))
    | inr mb ↦ elim (s.waits m lt e) [
      | inl w ↦ inl (subst (WaitFor rows new m (waiting_at s.leaves m)) (sym (t.others m ma mb)) w)
      | inr taken ↦ inr (let less : refs_before n rows m ≤ refs_before (suc n) rows m = refs_rise rows m n (suc n) (omega arith) in omega (arith, less, taken))
    ]
  ]
]

-- one AND more is balanced by the rule
one_more : (count : ℕ) (rows : List Row) (roots : List Bool) (n : ℕ) (old s : Balanced) → count < n → AreBalanced count rows roots (n - (count + 1)) old → BalancesNode rows roots n old s → AreBalanced count rows roots (suc n - (count + 1)) s
one_more count rows roots n old s above done step =
    subst (λ (k : ℕ). AreBalanced count rows roots k s) (let e : suc (n - (count + 1)) ≡ suc n - (count + 1) = omega (arith, above) in e)
    (old, done, subst (λ (k : ℕ). BalancesNode rows roots k old s) (let e : n ≡ count + 1 + (n - (count + 1)) = omega (arith, above) in e) step)

joined_permuted : (times : ℕ) (rows new : List Row) (xs ys left : List Lit) → IsPermutation xs ys → AreJoined times rows ys new left → AreJoined times rows xs new left
joined_permuted zero rows new xs ys left p j = (j.0, IsPermutation-trans xs ys left p j.1)
joined_permuted (suc times) rows new xs ys left p j = (j.0, j.1, joined_permuted times rows j.0 xs ys j.1 p j.2, j.3)

-- leaves wait at the next node
pub wait_next : (count : ℕ) (rows : List Row) (roots : List Bool) (n : ℕ) (literals : List (Option Lit)) (waiting left : List (List Lit)) (new : List Row) (a b : Lit) (joins : ℕ) (leaves : List Lit)
    → (s : IsBalancing count rows roots n literals waiting new) → AreTaken rows n a b waiting left joins → count < n → n < length rows → row_at rows n ≡ And a b → mark_at roots n ≡ false
    → StandFor rows new (plain n) leaves → IsPermutation (leaves_of literals s.leaves a ++ leaves_of literals s.leaves b) leaves → joins_of leaves ≤ joins + 1 → IsBalancing count rows roots (suc n) literals (set left n leaves) new
wait_next count rows roots n literals waiting left new a b joins leaves s t above lt is off stand same few = record {
  leaves = set s.leaves n by_rule;
  rule = one_more count rows roots n (record { new = new; literals = literals; leaves = s.leaves }) (record { new = new; literals = literals; leaves = set s.leaves n by_rule }) above s.rule (record {
    a = a;
    b = b;
    is = is;
    leaves = refl;
    marked = λ on. absurd (both_ways (mark_at roots n) off on);
    unmarked = λ u. (refl, refl);
  });
  all_leaves = length-set s.leaves n by_rule ∙ s.all_leaves;
  all = s.all;
  all_wait = length-set left n leaves ∙ (t.size ∙ s.all_wait);
  front = s.front;
  made = s.made;
  waits = λ m less e. elim (cases_eq m n) [
    | inl here ↦ inl (subst (λ k. WaitFor rows new k (waiting_at (set s.leaves n by_rule) k) (waiting_at (set left n leaves) k)) (sym here)
        (subst₂ (WaitFor rows new n) (sym (get_or-set_same s.leaves n by_rule [] (let e = s.all_leaves in omega (arith, e, lt)))) (sym (get_or-set_same left n leaves [] inside)) (stand, same)))
    | inr ne ↦ elim (still_open count rows roots n literals waiting left new a b joins s t is m (omega arith) e) [
      | inl w ↦ inl (subst₂ (WaitFor rows new m) (sym (get_or-set_other s.leaves n m by_rule [] ne)) (sym (get_or-set_other left n m leaves [] ne)) w)
      | inr taken ↦ inr taken
    ]
  ];
  rooted = λ m less marked. elim (cases_eq m n) [
    | inl same ↦ absurd (both_ways (mark_at roots n) off (subst (λ k. mark_at roots k ≡ true) same marked))
    | inr ne ↦ s.rooted m (omega arith) marked
  ];
  few = (
      let e = sum_by-set joins_of left n leaves [] inside in
      let j = t.joins_left in
      let f = s.few in
      omega (arith, e, j, f, few));
}
  where
    by_rule : List Lit
    by_rule = leaves_of literals s.leaves a ++ leaves_of literals s.leaves b

    inside : n < length left
    inside = let x = t.size in let y = s.all_wait in omega (arith, x, y)

-- the next node has its literal
pub root_next : (count : ℕ) (rows : List Row) (roots : List Bool) (n : ℕ) (literals : List (Option Lit)) (waiting left : List (List Lit)) (new more : List Row) (a b l : Lit) (joins : ℕ) (leaves : List Lit)
    → (s : IsBalancing count rows roots n literals waiting new) → AreTaken rows n a b waiting left joins → count < n → n < length rows → row_at rows n ≡ And a b → mark_at roots n ≡ true
    → Extends new more → StandFor rows more (plain n) (l ∷ []) → IsPermutation (leaves_of literals s.leaves a ++ leaves_of literals s.leaves b) leaves → AreOne new leaves more l → length more ≤ length new + (joins + 1) → IsBalancing count rows roots (suc n) (set literals n (Some l)) left more
root_next count rows roots n literals waiting left new more a b l joins leaves s t above lt is on grows stand same one few = record {
  leaves = set s.leaves n by_rule;
  rule = one_more count rows roots n (record { new = new; literals = literals; leaves = s.leaves }) (record { new = more; literals = set literals n (Some l); leaves = set s.leaves n by_rule }) above s.rule (record {
    a = a;
    b = b;
    is = is;
    leaves = refl;
    marked = λ m. (l, refl, (one.0, joined_permuted one.0 new more (waiting_at (set s.leaves n by_rule) n) leaves (l ∷ []) mine one.1));
    unmarked = λ u. absurd (both_ways (mark_at roots n) u on);
  });
  all_leaves = length-set s.leaves n by_rule ∙ s.all_leaves;
  all = length-set literals n (Some l) ∙ s.all;
  all_wait = t.size ∙ s.all_wait;
  front = λ m low. get_or-set_other literals n m (Some l) None (λ e. omega arith) ∙ s.front m low;
  made = λ m k e. elim (cases_eq m n) [
    | inl same ↦
        let at : l ≡ k = some_same l k (sym (here m same) ∙ e) in
        subst (λ (j : ℕ). StandFor rows more (plain j) (k ∷ [])) (sym same) (subst (λ (z : Lit). StandFor rows more (plain n) (z ∷ [])) at stand)
    | inr ne ↦ stand_kept rows new more (plain m) (k ∷ []) grows (s.made m k (sym (get_or-set_other literals n m (Some l) None ne) ∙ e))
  ];
  waits = λ m less e. elim (cases_eq m n) [
    | inl same ↦ absurd (some_none l (sym (here m same) ∙ e))
    | inr ne ↦ elim (still_open count rows roots n literals waiting left new a b joins s t is m (omega arith) (sym (get_or-set_other literals n m (Some l) None ne) ∙ e)) [
      | inl w ↦ inl (stand_kept rows new more (plain m) (waiting_at left m) grows w.0, subst (λ (xs : List Lit). IsPermutation xs (waiting_at left m)) (sym (get_or-set_other s.leaves n m by_rule [] ne)) w.1)
      | inr taken ↦ inr taken
    ]
  ];
  rooted = λ m less marked. elim (cases_eq m n) [
    | inl same ↦ subst IsSome (sym (here m same)) refl
    | inr ne ↦ subst IsSome (sym (get_or-set_other literals n m (Some l) None ne)) (s.rooted m (omega arith) marked)
  ];
  few = (let j = t.joins_left in let f = s.few in omega (arith, j, f, few));
}
  where
    by_rule : List Lit
    by_rule = leaves_of literals s.leaves a ++ leaves_of literals s.leaves b

    mine : IsPermutation (waiting_at (set s.leaves n by_rule) n) leaves
    mine = subst (λ (xs : List Lit). IsPermutation xs leaves) (sym (get_or-set_same s.leaves n by_rule [] (let e = s.all_leaves in omega (arith, e, lt)))) same

    inside : n < length literals
    inside = let x = s.all in omega (arith, x)

    some_same : (p q : Lit) → Some p ≡ Some q → p ≡ q
    some_same p q h = cc

    here : (m : ℕ) → m ≡ n → visited (set literals n (Some l)) m ≡ Some l
    here m same = ap (visited (set literals n (Some l))) same ∙ get_or-set_same literals n (Some l) None inside
