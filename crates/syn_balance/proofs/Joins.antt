-- The two leaves of least level are joined.
use Rattle.std.proofs.Common.{◌≡◌, ℕ, ◌+◌, ◌<◌, ◌≤◌, ◌⊎◌, ◌&&◌, ◌||◌, not, Bool, true, false, All, List, [], ◌∷◌, length, map, get_or, refl, sym, ap, ap₂, ◌∙◌, subst, arith, inl, inr}
use Rattle.std.specs.List.{list_all, list_any}
use Rattle.std.specs.List.Sorted.{IsPermutation}
use Rattle.std.specs.BinaryHeap.{IsUpperBound}
use Rattle.std.specs.Ordering.{is_lt, nat_cmp, ordering_then, MatchOrdering}
use Rattle.std.specs.declared.cmp.Ordering.{Ordering}
use Rattle.std.specs.declared.cmp.Ordering.TheVariants.{Less, Equal, Greater}
use Rattle.std.specs.declared.cmp.Reverse.{Reverse}
use Rattle.std.proofs.lemmas.Bool.{both_ways}
use Rattle.std.proofs.lemmas.Cmp.{ranked}
use Rattle.std.proofs.lemmas.List.Elements.{All-head, All-tail, All-nil, All-cons}
use Rattle.std.proofs.lemmas.List.Sums.{sum_by-cons}
use Rattle.std.proofs.lemmas.List.Sorted.{All-permutation, IsPermutation-cons, IsPermutation-map, IsPermutation-sym, IsPermutation-trans, length_permutation, list_any-IsPermutation, sum_by-IsPermutation, le_from_greatest}
use Rattle.syn_rows.specs.declared.Lit.{Lit}
use Rattle.syn_rows.specs.declared.Row.{Row}
use Rattle.syn_rows.specs.Rows.{node_of}
use Rattle.syn_rows.specs.Levels.{level_in, levels_of}
use Rattle.syn_hashed.specs.Hashed.{IsHashed}
use Rattle.syn_hashed.specs.Growing.{Extends, IsAnd, IsJoin, value_by, level_by}
use Rattle.syn_hashed.specs.Joined.{joined_lit, joined_rows}
use Rattle.syn_hashed.proofs.Rising.{extends_longer, extends_itself, extends_through}
use Rattle.syn_hashed.proofs.LevelLaws.{level_kept, join_level}
use Rattle.syn_balance.specs.Leaves.{weight}
use Rattle.syn_balance.specs.Joining.{IsJoining}
use Rattle.syn_balance.specs.Rule.{ComesFirst, JoinsLeast}
use Rattle.syn_balance.specs.Heaps.{AreLeaves, leaf, leaf_order, literal_in, level_of}
use Rattle.syn_balance.proofs.Powers.{multiple, two_least}
use Rattle.syn_balance.proofs.Standing.{values_kept, weights_kept, there_kept}

-- a test of all elements doesn't look at their order
all_by_any : {X : Type 0} (p : X → Bool) (xs : List X) → list_all p xs ≡ not (list_any (λ x. not (p x)) xs)
all_by_any p [] = refl
all_by_any p (x ∷ xs) = ap (λ b. p x && b) (all_by_any p xs) ∙ go (p x) (list_any (λ y. not (p y)) xs)
  where
    go : (s t : Bool) → (s && not t) ≡ not (not s || t)
    go true t = refl
    go false t = refl

all_permuted : {X : Type 0} (p : X → Bool) (xs ys : List X) → IsPermutation xs ys → list_all p xs ≡ list_all p ys
all_permuted p xs ys h = all_by_any p xs ∙ (ap not (list_any-IsPermutation (λ x. not (p x)) xs ys h) ∙ sym (all_by_any p ys))

and_regroup : (a b c : Bool) → (a && (b && c)) ≡ ((a && b) && c)
and_regroup true b c = refl
and_regroup false b c = refl

-- the step on literals
pub two_joined : (count : ℕ) (old new : List Row) (ls ls1 ls2 ls3 : List Lit) (a b l : Lit) → IsHashed count new → IsPermutation ls (a ∷ ls1) → IsPermutation ls1 (b ∷ ls2) → IsPermutation (l ∷ ls2) ls3
    → All (λ k. node_of k < length old) ls → level_by old a ≤ level_by old b → All (λ k. level_by old b ≤ level_by old k) ls2
    → Extends old new → length new ≤ length old + 1 → node_of l < length new → IsAnd old a b new l → IsJoin new a b l → IsJoining old ls new ls3
two_joined count old new ls ls1 ls2 ls3 a b l hashed first second last inside ab rest grows few there is join = record {
  grows = grows;
  there = All-permutation (λ (k : Lit). node_of k < length new) (l ∷ ls2) ls3 last (All-cons (λ (k : Lit). node_of k < length new) l ls2 there (there_kept old new ls2 grows inside2));
  value = λ given at_0.
      all_permuted (value_by given new) ls3 (l ∷ ls2) (back given at_0)
      ∙ (ap₂ (λ (x : Bool) (y : Bool). x && y) (is given at_0) (values_kept given old new ls2 grows inside2)
      ∙ (sym (and_regroup (value_by given old a) (value_by given old b) (list_all (value_by given old) ls2))
      ∙ (ap (λ (x : Bool). value_by given old a && x) (sym (all_permuted (value_by given old) ls1 (b ∷ ls2) second))
      ∙ sym (all_permuted (value_by given old) ls (a ∷ ls1) first))));
  fits = λ height h.
      let s0 = sum_by-IsPermutation (weight old) ls (a ∷ ls1) first in
      let c0 = sum_by-cons (weight old) a ls1 in
      let s1 = sum_by-IsPermutation (weight old) ls1 (b ∷ ls2) second in
      let c1 = sum_by-cons (weight old) b ls2 in
      let s3 = sum_by-IsPermutation (weight new) (l ∷ ls2) ls3 last in
      let c3 = sum_by-cons (weight new) l ls2 in
      let kept = weights_kept old new ls2 grows inside2 in
      let m = multiple (level_by old) ls2 (level_by old b) rest in
      let top = two_least (level_by old a) (level_by old b) (level_by new l) m.0 height ab low (omega (arith, s0, c0, s1, c1, m.1, h)) in
      omega (arith, s3, c3, kept, m.1, top);
  few = (
      let l0 = length_permutation ls (a ∷ ls1) first in
      let l1 = length_permutation ls1 (b ∷ ls2) second in
      let l3 = length_permutation (l ∷ ls2) ls3 last in
      omega (arith, l0, l1, l3, few));
}
  where
    inside1 : All (λ (k : Lit). node_of k < length old) (a ∷ ls1)
    inside1 = All-permutation (λ (k : Lit). node_of k < length old) ls (a ∷ ls1) first inside

    inside_b : All (λ (k : Lit). node_of k < length old) (b ∷ ls2)
    inside_b = All-permutation (λ (k : Lit). node_of k < length old) ls1 (b ∷ ls2) second (All-tail (λ (k : Lit). node_of k < length old) a ls1 inside1)

    inside2 : All (λ (k : Lit). node_of k < length old) ls2
    inside2 = All-tail (λ (k : Lit). node_of k < length old) b ls2 inside_b

    low : level_by new l ≤ level_by old b + 1
    low =
        let j = join_level count new hashed a b l join in
        let ka : level_by new a ≡ level_by old a = level_kept old new grows (node_of a) (All-head (λ (k : Lit). node_of k < length old) a ls1 inside1) in
        let kb : level_by new b ≡ level_by old b = level_kept old new grows (node_of b) (All-head (λ (k : Lit). node_of k < length old) b ls2 inside_b) in
        omega (arith, j, ka, kb, ab)

    back : (given : ℕ → Bool) → given 0 ≡ false → IsPermutation ls3 (l ∷ ls2)
    back given at_0 = IsPermutation-sym (l ∷ ls2) ls3 last

-- one step after others
pub joining_through : (first old new : List Row) (before ls left : List Lit) → IsJoining first before old ls → IsJoining old ls new left → IsJoining first before new left
joining_through first old new before ls left s t = record {
  grows = extends_through first old new s.grows t.grows;
  there = t.there;
  value = λ given at_0. t.value given at_0 ∙ s.value given at_0;
  fits = λ height h. t.fits height (s.fits height h);
  few = (let p = s.few in let q = t.few in omega (arith, p, q));
}

-- what the order of leaves says of levels
first_not_less : (a b : Ordering) → is_lt (ordering_then a b) ≡ false → is_lt a ≡ false
first_not_less Less b e = e
first_not_less Equal b e = refl
first_not_less Greater b e = refl

at_most : (p q : ℕ) → is_lt (nat_cmp p q) ≡ false → q ≤ p
at_most p q e = All-head (λ (y : ℕ). y ≤ p) q [] (le_from_greatest p (q ∷ []) (e, tt))

least_level : (x : Reverse (ℕ × Lit)) (hs : List (Reverse (ℕ × Lit))) → IsUpperBound leaf_order x hs → All (λ e. level_of x ≤ level_of e) hs
least_level x [] h = All-nil (λ (e : Reverse (ℕ × Lit)). level_of x ≤ level_of e)
least_level x (y ∷ ys) h = All-cons (λ (e : Reverse (ℕ × Lit)). level_of x ≤ level_of e) y ys (at_most (level_of y) (level_of x) (first_not_less _ _ h.0)) (least_level x ys h.1)

-- and of leaves
order_of : (p q r s : ℕ) (o m : Ordering) → MatchOrdering o (p < q) (p ≡ q) (q < p) → MatchOrdering m (r < s) (r ≡ s) (s < r) → is_lt (ordering_then o m) ≡ false → (q < p) ⊎ ((q ≡ p) × (s ≤ r))
order_of p q r s Less m h k e = absurd (both_ways true e refl)
order_of p q r s Equal Less h k e = absurd (both_ways true e refl)
order_of p q r s Equal Equal h k e = inr (sym h, omega (arith, k))
order_of p q r s Equal Greater h k e = inr (sym h, omega (arith, k))
order_of p q r s Greater m h k e = inl h

-- the leaf comes first, by the levels that stand beside the literals
abbrev pub GoesFirst : Reverse (ℕ × Lit) → Reverse (ℕ × Lit) → Type 0
GoesFirst x y = (level_of x < level_of y) ⊎ ((level_of x ≡ level_of y) × ((literal_in x).0 ≤ (literal_in y).0))

least_leaf : (x : Reverse (ℕ × Lit)) (hs : List (Reverse (ℕ × Lit))) → IsUpperBound leaf_order x hs → All (GoesFirst x) hs
least_leaf x [] h = All-nil (GoesFirst x)
least_leaf x (y ∷ ys) h =
    All-cons (GoesFirst x) y ys
    (order_of (level_of y) (level_of x) (literal_in y).0 (literal_in x).0 _ _ (ranked (level_of y) (level_of x) _ refl) (ranked (literal_in y).0 (literal_in x).0 _ refl) h.0) (least_leaf x ys h.1)

comes_first : (rows : List Row) (x : Reverse (ℕ × Lit)) (hs : List (Reverse (ℕ × Lit))) → level_of x ≡ level_by rows (literal_in x) → AreLeaves rows hs → All (GoesFirst x) hs → All (ComesFirst rows (literal_in x)) (map literal_in hs)
comes_first rows x [] e leaves h = All-nil (ComesFirst rows (literal_in x))
comes_first rows x (y ∷ ys) e leaves h =
    All-cons (ComesFirst rows (literal_in x)) (literal_in y) (map literal_in ys)
    (let at = (All-head (λ (z : Reverse (ℕ × Lit)). (node_of (literal_in z) < length rows) × (level_of z ≡ level_by rows (literal_in z))) y ys leaves).1 in elim (All-head (GoesFirst x) y ys h) [
      | inl less ↦ inl (omega (arith, e, at, less))
      | inr same ↦ inr (sym e ∙ (same.0 ∙ at), same.1)
    ])
    (comes_first rows x ys e (All-tail (λ (z : Reverse (ℕ × Lit)). (node_of (literal_in z) < length rows) × (level_of z ≡ level_by rows (literal_in z))) y ys leaves) (All-tail (GoesFirst x) y ys h))

leaves_there : (rows : List Row) (hs : List (Reverse (ℕ × Lit))) → AreLeaves rows hs → All (λ k. node_of k < length rows) (map literal_in hs)
leaves_there rows [] h = All-nil (λ (k : Lit). node_of k < length rows)
leaves_there rows (e ∷ es) h =
    All-cons (λ (k : Lit). node_of k < length rows) (literal_in e) (map literal_in es) (All-head (λ (x : Reverse (ℕ × Lit)). (node_of (literal_in x) < length rows) × (level_of x ≡ level_by rows (literal_in x))) e es h).0
    (leaves_there rows es (All-tail (λ (x : Reverse (ℕ × Lit)). (node_of (literal_in x) < length rows) × (level_of x ≡ level_by rows (literal_in x))) e es h))

levels_there : (rows : List Row) (y : ℕ) (hs : List (Reverse (ℕ × Lit))) → AreLeaves rows hs → All (λ e. y ≤ level_of e) hs → All (λ k. y ≤ level_by rows k) (map literal_in hs)
levels_there rows y [] h up = All-nil (λ (k : Lit). y ≤ level_by rows k)
levels_there rows y (e ∷ es) h up =
    All-cons (λ (k : Lit). y ≤ level_by rows k) (literal_in e) (map literal_in es)
    (let at = (All-head (λ (x : Reverse (ℕ × Lit)). (node_of (literal_in x) < length rows) × (level_of x ≡ level_by rows (literal_in x))) e es h).1 in let low = All-head (λ (x : Reverse (ℕ × Lit)). y ≤ level_of x) e es up in omega (arith, at, low))
    (levels_there rows y es (All-tail (λ (x : Reverse (ℕ × Lit)). (node_of (literal_in x) < length rows) × (level_of x ≡ level_by rows (literal_in x))) e es h) (All-tail (λ (x : Reverse (ℕ × Lit)). y ≤ level_of x) e es up))

-- the two least leaves of a heap
pub record AreLeast (old : List Row) (hs hs2 : List (Reverse (ℕ × Lit))) (a b : Lit) : Type 0 where
  pub ls1 : List Lit
  pub first : IsPermutation (map literal_in hs) (a ∷ ls1)
  pub second : IsPermutation ls1 (b ∷ map literal_in hs2)
  pub inside : All (λ k. node_of k < length old) (map literal_in hs)
  pub inside_a : node_of a < length old
  pub inside_b : node_of b < length old
  pub ordered : level_by old a ≤ level_by old b
  pub above : All (λ k. level_by old b ≤ level_by old k) (map literal_in hs2)
  pub first_a : All (ComesFirst old a) (b ∷ map literal_in hs2)
  pub first_b : All (ComesFirst old b) (map literal_in hs2)
  pub rest : AreLeaves old hs2
  pub two : length hs ≡ length hs2 + 2

pub least_two : (old : List Row) (hs hs1 hs2 : List (Reverse (ℕ × Lit))) (x y : Reverse (ℕ × Lit)) → AreLeaves old hs → IsPermutation hs (x ∷ hs1) → IsUpperBound leaf_order x hs1 → IsPermutation hs1 (y ∷ hs2) → IsUpperBound leaf_order y hs2
    → AreLeast old hs hs2 (literal_in x) (literal_in y)
least_two old hs hs1 hs2 x y leaves first least second next = record {
  ls1 = map literal_in hs1;
  first = IsPermutation-map literal_in hs (x ∷ hs1) first;
  second = IsPermutation-map literal_in hs1 (y ∷ hs2) second;
  inside = leaves_there old hs leaves;
  inside_a = fx.0;
  inside_b = fy.0;
  ordered = (let low = All-head (λ (e : Reverse (ℕ × Lit)). level_of x ≤ level_of e) y hs2 (All-permutation (λ (e : Reverse (ℕ × Lit)). level_of x ≤ level_of e) hs1 (y ∷ hs2) second (least_level x hs1 least)) in let p = fx.1 in let q = fy.1 in omega (arith, low, p, q));
  above = subst (λ k. All (λ (m : Lit). k ≤ level_by old m) (map literal_in hs2)) fy.1 (levels_there old (level_of y) hs2 all2 (least_level y hs2 next));
  first_a = comes_first old x (y ∷ hs2) fx.1 all_y (All-permutation (GoesFirst x) hs1 (y ∷ hs2) second (least_leaf x hs1 least));
  first_b = comes_first old y hs2 fy.1 all2 (least_leaf y hs2 next);
  rest = all2;
  two = (let p = length_permutation hs (x ∷ hs1) first in let q = length_permutation hs1 (y ∷ hs2) second in omega (arith, p, q));
}
  where
    P : Reverse (ℕ × Lit) → Type 0
    P e = (node_of (literal_in e) < length old) × (level_of e ≡ level_by old (literal_in e))

    all_x : All P (x ∷ hs1)
    all_x = All-permutation P hs (x ∷ hs1) first leaves

    all_y : All P (y ∷ hs2)
    all_y = All-permutation P hs1 (y ∷ hs2) second (All-tail P x hs1 all_x)

    fx : P x
    fx = All-head P x hs1 all_x

    fy : P y
    fy = All-head P y hs2 all_y

    all2 : All P hs2
    all2 = All-tail P y hs2 all_y

-- the leaves of grown rows
leaves_kept : (old new : List Row) (hs : List (Reverse (ℕ × Lit))) → Extends old new → AreLeaves old hs → AreLeaves new hs
leaves_kept old new hs e h i d lt =
    let at = h i d lt in
    let longer = extends_longer old new e in
    let inside = at.0 in
    (omega (arith, longer, inside), at.1 ∙ sym (level_kept old new e (node_of (literal_in (get_or hs i d))) inside))

pub more_leaves : (old new : List Row) (hs2 hs3 : List (Reverse (ℕ × Lit))) (z : Reverse (ℕ × Lit)) → Extends old new → AreLeaves old hs2 → IsPermutation (z ∷ hs2) hs3 → node_of (literal_in z) < length new → level_of z ≡ level_by new (literal_in z) → AreLeaves new hs3
more_leaves old new hs2 hs3 z e rest last there level =
    All-permutation (λ (x : Reverse (ℕ × Lit)). (node_of (literal_in x) < length new) × (level_of x ≡ level_by new (literal_in x))) (z ∷ hs2) hs3 last
    (All-cons (λ (x : Reverse (ℕ × Lit)). (node_of (literal_in x) < length new) × (level_of x ≡ level_by new (literal_in x))) z hs2 (there, level) (leaves_kept old new hs2 e rest))

pub least_joined : (count : ℕ) (old new : List Row) (hs hs2 hs3 : List (Reverse (ℕ × Lit))) (a b : Lit) (z : Reverse (ℕ × Lit)) → AreLeast old hs hs2 a b → IsHashed count new → IsPermutation (z ∷ hs2) hs3
    → Extends old new → length new ≤ length old + 1 → node_of (literal_in z) < length new → IsAnd old a b new (literal_in z) → IsJoin new a b (literal_in z) → IsJoining old (map literal_in hs) new (map literal_in hs3)
least_joined count old new hs hs2 hs3 a b z s hashed last e few there is join =
    two_joined count old new (map literal_in hs) s.ls1 (map literal_in hs2) (map literal_in hs3) a b (literal_in z) hashed s.first s.second (IsPermutation-map literal_in (z ∷ hs2) hs3 last) s.inside s.ordered s.above e few there is join

pub least_rule : (old new : List Row) (hs hs2 hs3 : List (Reverse (ℕ × Lit))) (a b : Lit) (z : Reverse (ℕ × Lit)) → AreLeast old hs hs2 a b → IsPermutation (z ∷ hs2) hs3 → literal_in z ≡ joined_lit old a b → new ≡ joined_rows old a b
    → JoinsLeast old (map literal_in hs) new (map literal_in hs3)
least_rule old new hs hs2 hs3 a b z s last is rows = record {
  a = a;
  b = b;
  others = map literal_in hs2;
  among = IsPermutation-trans (map literal_in hs) (a ∷ s.ls1) (a ∷ b ∷ map literal_in hs2) s.first (IsPermutation-cons a s.ls1 (b ∷ map literal_in hs2) s.second);
  first = s.first_a;
  second = s.first_b;
  made = rows;
  remain = subst (λ (l : Lit). IsPermutation (l ∷ map literal_in hs2) (map literal_in hs3)) is (IsPermutation-map literal_in (z ∷ hs2) hs3 last);
}

-- leaves with their levels
pub leaves_are : (rows : List Row) (levels : List ℕ) (ls : List Lit) → levels ≡ levels_of rows → All (λ l. node_of l < length rows) ls → AreLeaves rows (map (leaf levels) ls)
leaves_are rows levels [] e h = All-nil (λ (x : Reverse (ℕ × Lit)). (node_of (literal_in x) < length rows) × (level_of x ≡ level_by rows (literal_in x)))
leaves_are rows levels (l ∷ ls) e h =
    All-cons (λ (x : Reverse (ℕ × Lit)). (node_of (literal_in x) < length rows) × (level_of x ≡ level_by rows (literal_in x))) (leaf levels l) (map (leaf levels) ls)
    (All-head (λ (k : Lit). node_of k < length rows) l ls h, ap (λ (k : List ℕ). level_in k (node_of l)) e)
    (leaves_are rows levels ls e (All-tail (λ (k : Lit). node_of k < length rows) l ls h))

literals_back : (levels : List ℕ) (ls : List Lit) → map literal_in (map (leaf levels) ls) ≡ ls
literals_back levels [] = refl
literals_back levels (l ∷ ls) = ap (λ (k : List Lit). l ∷ k) (literals_back levels ls)

-- the leaves in another order
joining_permuted : (rows : List Row) (xs ys : List Lit) → IsPermutation xs ys → All (λ l. node_of l < length rows) xs → IsJoining rows xs rows ys
joining_permuted rows xs ys p h = record {
  grows = extends_itself rows;
  there = All-permutation (λ (l : Lit). node_of l < length rows) xs ys p h;
  value = λ given at_0. sym (all_permuted (value_by given rows) xs ys p);
  fits = λ height f. (let e = sum_by-IsPermutation (weight rows) xs ys p in omega (arith, e, f));
  few = (let e = length_permutation xs ys p in omega (arith, e));
}

pub heap_begins : (rows : List Row) (levels : List ℕ) (ls : List Lit) (hs : List (Reverse (ℕ × Lit))) → levels ≡ levels_of rows → All (λ l. node_of l < length rows) ls → IsPermutation (map (leaf levels) ls) hs
    → AreLeaves rows hs × IsJoining rows ls rows (map literal_in hs) × IsPermutation ls (map literal_in hs)
heap_begins rows levels ls hs e h p = (
  All-permutation (λ (x : Reverse (ℕ × Lit)). (node_of (literal_in x) < length rows) × (level_of x ≡ level_by rows (literal_in x))) (map (leaf levels) ls) hs p (leaves_are rows levels ls e h),
  subst (λ (k : List Lit). IsJoining rows k rows (map literal_in hs)) (literals_back levels ls)
      (joining_permuted rows (map literal_in (map (leaf levels) ls)) (map literal_in hs) (IsPermutation-map literal_in (map (leaf levels) ls) hs p) (leaves_there rows (map (leaf levels) ls) (leaves_are rows levels ls e h))),
  subst (λ (k : List Lit). IsPermutation k (map literal_in hs)) (literals_back levels ls) (IsPermutation-map literal_in (map (leaf levels) ls) hs p),
)
