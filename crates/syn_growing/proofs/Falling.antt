-- The number that falls where a leaf is replaced, so that growing ends.
use Rattle.std.proofs.Common.{◌≡◌, ◌≢◌, ℕ, zero, suc, ◌+◌, ◌*◌, ◌^◌, ◌<◌, ◌≤◌, ◌==◌, nat_eq, nat_lt, not, if◌then◌else◌, Bool, true, false, List, [], ◌∷◌, filter, Option, Some, None, refl, sym, ap, ◌∙◌, inl, inr, arith}
use Rattle.std.proofs.lemmas.Bool.{both_ways, cases_Bool, cases_lt, cond-false, cond-true, eqb-true, or_cases}
use Rattle.std.specs.List.{sum_by}
use Rattle.std.proofs.lemmas.List.Filters.{sum_by-filter_both}
use Rattle.std.proofs.lemmas.List.Sums.{sum_by-cons}
use Rattle.std.proofs.lemmas.Nat.{pow_below, pow_pos}
use Rattle.std.proofs.lemmas.Grind.{pow_more}
use Rattle.std.proofs.Math.Nat.{pow-le-pow_right}
use Rattle.syn_rows.specs.declared.Row.{Row}
use Rattle.syn_rows.specs.Reach.{is_and}
use Rattle.syn_rows.specs.Rows.{node_of, refs_of, row_at}
use Rattle.syn_rows.specs.Nodes.{has_node}
use Rattle.syn_cones.specs.Walk.{put_node, put_nodes, rises}
use Rattle.syn_cones.proofs.Walking.{rises_puts}
use Rattle.syn_growing.specs.Cones.{HaveFanIns}
use Rattle.syn_growing.specs.Growing.{ConeNodes, chosen_from, grown, next_leaf, or_stay, replaced, with_fan_ins, without_node}
use Rattle.syn_growing.proofs.Choosing.{chooses_next_leaf, next_may}
use Rattle.syn_growing.proofs.Grown.{grown_on, grown_stays}
use Rattle.syn_growing.proofs.Replacing.{and_of}
use Rattle.syn_growing.proofs.Sorted.{rises-without}

-- 2 ^ leaf, summed over the leaves
abbrev pub weight : List ℕ → ℕ
weight leaves = sum_by (λ n. 2 ^ n) leaves

weight-cons : (n : ℕ) (ns : List ℕ) → weight (n ∷ ns) ≡ 2 ^ n + weight ns
weight-cons n ns = sum_by-cons (λ m. 2 ^ m) n ns

weight-put : (n : ℕ) (ns : List ℕ) → weight (put_node n ns) ≤ 2 ^ n + weight ns
weight-put n [] = omega arith
weight-put n (m ∷ ms) = by (nat_lt n m) (n == m) (weight-put n ms)
  where
    by : (a b : Bool) → weight (put_node n ms) ≤ 2 ^ n + weight ms → weight (if a then n ∷ m ∷ ms else if b then m ∷ ms else m ∷ put_node n ms) ≤ 2 ^ n + weight (m ∷ ms)
    by true b le = let whole = weight-cons n (m ∷ ms) in omega (arith, whole)
    by false true le = omega arith
    by false false le = let before = weight-cons m ms in let after = weight-cons m (put_node n ms) in omega (arith, before, after, le)

weight-filter : (p : ℕ → Bool) (ns : List ℕ) → weight (filter p ns) ≤ weight ns
weight-filter p ns = let both = sum_by-filter_both p (λ n. not (p n)) (λ n. refl) (λ n. 2 ^ n) ns in omega (arith, both)

weight-without : (leaf : ℕ) (ns : List ℕ) → has_node ns leaf ≡ true → 2 ^ leaf + weight (without_node leaf ns) ≤ weight ns
weight-without leaf [] h = absurd (both_ways false refl h)
weight-without leaf (m ∷ ms) h = elim (cases_Bool (m == leaf)) [
  | inl same ↦
      let is : weight (without_node leaf (m ∷ ms)) ≡ weight (without_node leaf ms) = ap weight (cond-false (not (m == leaf)) (m ∷ without_node leaf ms) (without_node leaf ms) (ap not same)) in
      let less = weight-filter (λ n. not (n == leaf)) ms in
      let power : 2 ^ m ≡ 2 ^ leaf = ap (λ k. 2 ^ k) (eqb-true m leaf same) in
      let whole = weight-cons m ms in
      omega (arith, is, less, power, whole)
  | inr other ↦
      let is : weight (without_node leaf (m ∷ ms)) ≡ 2 ^ m + weight (without_node leaf ms) = ap weight (cond-true (not (m == leaf)) (m ∷ without_node leaf ms) (without_node leaf ms) (ap not other)) ∙ weight-cons m (without_node leaf ms) in
      let there : has_node ms leaf ≡ true = elim (or_cases (nat_eq m leaf) (has_node ms leaf) h) [ inl e ↦ absurd (both_ways (m == leaf) other e) | inr t ↦ t ] in
      let rest = weight-without leaf ms there in
      let whole = weight-cons m ms in
      omega (arith, is, rest, whole)
]

-- two different powers below a third
two_powers : (a b n : ℕ) → a ≢ b → a < n → b < n → 2 ^ a + 2 ^ b < 2 ^ n
two_powers a b n differ low high = elim (cases_lt a b) [
  | inl less ↦ rising a b less high
  | inr ge ↦ elim (cases_lt b a) [
    | inl less ↦ let sum : 2 ^ b + 2 ^ a < 2 ^ n = rising b a less low in omega arith
    | inr le ↦ absurd (let same : a ≡ b = omega arith in differ same)
  ]
]
  where
    rising : (x y : ℕ) → x < y → y < n → 2 ^ x + 2 ^ y < 2 ^ n
    rising x y less below =
        let smaller = pow_below x y less in
        let double : 2 ^ (y + 1) ≡ 2 ^ y * 2 = pow_more 2 y in
        let top : 2 ^ (y + 1) ≤ 2 ^ n = pow-le-pow_right {n = 2} (omega arith) (omega arith) in
        omega (arith, smaller, double, top)

-- the fan-ins of an AND weigh less than it does, put among others
fan_ins_weigh : (rows : List Row) (node : ℕ) (others : List ℕ) → HaveFanIns rows → is_and (row_at rows node) ≡ true → weight (put_nodes (refs_of (row_at rows node)) others) < 2 ^ node + weight others
fan_ins_weigh rows node others have gate =
    let (a, b, is) = and_of (row_at rows node) gate in
    let fan = have node a b is in
    let x = node_of a in
    let y = node_of b in
    let same : weight (put_nodes (refs_of (row_at rows node)) others) ≡ weight (put_node y (put_node x others)) = ap (λ row. weight (put_nodes (refs_of row) others)) is in
    let powers = two_powers x y node fan.differ fan.first fan.second in
    let first = weight-put x others in
    let second = weight-put y (put_node x others) in
    omega (arith, same, powers, first, second)

pub weight_falls : (rows : List Row) (leaves : List ℕ) (leaf : ℕ) → HaveFanIns rows → has_node leaves leaf ≡ true → is_and (row_at rows leaf) ≡ true → weight (with_fan_ins rows leaves leaf) < weight leaves
weight_falls rows leaves leaf have there gate =
    let put = fan_ins_weigh rows leaf (without_node leaf leaves) have gate in
    let rest = weight-without leaf leaves there in
    omega (arith, put, rest)

pub begins_below : (rows : List Row) (node : ℕ) → HaveFanIns rows → is_and (row_at rows node) ≡ true → weight (put_nodes (refs_of (row_at rows node)) []) ≤ 2 ^ node
begins_below rows node have gate = let put = fan_ins_weigh rows node [] have gate in omega (arith, put)

no_weight : (ns : List ℕ) → weight ns ≤ 0 → ns ≡ []
no_weight [] le = refl
no_weight (n ∷ ns) le = absurd (let some = pow_pos n in let whole = weight-cons n ns in omega (arith, some, whole, le))

-- so many steps are enough
pub grown_ends : (rows : List Row) → HaveFanIns rows → (steps : ℕ) (cone : ConeNodes) → rises cone.leaves ≡ true → weight cone.leaves ≤ steps → next_leaf rows (grown steps rows cone) ≡ None
unfolding grown
grown_ends rows have zero cone rise le = ap (chosen_from rows cone None 8) (no_weight cone.leaves le)
grown_ends rows have (suc more) cone rise le = by (grown_ends rows have more) (next_leaf rows cone) refl
  where
    by : ((c : ConeNodes) → rises c.leaves ≡ true → weight c.leaves ≤ more → next_leaf rows (grown more rows c) ≡ None) → (next : Option ℕ) → next_leaf rows cone ≡ next
        → next_leaf rows (or_stay cone (λ l. grown more rows (replaced rows cone l)) next) ≡ None
    by ih None e = e
    by ih (Some leaf) e =
        let next = chooses_next_leaf rows cone leaf rise e in
        let falls = weight_falls rows cone.leaves leaf have next.there (next_may rows cone leaf next).gate in
        ih (replaced rows cone leaf) (rises_puts (refs_of (row_at rows leaf)) (without_node leaf cone.leaves) (rises-without leaf cone.leaves rise)) (omega (arith, falls, le))

-- The cone grows to the whole in so many steps that they are enough to end.
abbrev pub GrowsTo : List Row → ConeNodes → ConeNodes → Type 0
GrowsTo rows cone whole = (steps : ℕ) × (weight cone.leaves ≤ steps) × (grown steps rows cone ≡ whole)

pub grows_on : (rows : List Row) (cone whole : ConeNodes) (leaf : ℕ) → weight (replaced rows cone leaf).leaves < weight cone.leaves → next_leaf rows cone ≡ Some leaf → GrowsTo rows cone whole → GrowsTo rows (replaced rows cone leaf) whole
grows_on rows cone whole leaf falls is (zero, enough, same) = absurd (omega (arith, falls, enough))
grows_on rows cone whole leaf falls is (suc more, enough, same) = (more, omega (arith, falls, enough), sym (grown_on rows cone more leaf is) ∙ same)

pub grows_no_more : (rows : List Row) (cone whole : ConeNodes) → next_leaf rows cone ≡ None → GrowsTo rows cone whole → cone ≡ whole
grows_no_more rows cone whole is (steps, enough, same) = sym (grown_stays rows cone steps is) ∙ same
