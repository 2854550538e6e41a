-- The inner nodes of a cone: how many there are where a leaf is replaced, and that none is counted twice.
use Rattle.std.proofs.Common.{◌≡◌, ◌≢◌, ℕ, ◌+◌, ◌⊎◌, ◌<◌, ◌≤◌, ◌^◌, ◌==◌, ◌&&◌, nat_eq, nat_le, not, if◌then◌else◌, Bool, true, false, List, [], ◌∷◌, ◌++◌, length, filter, length-append, Some, refl, sym, ap, ◌∙◌, subst, inl, inr, arith}
use Rattle.std.proofs.lemmas.Bool.{and_from, and_parts, both_ways, cases_Bool, false_from_ne_true, le-leb, leb-true, not-true, not_from_false, or_cases}
use Rattle.std.proofs.lemmas.Bool.Decides.{nat_tests}
use Rattle.std.proofs.lemmas.List.Filters.{length-filter_both}
use Rattle.syn_rows.specs.declared.Row.{Row}
use Rattle.syn_rows.specs.Reach.{is_and}
use Rattle.syn_rows.specs.Rows.{node_of, refs_of, row_at}
use Rattle.syn_rows.specs.Nodes.{has_node}
use Rattle.syn_rows.proofs.Nodes.{has_cases, has_here, has_one, has_there, same_node}
use Rattle.syn_lists.specs.Numbers.{distinct_numbers, without_numbers}
use Rattle.syn_lists.proofs.Once.{once_more}
use Rattle.syn_cones.specs.Walk.{put_nodes, rises}
use Rattle.syn_cones.proofs.Walking.{puts_has, rises_puts}
use Rattle.syn_growing.specs.Cones.{HaveFanIns}
use Rattle.syn_growing.specs.Growing.{ConeNodes, inner_with, next_leaf, over_fan_ins, replaced, without_node}
use Rattle.syn_growing.specs.Laws.{AreInner, CountsInnerNodes}
use Rattle.syn_growing.proofs.Choosing.{MayBe, chooses_next_leaf, next_may}
use Rattle.syn_growing.proofs.Grown.{grown_keeps}
use Rattle.syn_growing.proofs.Replacing.{and_of}
use Rattle.syn_growing.proofs.Sorted.{has-filter, rises-without, same_has, without_has}

-- what a filter keeps

length-filter_most : (p : ℕ → Bool) (ns : List ℕ) → length (filter p ns) ≤ length ns
length-filter_most p ns = let both = length-filter_both p (λ n. not (p n)) (λ n. refl) ns in omega (arith, both)

-- one that is there and doesn't pass makes it shorter
length-filter_fewer : (p : ℕ → Bool) (ns : List ℕ) (n : ℕ) → has_node ns n ≡ true → p n ≡ false → length (filter p ns) < length ns
length-filter_fewer p [] n h fails = absurd (both_ways false refl h)
length-filter_fewer p (m ∷ ms) n h fails = elim (or_cases (nat_eq m n) (has_node ms n) h) [
  | inl e ↦ here (p m) (ap p (same_node m n e) ∙ fails) (length-filter_most p ms)
  | inr t ↦ later (p m) (length-filter_fewer p ms n t fails)
]
  where
    here : (b : Bool) → b ≡ false → length (filter p ms) ≤ length ms → length (if b then m ∷ filter p ms else filter p ms) < length (m ∷ ms)
    here true fails_here le = absurd (both_ways true fails_here refl)
    here false fails_here le = omega arith

    later : (b : Bool) → length (filter p ms) < length ms → length (if b then m ∷ filter p ms else filter p ms) < length (m ∷ ms)
    later true less = omega arith
    later false less = omega arith

-- where all pass, it is the list
filter-all : (p : ℕ → Bool) (ns : List ℕ) → ((n : ℕ) → has_node ns n ≡ true → p n ≡ true) → filter p ns ≡ ns
filter-all p [] h = refl
filter-all p (m ∷ ms) h = by (p m) (h m (has_here m ms)) (filter-all p ms (λ n t. h n (has_there m n ms t)))
  where
    by : (b : Bool) → b ≡ true → filter p ms ≡ ms → (if b then m ∷ filter p ms else filter p ms) ≡ m ∷ ms
    by true passes rest = ap (λ l. m ∷ l) rest
    by false passes rest = absurd (both_ways false refl passes)

distinct-filter : (p : ℕ → Bool) (ns : List ℕ) → distinct_numbers ns ≡ true → distinct_numbers (filter p ns) ≡ true
distinct-filter p [] h = refl
distinct-filter p (m ∷ ms) h = let parts = and_parts (not (has_node ms m)) (distinct_numbers ms) h in by (p m) parts.0 (distinct-filter p ms parts.1)
  where
    by : (b : Bool) → not (has_node ms m) ≡ true → distinct_numbers (filter p ms) ≡ true → distinct_numbers (if b then m ∷ filter p ms else filter p ms) ≡ true
    by true away rest = and_from (not (has_node (filter p ms) m)) (distinct_numbers (filter p ms))
        (not_from_false (has_node (filter p ms) m) (false_from_ne_true (has_node (filter p ms) m) (λ t. both_ways (has_node ms m) (not-true (has_node ms m) away) (and_parts (p m) (has_node ms m) (sym (has-filter p ms m) ∙ t)).1))) rest
    by false away rest = rest

-- the inner nodes without two, and a leaf
pub room_with : (inner : List ℕ) (leaf a b : ℕ) → length (without_numbers (a ∷ b ∷ []) inner ++ leaf ∷ []) ≡ 1 + length (without_numbers (a ∷ b ∷ []) inner)
room_with inner leaf a b = let both = length-append (without_numbers (a ∷ b ∷ []) inner) (leaf ∷ []) in omega (arith, both)

module _ (inner : List ℕ) (leaf a b : ℕ) where
  abbrev keeps : ℕ → Bool
  keeps n = not (has_node (a ∷ b ∷ []) n)

  fits : length (filter keeps inner) < 48 → nat_le (length (without_numbers (a ∷ b ∷ []) inner ++ leaf ∷ [])) 48 ≡ true
  fits less = let longer = room_with inner leaf a b in le-leb (length (without_numbers (a ∷ b ∷ []) inner ++ leaf ∷ [])) 48 (omega (arith, longer, less))

  -- there is room for a leaf among fewer than 48
  pub room_below : length inner < 48 → nat_le (length (without_numbers (a ∷ b ∷ []) inner ++ leaf ∷ [])) 48 ≡ true
  room_below less = fits (let le = length-filter_most keeps inner in omega (arith, le, less))

  -- and where a fan-in is among them
  pub room_by_first : length inner ≤ 48 → has_node inner a ≡ true → nat_le (length (without_numbers (a ∷ b ∷ []) inner ++ leaf ∷ [])) 48 ≡ true
  room_by_first most there = fits (let fewer = length-filter_fewer keeps inner a there (ap not (has_here a (b ∷ []))) in omega (arith, fewer, most))

  -- among 48 without the one only where the other is there
  pub room_by_second : length inner ≤ 48 → 48 ≤ length inner → has_node inner a ≡ false → has_node inner b ≡ nat_le (length (without_numbers (a ∷ b ∷ []) inner ++ leaf ∷ [])) 48
  room_by_second most full no_a = same_has (has_node inner b) (nat_le (length (without_numbers (a ∷ b ∷ []) inner ++ leaf ∷ [])) 48)
      (λ there. fits (let fewer = length-filter_fewer keeps inner b there (ap not (has_there a b (b ∷ []) (has_here b []))) in omega (arith, fewer, most)))
      (λ h. elim (cases_Bool (has_node inner b)) [
        | inl there ↦ there
        | inr no_b ↦ absurd (
            let few = leb-true (length (without_numbers (a ∷ b ∷ []) inner ++ leaf ∷ [])) 48 h in
            let longer = room_with inner leaf a b in
            let all : length (filter keeps inner) ≡ length inner = ap length (filter-all keeps inner (kept no_b)) in
            omega (arith, few, longer, all, full))
      ])
    where
      kept : has_node inner b ≡ false → (n : ℕ) → has_node inner n ≡ true → keeps n ≡ true
      kept no_b n h = not_from_false (has_node (a ∷ b ∷ []) n) (false_from_ne_true (has_node (a ∷ b ∷ []) n) (λ t. elim (or_cases (nat_eq a n) (has_node (b ∷ []) n) t) [
        | inl e ↦ both_ways (has_node inner a) no_a (subst (λ k. has_node inner k ≡ true) (sym (same_node a n e)) h)
        | inr o ↦ both_ways (has_node inner b) no_b (subst (λ k. has_node inner k ≡ true) (sym (has_one b n o)) h)
      ]))

-- a node that is neither of two
pub is_neither : (a b n : ℕ) → (not (n == a) && not (n == b)) ≡ not (has_node (a ∷ b ∷ []) n)
is_neither a b n = grind (arith, nat_tests)

-- a node that is kept isn't among the others
kept_has : (others ns : List ℕ) (n : ℕ) → has_node (without_numbers others ns) n ≡ true → (has_node others n ≡ false) × (has_node ns n ≡ true)
kept_has others ns n h =
    let parts = and_parts (not (has_node others n)) (has_node ns n) (sym (has-filter (λ m. not (has_node others m)) ns n) ∙ h) in
    (not-true (has_node others n) parts.0, parts.1)

-- the inner nodes where a leaf is replaced

after_has : (rows : List Row) (inner : List ℕ) (leaf n : ℕ) → has_node (inner_with rows inner leaf) n ≡ true → ((has_node inner n ≡ true) × (has_node (refs_of (row_at rows leaf)) n ≡ false)) ⊎ (leaf ≡ n)
after_has rows inner leaf n h = elim (has_cases (without_numbers (refs_of (row_at rows leaf)) inner) (leaf ∷ []) n h) [
  | inl before ↦
      let kept = kept_has (refs_of (row_at rows leaf)) inner n before in
      inl (kept.1, kept.0)
  | inr last ↦ inr (has_one leaf n last)
]

-- a node of the leaves afterwards is a fan-in, or was a leaf and isn't the one that is replaced
leaves_have : (rows : List Row) (leaves : List ℕ) (leaf n : ℕ) → has_node (put_nodes (refs_of (row_at rows leaf)) (without_node leaf leaves)) n ≡ true
    → (has_node (refs_of (row_at rows leaf)) n ≡ true) ⊎ ((has_node leaves n ≡ true) × (n ≢ leaf))
leaves_have rows leaves leaf n h = elim (puts_has (refs_of (row_at rows leaf)) n (without_node leaf leaves) h) [
  | inl fan ↦ inl fan
  | inr rest ↦ inr (without_has leaf leaves n rest)
]

-- an AND isn't its own fan-in
not_own : (rows : List Row) (leaf : ℕ) → HaveFanIns rows → is_and (row_at rows leaf) ≡ true → has_node (refs_of (row_at rows leaf)) leaf ≡ true → ⊥
not_own rows leaf have gate h =
    let (a, b, is) = and_of (row_at rows leaf) gate in
    let fan = have leaf a b is in
    elim (or_cases (nat_eq (node_of a) leaf) (has_node (node_of b ∷ []) leaf) (ap (λ row. has_node (refs_of row) leaf) (sym is) ∙ h)) [
      | inl e ↦ let same = same_node (node_of a) leaf e in let less = fan.first in omega (arith, same, less)
      | inr o ↦ let same = has_one (node_of b) leaf o in let less = fan.second in omega (arith, same, less)
    ]

replaced_inner : (rows : List Row) (cone : ConeNodes) (leaf : ℕ) → HaveFanIns rows → AreInner cone → has_node cone.leaves leaf ≡ true → MayBe rows cone 8 leaf → AreInner (replaced rows cone leaf)
replaced_inner rows cone leaf have inner there may = record {
  few = leb-true (length (inner_with rows cone.inner leaf)) 48 may.room;
  once = once_more (without_numbers refs cone.inner) leaf (distinct-filter (λ m. not (has_node refs m)) cone.inner inner.once)
      (false_from_ne_true (has_node (without_numbers refs cone.inner) leaf) (λ h. both_ways (has_node cone.leaves leaf) (inner.apart leaf (kept_has refs cone.inner leaf h).1) there));
  apart = λ n h. false_from_ne_true (has_node (put_nodes refs (without_node leaf cone.leaves)) n) (λ l. clash n (after_has rows cone.inner leaf n h) (leaves_have rows cone.leaves leaf n l));
}
  where
    refs : List ℕ
    refs = refs_of (row_at rows leaf)

    clash : (n : ℕ) → ((has_node cone.inner n ≡ true) × (has_node refs n ≡ false)) ⊎ (leaf ≡ n) → (has_node refs n ≡ true) ⊎ ((has_node cone.leaves n ≡ true) × (n ≢ leaf)) → ⊥
    clash n (inl was) (inl fan) = both_ways (has_node refs n) was.1 fan
    clash n (inl was) (inr old) = both_ways (has_node cone.leaves n) (inner.apart n was.0) old.0
    clash n (inr same) (inl fan) = not_own rows leaf have may.gate (subst (λ k. has_node refs k ≡ true) (sym same) fan)
    clash n (inr same) (inr old) = old.1 (sym same)

begins_inner : (rows : List Row) (node : ℕ) → HaveFanIns rows → is_and (row_at rows node) ≡ true → AreInner (over_fan_ins rows node)
begins_inner rows node have gate = record {
  few = omega arith;
  once = refl;
  apart = λ n h. false_from_ne_true (has_node (put_nodes (refs_of (row_at rows node)) []) n) (λ l. elim (puts_has (refs_of (row_at rows node)) n [] l) [
    | inl fan ↦ not_own rows node have gate (subst (λ k. has_node (refs_of (row_at rows node)) k ≡ true) (sym (has_one node n h)) fan)
    | inr none ↦ both_ways false refl none
  ]);
}

pub counts_inner_nodes : CountsInnerNodes
counts_inner_nodes rows node have gate = (grown_keeps (λ cone. (rises cone.leaves ≡ true) × AreInner cone) rows goes_on (2 ^ node) (over_fan_ins rows node) (rises_puts (refs_of (row_at rows node)) [] refl, begins_inner rows node have gate)).1
  where
    goes_on : (cone : ConeNodes) (leaf : ℕ) → (rises cone.leaves ≡ true) × AreInner cone → next_leaf rows cone ≡ Some leaf → (rises (replaced rows cone leaf).leaves ≡ true) × AreInner (replaced rows cone leaf)
    goes_on cone leaf h is =
        let next = chooses_next_leaf rows cone leaf h.0 is in (
          rises_puts (refs_of (row_at rows leaf)) (without_node leaf cone.leaves) (rises-without leaf cone.leaves h.0),
          replaced_inner rows cone leaf have h.1 next.there (next_may rows cone leaf next),
        )
