-- The choice of the next leaf.
use Rattle.std.proofs.Common.{◌≡◌, ◌⊎◌, ℕ, ◌<◌, ◌≤◌, ◌&&◌, nat_eq, nat_le, nat_lt, true, false, List, [], ◌∷◌, Option, Some, None, length, refl, sym, ap, ◌∙◌, subst, inl, inr, arith}
use Rattle.std.specs.List.{list_all}
use Rattle.std.proofs.lemmas.Bool.{and_from, and_parts, both_ways, cases_Bool, false_from_ne_true, cases_lt, cond-false, cond-true, le-leb, leb-true, ltb-true, or_cases}
use Rattle.syn_rows.specs.declared.Row.{Row}
use Rattle.syn_rows.specs.Reach.{is_and}
use Rattle.syn_rows.specs.Rows.{row_at}
use Rattle.syn_rows.specs.Nodes.{has_node}
use Rattle.syn_cones.specs.Walk.{rises}
use Rattle.syn_rows.proofs.Nodes.{has_here, has_there, same_node}
use Rattle.syn_growing.specs.Growing.{ConeNodes, chosen_from, count_with, inner_with, may_be_replaced, next_leaf}
use Rattle.syn_growing.specs.Laws.{ChoosesNextLeaf, IsNextLeaf, NoneMayBe}
use Rattle.syn_growing.proofs.Sorted.{all_in}

-- what it says of a leaf that it may be replaced
pub record MayBe (rows : List Row) (cone : ConeNodes) (most leaf : ℕ) : Type 0 where
  pub gate : is_and (row_at rows leaf) ≡ true
  pub few : count_with rows cone.leaves leaf ≤ most
  pub room : nat_le (length (inner_with rows cone.inner leaf)) 48 ≡ true

pub may_be : (rows : List Row) (cone : ConeNodes) (most leaf : ℕ) → may_be_replaced rows cone most leaf ≡ true → MayBe rows cone most leaf
may_be rows cone most leaf h =
    let few = nat_le (count_with rows cone.leaves leaf) most in
    let room = nat_le (length (inner_with rows cone.inner leaf)) 48 in
    let parts = and_parts (is_and (row_at rows leaf)) (few && room) h in
    let counts = and_parts few room parts.1 in
    record { gate = parts.0; few = leb-true (count_with rows cone.leaves leaf) most counts.0; room = counts.1 }

pub may_from : (rows : List Row) (cone : ConeNodes) (most leaf : ℕ) → MayBe rows cone most leaf → may_be_replaced rows cone most leaf ≡ true
may_from rows cone most leaf is =
    let few = nat_le (count_with rows cone.leaves leaf) most in
    let room = nat_le (length (inner_with rows cone.inner leaf)) 48 in
    and_from (is_and (row_at rows leaf)) (few && room) is.gate (and_from few room (le-leb (count_with rows cone.leaves leaf) most is.few) is.room)

-- it may not be where too many leaves or inner nodes result
pub too_many : (rows : List Row) (cone : ConeNodes) (most leaf : ℕ) → most < count_with rows cone.leaves leaf → may_be_replaced rows cone most leaf ≡ false
too_many rows cone most leaf more = false_from_ne_true (may_be_replaced rows cone most leaf) (λ h. let few = (may_be rows cone most leaf h).few in omega (arith, few, more))

pub no_room : (rows : List Row) (cone : ConeNodes) (most leaf : ℕ) → nat_le (length (inner_with rows cone.inner leaf)) 48 ≡ false → may_be_replaced rows cone most leaf ≡ false
no_room rows cone most leaf full = false_from_ne_true (may_be_replaced rows cone most leaf) (λ h. both_ways (nat_le (length (inner_with rows cone.inner leaf)) 48) full (may_be rows cone most leaf h).room)

-- it may be where more leaves are let through
wider : (rows : List Row) (cone : ConeNodes) (few most leaf : ℕ) → few ≤ most → may_be_replaced rows cone few leaf ≡ true → may_be_replaced rows cone most leaf ≡ true
wider rows cone few most leaf le h =
    let is = may_be rows cone few leaf h in
    may_from rows cone most leaf (record { gate = is.gate; few = (let f = is.few in omega arith); room = is.room })

-- one that may be where more are let through gives more than the fewer
gives_more : (rows : List Row) (cone : ConeNodes) (few most leaf : ℕ) → may_be_replaced rows cone few leaf ≡ false → may_be_replaced rows cone most leaf ≡ true → few < count_with rows cone.leaves leaf
gives_more rows cone few most leaf fails h = elim (cases_lt few (count_with rows cone.leaves leaf)) [
  | inl lt ↦ lt
  | inr ge ↦
      let is = may_be rows cone most leaf h in
      absurd (both_ways (may_be_replaced rows cone few leaf) fails (may_from rows cone few leaf (record { gate = is.gate; few = ge; room = is.room })))
]

-- one leaf less to look at

pub chosen_more : (rows : List Row) (cone : ConeNodes) (chosen : Option ℕ) (most leaf : ℕ) (rest : List ℕ) → may_be_replaced rows cone most leaf ≡ true
    → chosen_from rows cone chosen most (leaf ∷ rest) ≡ chosen_from rows cone (Some leaf) (count_with rows cone.leaves leaf) rest
chosen_more rows cone chosen most leaf rest h = cond-true (may_be_replaced rows cone most leaf) _ _ h

pub chosen_past : (rows : List Row) (cone : ConeNodes) (chosen : Option ℕ) (most leaf : ℕ) (rest : List ℕ) → may_be_replaced rows cone most leaf ≡ false
    → chosen_from rows cone chosen most (leaf ∷ rest) ≡ chosen_from rows cone chosen most rest
chosen_past rows cone chosen most leaf rest h = cond-false (may_be_replaced rows cone most leaf) _ _ h

-- the leaf gives fewer leaves than the other, or as many and is not smaller
abbrev IsBetter : List Row → ConeNodes → ℕ → ℕ → Type 0
IsBetter rows cone leaf other = (count_with rows cone.leaves leaf < count_with rows cone.leaves other) ⊎ ((count_with rows cone.leaves leaf ≡ count_with rows cone.leaves other) × (other ≤ leaf))

-- the leaf is a best one of those that are left to look at
record IsChosen (rows : List Row) (cone : ConeNodes) (most : ℕ) (rest : List ℕ) (leaf : ℕ) : Type 0 where
  there : has_node rest leaf ≡ true
  may : may_be_replaced rows cone most leaf ≡ true
  best : (other : ℕ) → has_node rest other ≡ true → may_be_replaced rows cone most other ≡ true → IsBetter rows cone leaf other

-- none that is left may be
abbrev NoneLeft : List Row → ConeNodes → ℕ → List ℕ → Type 0
NoneLeft rows cone most rest = (other : ℕ) → has_node rest other ≡ true → may_be_replaced rows cone most other ≡ false

-- one that may not be, and behind it none
none_more : (rows : List Row) (cone : ConeNodes) (most n : ℕ) (ns : List ℕ) → may_be_replaced rows cone most n ≡ false → NoneLeft rows cone most ns → NoneLeft rows cone most (n ∷ ns)
none_more rows cone most n ns fails none other h = elim (or_cases (nat_eq n other) (has_node ns other) h) [
  | inl e ↦ subst (λ k. may_be_replaced rows cone most k ≡ false) (same_node n other e) fails
  | inr t ↦ none other t
]

some_one : (m n : ℕ) → Some m ≡ Some n → m ≡ n
some_one m n e = cc

some_none : (n : ℕ) → Some n ≡ None → ⊥
some_none n e = cc

-- the leaf was chosen before and none that is left may be, or it is a best one of them
chosen_is : (rows : List Row) (cone : ConeNodes) (leaf : ℕ) (rest : List ℕ) (chosen : Option ℕ) (most : ℕ) → rises rest ≡ true → chosen_from rows cone chosen most rest ≡ Some leaf
    → ((chosen ≡ Some leaf) × NoneLeft rows cone most rest) ⊎ IsChosen rows cone most rest leaf
chosen_is rows cone leaf [] chosen most rise is = inl (is, λ other h. absurd (both_ways false refl h))
chosen_is rows cone leaf (n ∷ ns) chosen most rise is = elim (cases_Bool (may_be_replaced rows cone most n)) [
  | inl may ↦
      elim (chosen_is rows cone leaf ns (Some n) (count_with rows cone.leaves n) parts.1 (sym (chosen_more rows cone chosen most n ns may) ∙ is)) [
        | inl (before, none) ↦ inr (first may (some_one n leaf before) none)
        | inr later ↦ inr (after may later)
      ]
  | inr fails ↦
      elim (chosen_is rows cone leaf ns chosen most parts.1 (sym (chosen_past rows cone chosen most n ns fails) ∙ is)) [
        | inl (before, none) ↦ inl (before, none_more rows cone most n ns fails none)
        | inr later ↦ inr (record {
          there = has_there n leaf ns later.there;
          may = later.may;
          best = λ other h may. elim (or_cases (nat_eq n other) (has_node ns other) h) [
            | inl e ↦ absurd (both_ways (may_be_replaced rows cone most n) fails (subst (λ k. may_be_replaced rows cone most k ≡ true) (sym (same_node n other e)) may))
            | inr t ↦ later.best other t may
          ];
        })
      ]
]
  where
    parts : (list_all (nat_lt n) ns ≡ true) × (rises ns ≡ true)
    parts = and_parts (list_all (nat_lt n) ns) (rises ns) rise

    first : may_be_replaced rows cone most n ≡ true → n ≡ leaf → NoneLeft rows cone (count_with rows cone.leaves n) ns → IsChosen rows cone most (n ∷ ns) leaf
    first may same none = subst (IsChosen rows cone most (n ∷ ns)) same (record {
      there = has_here n ns;
      may = may;
      best = λ other h other_may. elim (or_cases (nat_eq n other) (has_node ns other) h) [
        | inl e ↦ inr (ap (count_with rows cone.leaves) (same_node n other e), let is_same = same_node n other e in omega arith)
        | inr t ↦ inl (gives_more rows cone (count_with rows cone.leaves n) most other (none other t) other_may)
      ];
    })

    after : may_be_replaced rows cone most n ≡ true → IsChosen rows cone (count_with rows cone.leaves n) ns leaf → IsChosen rows cone most (n ∷ ns) leaf
    after may later = record {
      there = has_there n leaf ns later.there;
      may = wider rows cone (count_with rows cone.leaves n) most leaf (may_be rows cone most n may).few later.may;
      best = λ other h other_may. elim (or_cases (nat_eq n other) (has_node ns other) h) [
        | inl e ↦ subst (IsBetter rows cone leaf) (same_node n other e) (not_worse (count_with rows cone.leaves leaf) (count_with rows cone.leaves n) leaf_few above)
        | inr t ↦ elim (cases_Bool (may_be_replaced rows cone (count_with rows cone.leaves n) other)) [
          | inl small ↦ later.best other t small
          | inr large ↦ inl (let more = gives_more rows cone (count_with rows cone.leaves n) most other large other_may in omega (arith, more, leaf_few))
        ]
      ];
    }
      where
        leaf_few : count_with rows cone.leaves leaf ≤ count_with rows cone.leaves n
        leaf_few = (may_be rows cone (count_with rows cone.leaves n) leaf later.may).few

        above : n ≤ leaf
        above = let less = ltb-true n leaf (all_in (nat_lt n) ns leaf parts.0 later.there) in omega arith

        not_worse : (x y : ℕ) → x ≤ y → n ≤ leaf → (x < y) ⊎ ((x ≡ y) × (n ≤ leaf))
        not_worse x y le low = elim (cases_lt x y) [ inl lt ↦ inl lt | inr ge ↦ inr (omega arith, low) ]

-- where none is chosen, none was before, and none that is left may be
chosen_none : (rows : List Row) (cone : ConeNodes) (rest : List ℕ) (chosen : Option ℕ) (most : ℕ) → chosen_from rows cone chosen most rest ≡ None → (chosen ≡ None) × NoneLeft rows cone most rest
chosen_none rows cone [] chosen most is = (is, λ other h. absurd (both_ways false refl h))
chosen_none rows cone (n ∷ ns) chosen most is = elim (cases_Bool (may_be_replaced rows cone most n)) [
  | inl may ↦ absurd (some_none n (chosen_none rows cone ns (Some n) (count_with rows cone.leaves n) (sym (chosen_more rows cone chosen most n ns may) ∙ is)).0)
  | inr fails ↦
      let rest = chosen_none rows cone ns chosen most (sym (chosen_past rows cone chosen most n ns fails) ∙ is) in
      (rest.0, none_more rows cone most n ns fails rest.1)
]

pub chooses_next_leaf : ChoosesNextLeaf
chooses_next_leaf rows cone leaf rise is = elim (chosen_is rows cone leaf cone.leaves None 8 rise is) [
  | inl (none, more) ↦ absurd (some_none leaf (sym none))
  | inr chosen ↦ record { there = chosen.there; may = chosen.may; best = chosen.best }
]

pub none_may_be : (rows : List Row) (cone : ConeNodes) → next_leaf rows cone ≡ None → NoneMayBe rows cone
none_may_be rows cone is = (chosen_none rows cone cone.leaves None 8 is).1

pub next_may : (rows : List Row) (cone : ConeNodes) (leaf : ℕ) → IsNextLeaf rows cone leaf → MayBe rows cone 8 leaf
next_may rows cone leaf next = may_be rows cone 8 leaf next.may
