-- A leaf replaced by its fan-ins.
use Rattle.std.proofs.Common.{◌≡◌, ◌≢◌, ℕ, ◌+◌, ◌-◌, ◌<◌, ◌≤◌, nat_eq, if◌then◌else◌, Bool, true, false, List, [], ◌∷◌, length, refl, sym, ap, ◌∙◌, subst, inl, inr, arith}
use Rattle.std.specs.List.{list_any}
use Rattle.std.proofs.lemmas.Bool.{both_ways, or_cases, or_left, or_right}
use Rattle.syn_rows.specs.declared.Lit.{Lit}
use Rattle.syn_rows.specs.declared.Row.{Row}
use Rattle.syn_rows.specs.declared.Row.TheVariants.{Free, Source, And, Alias}
use Rattle.syn_rows.specs.Reach.{is_and}
use Rattle.syn_rows.specs.Rows.{node_of, refs_of, row_at}
use Rattle.syn_rows.specs.Nodes.{has_node}
use Rattle.syn_cones.specs.Cones.{IsCut}
use Rattle.syn_cones.specs.Walk.{put_node, put_nodes, rises}
use Rattle.syn_cones.proofs.Swapping.{fan_ins_are_cut, leaf_may_be_replaced}
use Rattle.syn_rows.proofs.Nodes.{has_here, has_one, same_node}
use Rattle.syn_cones.proofs.Walking.{put_has, put_new, put_old, puts_has, puts_old, rises_puts}
use Rattle.syn_growing.specs.Cones.{AreFanIns, AreLeaves, HaveFanIns}
use Rattle.syn_growing.specs.Growing.{count_with, one_new, with_fan_ins, without_node}
use Rattle.syn_growing.proofs.Sorted.{length-put, length-without, rises-without, same_has, without_has, without_keeps}

-- an AND has two literals
pub and_of : (row : Row) → is_and row ≡ true → (a : Lit) × (b : Lit) × (row ≡ And a b)
and_of Free h = absurd (both_ways false refl h)
and_of Source h = absurd (both_ways false refl h)
and_of (Alias a) h = absurd (both_ways false refl h)
and_of (And a b) h = (a, b, refl)

fan_ins_of : (rows : List Row) (leaf : ℕ) (a b : Lit) → row_at rows leaf ≡ And a b → refs_of (row_at rows leaf) ≡ node_of a ∷ node_of b ∷ []
fan_ins_of rows leaf a b is = ap refs_of is

-- how many leaves there are afterwards: one less, and each fan-in that is no leaf yet
pub count_is : (rows : List Row) (leaves : List ℕ) (leaf : ℕ) (a b : Lit) → row_at rows leaf ≡ And a b → AreFanIns leaf (node_of a) (node_of b) → rises leaves ≡ true → has_node leaves leaf ≡ true
    → count_with rows leaves leaf ≡ length leaves - 1 + one_new leaves (node_of a) + one_new leaves (node_of b)
count_is rows leaves leaf a b is are rise there =
    ap (λ ns. length (put_nodes ns rest)) (fan_ins_of rows leaf a b is)
    ∙ length-put y (put_node x rest) (rises_puts (x ∷ []) rest risen)
    ∙ (let first = length-put x rest risen in
    let less = length-without leaf leaves rise there in
    let one : one_new rest x ≡ one_new leaves x = ap (λ c. if c then 0 else 1) (has_rest x (λ e. let lt = are.first in omega arith)) in
    let two : one_new (put_node x rest) y ≡ one_new leaves y = ap (λ c. if c then 0 else 1) (has_put ∙ has_rest y (λ e. let lt = are.second in omega arith)) in
    omega (arith, first, less, one, two))
  where
    x : ℕ
    x = node_of a

    y : ℕ
    y = node_of b

    rest : List ℕ
    rest = without_node leaf leaves

    risen : rises rest ≡ true
    risen = rises-without leaf leaves rise

    has_rest : (n : ℕ) → n ≢ leaf → has_node rest n ≡ has_node leaves n
    has_rest n other = same_has (has_node rest n) (has_node leaves n) (λ h. (without_has leaf leaves n h).0) (λ h. without_keeps leaf leaves n h other)

    has_put : has_node (put_node x rest) y ≡ has_node rest y
    has_put = same_has (has_node (put_node x rest) y) (has_node rest y) (λ h. elim (put_has x y rest h) [ inl e ↦ absurd (are.differ e) | inr t ↦ t ]) (λ h. put_old x y rest h)

-- a cut stays one with more leaves
more_leaves : (rows : List Row) (leaves after : List ℕ) (root : ℕ) → ((m : ℕ) → has_node leaves m ≡ true → has_node after m ≡ true) → IsCut rows leaves root → IsCut rows after root
more_leaves rows leaves after root keeps cut path led = meets (root ∷ path) (cut path led)
  where
    meets : (ns : List ℕ) → list_any (has_node leaves) ns ≡ true → list_any (has_node after) ns ≡ true
    meets [] h = absurd (both_ways false refl h)
    meets (n ∷ ns) h = elim (or_cases (has_node leaves n) (list_any (has_node leaves) ns) h) [
      | inl here ↦ or_left (has_node after n) (list_any (has_node after) ns) (keeps n here)
      | inr later ↦ or_right (has_node after n) (list_any (has_node after) ns) (meets ns later)
    ]

-- the fan-ins are the first leaves
pub fan_ins_are : (rows : List Row) (node : ℕ) → HaveFanIns rows → is_and (row_at rows node) ≡ true → AreLeaves rows node (put_nodes (refs_of (row_at rows node)) [])
fan_ins_are rows node have gate =
    let (a, b, is) = and_of (row_at rows node) gate in
    subst (AreLeaves rows node) (sym (ap (λ ns. put_nodes ns []) (fan_ins_of rows node a b is))) (go a b is (have node a b is))
  where
    go : (a b : Lit) → row_at rows node ≡ And a b → AreFanIns node (node_of a) (node_of b) → AreLeaves rows node (put_nodes (node_of a ∷ node_of b ∷ []) [])
    go a b is are = record {
      cut = within_both;
      rise = rises_puts (node_of a ∷ node_of b ∷ []) [] refl;
      within = λ m h. elim (puts_has (node_of a ∷ node_of b ∷ []) m [] h) [
        | inl t ↦ elim (or_cases (nat_eq (node_of a) m) (has_node (node_of b ∷ []) m) t) [
          | inl e ↦ subst (λ k. (0 < k) × (k < node)) (same_node (node_of a) m e) (are.first_low, are.first)
          | inr o ↦ subst (λ k. (0 < k) × (k < node)) (has_one (node_of b) m o) (are.second_low, are.second)
        ]
        | inr none ↦ absurd (both_ways false refl none)
      ];
      few = two (node_of a) (node_of b);
    }
      where
        two : (x y : ℕ) → length (put_nodes (x ∷ y ∷ []) []) ≤ 8
        two x y = let l = length-put y (x ∷ []) refl in bounded (has_node (x ∷ []) y) l
          where
            bounded : (c : Bool) → length (put_node y (x ∷ [])) ≡ 1 + (if c then 0 else 1) → length (put_node y (x ∷ [])) ≤ 8
            bounded true e = omega arith
            bounded false e = omega arith

        within_both : IsCut rows (put_nodes (node_of a ∷ node_of b ∷ []) []) node
        within_both = more_leaves rows (node_of a ∷ node_of b ∷ []) (put_nodes (node_of a ∷ node_of b ∷ []) []) node (λ m h. elim (or_cases (nat_eq (node_of a) m) (has_node (node_of b ∷ []) m) h) [
          | inl e ↦ subst (λ k. has_node (put_nodes (node_of a ∷ node_of b ∷ []) []) k ≡ true) (same_node (node_of a) m e) (put_old (node_of b) (node_of a) (node_of a ∷ []) (has_here (node_of a) []))
          | inr o ↦ subst (λ k. has_node (put_nodes (node_of a ∷ node_of b ∷ []) []) k ≡ true) (has_one (node_of b) m o) (put_new (node_of b) (node_of a ∷ []))
        ]) (fan_ins_are_cut rows node a b is)

-- one leaf replaced
pub replaced_are : (rows : List Row) (node : ℕ) (leaves : List ℕ) (leaf : ℕ) → HaveFanIns rows → AreLeaves rows node leaves → has_node leaves leaf ≡ true → is_and (row_at rows leaf) ≡ true → count_with rows leaves leaf ≤ 8
    → AreLeaves rows node (with_fan_ins rows leaves leaf)
replaced_are rows node leaves leaf have are there gate few =
    let (a, b, is) = and_of (row_at rows leaf) gate in
    go a b is (have leaf a b is)
  where
    rest : List ℕ
    rest = without_node leaf leaves

    after : List ℕ
    after = with_fan_ins rows leaves leaf

    go : (a b : Lit) → row_at rows leaf ≡ And a b → AreFanIns leaf (node_of a) (node_of b) → AreLeaves rows node after
    go a b is fan = record {
      cut = leaf_may_be_replaced rows leaves after node leaf a b are.cut is (λ m h other. puts_old (refs_of (row_at rows leaf)) m rest (without_keeps leaf leaves m h other)) first second;
      rise = rises_puts (refs_of (row_at rows leaf)) rest (rises-without leaf leaves are.rise);
      within = λ m h. elim (puts_has (refs_of (row_at rows leaf)) m rest h) [
        | inl t ↦ elim (or_cases (nat_eq (node_of a) m) (has_node (node_of b ∷ []) m) (sym (ap (λ ns. has_node ns m) (fan_ins_of rows leaf a b is)) ∙ t)) [
          | inl e ↦ subst (λ k. (0 < k) × (k < node)) (same_node (node_of a) m e) (fan.first_low, let lt = fan.first in let low = (are.within leaf there).1 in omega arith)
          | inr o ↦ subst (λ k. (0 < k) × (k < node)) (has_one (node_of b) m o) (fan.second_low, let lt = fan.second in let low = (are.within leaf there).1 in omega arith)
        ]
        | inr o ↦ are.within m (without_has leaf leaves m o).0
      ];
      few = few;
    }
      where
        first : has_node after (node_of a) ≡ true
        first = ap (λ ns. has_node (put_nodes ns rest) (node_of a)) (fan_ins_of rows leaf a b is) ∙ put_old (node_of b) (node_of a) (put_node (node_of a) rest) (put_new (node_of a) rest)

        second : has_node after (node_of b) ≡ true
        second = ap (λ ns. has_node (put_nodes ns rest) (node_of b)) (fan_ins_of rows leaf a b is) ∙ put_new (node_of b) (put_node (node_of a) rest)
