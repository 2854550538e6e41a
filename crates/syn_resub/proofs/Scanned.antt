-- Divisors found by fan-outs are all divisors.
use Rattle.std.proofs.Common.{◌≡◌, ◌≢◌, ℕ, zero, suc, ◌<◌, ◌≤◌, ◌⊎◌, ◌&&◌, ◌||◌, nat_eq, nat_lt, if◌then◌else◌, Bool, true, false, List, [], ◌∷◌, ◌++◌, append_assoc, length, length-append, get_or, take, refl, sym, ap, ap₂, ◌∙◌, subst, inl, inr, arith}
use Rattle.std.specs.List.{list_all}
use Rattle.std.proofs.lemmas.Bool.{and_from, and_parts, both_ways, cases_eq, cases_lt, cond-false, cond-true, eqb-true, false_from_ne_true, lt-ltb, ltb-true, ne_eqb, or_cases, or_left, or_right}
use Rattle.std.proofs.lemmas.List.{append-nil, get_or_at, get_or-take, length-take, take-append-le, take-take, take_all}
use Rattle.syn_rows.specs.declared.Lit.{Lit}
use Rattle.syn_rows.specs.declared.Row.{Row}
use Rattle.syn_rows.specs.declared.Row.TheVariants.{Free, Source, And, Alias}
use Rattle.syn_rows.specs.Nodes.{has_node}
use Rattle.syn_rows.specs.Rows.{AllRefs, InOrder, node_of, row_at}
use Rattle.syn_rows.proofs.Nodes.{has_cases, has_here, has_left, has_one, has_right, has_there, node_same, same_node}
use Rattle.syn_cones.specs.Walk.{put_node, rises}
use Rattle.syn_cones.proofs.Walking.{put_has, put_new, put_old, rises_puts}
use Rattle.syn_growing.proofs.Sorted.{all_in, same_has}
use Rattle.syn_resub.specs.Divisors.{divides, divisors, divisors_below, joins}
use Rattle.syn_resub.specs.FanOuts.{IsFirstOver, NoneOver, is_over}
use Rattle.syn_resub.specs.Scanning.{AreLeft, IsPutUpTo, IsScannedAt, divides_up_to}

-- the first fan-in of each AND is not the greater one
abbrev pub FirstIsSmaller : List Row → Type 0
FirstIsSmaller rows = (n : ℕ) (a b : Lit) → row_at rows n ≡ And a b → node_of a ≤ node_of b

-- lists

pub take-put : (k m : ℕ) (ns : List ℕ) → take k (put_node m (take k ns)) ≡ take k (put_node m ns)
take-put zero m ns = refl
take-put (suc k) m [] = refl
take-put (suc k) m (x ∷ xs) = by (nat_lt m x) (nat_eq m x) (take-put k m xs)
  where
    again : (k : ℕ) → take k (x ∷ take k xs) ≡ take k (x ∷ xs)
    again zero = refl
    again (suc k) = ap (λ l. x ∷ l) (take-take k (suc k) xs (omega arith))

    by : (b c : Bool) → take k (put_node m (take k xs)) ≡ take k (put_node m xs)
        → take (suc k) (if b then m ∷ x ∷ take k xs else if c then x ∷ take k xs else x ∷ put_node m (take k xs)) ≡ take (suc k) (if b then m ∷ x ∷ xs else if c then x ∷ xs else x ∷ put_node m xs)
    by true c ih = ap (λ l. m ∷ l) (again k)
    by false true ih = ap (λ l. x ∷ l) (take-take k k xs (omega arith))
    by false false ih = ap (λ l. x ∷ l) ih

put-append : (m : ℕ) (xs ys : List ℕ) → ((n : ℕ) → has_node xs n ≡ true → n < m) → put_node m (xs ++ ys) ≡ xs ++ put_node m ys
put-append m [] ys below = refl
put-append m (x ∷ xs) ys below =
    let less = below x (has_here x xs) in
    cond-false (nat_lt m x) (m ∷ x ∷ (xs ++ ys)) (if nat_eq m x then x ∷ (xs ++ ys) else x ∷ put_node m (xs ++ ys)) (false_from_ne_true (nat_lt m x) (λ h. let lt = ltb-true m x h in omega (arith, lt, less)))
    ∙ cond-false (nat_eq m x) (x ∷ (xs ++ ys)) (x ∷ put_node m (xs ++ ys)) (ne_eqb m x (λ e. omega (arith, e, less)))
    ∙ ap (λ l. x ∷ l) (put-append m xs ys (λ n h. below n (has_there x n xs h)))

pub has-take : (k : ℕ) (xs : List ℕ) (n : ℕ) → has_node (take k xs) n ≡ true → has_node xs n ≡ true
has-take zero xs n h = absurd (both_ways false refl h)
has-take (suc k) [] n h = h
has-take (suc k) (x ∷ xs) n h = elim (or_cases (nat_eq x n) (has_node (take k xs) n) h) [
  | inl e ↦ or_left (nat_eq x n) (has_node xs n) e
  | inr t ↦ has_there x n xs (has-take k xs n t)
]

-- the first of rising nodes is the least
first_least : (d : ℕ) (ds : List ℕ) (m : ℕ) → rises (d ∷ ds) ≡ true → has_node (d ∷ ds) m ≡ true → d ≤ m
first_least d ds m rise h = elim (or_cases (nat_eq d m) (has_node ds m) h) [
  | inl e ↦ let same = same_node d m e in omega (arith, same)
  | inr t ↦ let less = ltb-true d m (all_in (nat_lt d) ds m (and_parts (list_all (nat_lt d) ds) (rises ds) rise).0 t) in omega (arith, less)
]

later_above : (d : ℕ) (ds : List ℕ) (m : ℕ) → rises (d ∷ ds) ≡ true → has_node ds m ≡ true → d < m
later_above d ds m rise t = ltb-true d m (all_in (nat_lt d) ds m (and_parts (list_all (nat_lt d) ds) (rises ds) rise).0 t)

module _ (rows : List Row) (leaves : List ℕ) where
  abbrev below : ℕ → List ℕ
  below n = divisors_below rows leaves n

  -- divisors below a number are below it
  pub are_below : (n m : ℕ) → has_node (below n) m ≡ true → m < n
  are_below zero m h = absurd (both_ways false refl h)
  are_below (suc n) m h = by (divides rows leaves (below n) n) h (are_below n m)
    where
      by : (b : Bool) → has_node (if b then below n ++ n ∷ [] else below n) m ≡ true → (has_node (below n) m ≡ true → m < n) → m < suc n
      by true h ih = elim (has_cases (below n) (n ∷ []) m h) [ inl old ↦ let lt = ih old in omega (arith, lt) | inr new ↦ let same = has_one n m new in omega (arith, same) ]
      by false h ih = let lt = ih h in omega (arith, lt)

  -- those below a greater number begin with them
  pub more_below : (n k : ℕ) → n ≤ k → (more : List ℕ) × (below k ≡ below n ++ more)
  more_below n zero le = ([], subst (λ i. below zero ≡ below i ++ []) (let e : 0 ≡ n = omega (arith, le) in e) refl)
  more_below n (suc k) le = elim (cases_eq n (suc k)) [
    | inl same ↦ ([], subst (λ i. below (suc k) ≡ below i ++ []) (sym same) (sym (append-nil (below (suc k)))))
    | inr other ↦ let (more, is) = more_below n k (omega (arith, le, other)) in by (divides rows leaves (below k) k) more is
  ]
    where
      by : (b : Bool) (more : List ℕ) → below k ≡ below n ++ more → (again : List ℕ) × ((if b then below k ++ k ∷ [] else below k) ≡ below n ++ again)
      by true more is = (more ++ k ∷ [], ap (λ l. l ++ k ∷ []) is ∙ append_assoc (below n) more (k ∷ []))
      by false more is = (more, is)

  -- they stay where no number between is a divisor
  same_below : (n k : ℕ) → n ≤ k → ((m : ℕ) → n ≤ m → m < k → divides rows leaves (below n) m ≡ false) → below k ≡ below n
  same_below n zero le none = ap below (let e : 0 ≡ n = omega (arith, le) in e)
  same_below n (suc k) le none = elim (cases_eq n (suc k)) [
    | inl same ↦ ap below (sym same)
    | inr other ↦
        let before = same_below n k (omega (arith, le, other)) (λ m low high. none m low (omega (arith, high))) in
        cond-false (divides rows leaves (below k) k) (below k ++ k ∷ []) (below k) (ap (λ l. divides rows leaves l k) before ∙ none k (omega (arith, le, other)) (omega arith)) ∙ before
  ]

  joins_none : (row : Row) → joins [] row ≡ false
  joins_none Free = refl
  joins_none Source = refl
  joins_none (And a b) = refl
  joins_none (Alias a) = refl

  or_false : (b c : Bool) → c ≡ false → b ≡ (b || c)
  or_false true c e = refl
  or_false false c e = sym e

  -- the leaves are what is scanned at first
  pub scan_begins : (node : ℕ) → rises leaves ≡ true → length leaves ≤ 64 → ((m : ℕ) → has_node leaves m ≡ true → m < node) → IsScannedAt rows leaves node 0 leaves
  scan_begins node rise few within = (
    0,
    leaves,
    record {
      nodes_are = sym (take_all 64 leaves few);
      count_is = refl;
      within = omega arith;
      are_left = record {
        rise = rise;
        within = λ m h. (omega arith, within m h);
        each = λ m low high. or_false (has_node leaves m) (joins [] (row_at rows m)) (joins_none (row_at rows m));
      };
    },
  )

  -- the next divisor
  pub scan_next : (node count : ℕ) (nodes : List ℕ) (d : ℕ) → count < length nodes → d ≡ get_or nodes count 0 → IsScannedAt rows leaves node count nodes → IsPutUpTo rows leaves node d 0 nodes × (length (below (suc d)) ≡ suc count)
  scan_next node count nodes d more at (low, [], scanned) =
      absurd (let long = ap (λ (l : List ℕ). length l) (scanned.nodes_are ∙ ap (take 64) (append-nil (below low))) in let le = length-take 64 (below low) in let is = scanned.count_is in omega (arith, long, le, is, more))
  scan_next node count nodes d more at (low, first ∷ left, scanned) = subst (λ k. IsPutUpTo rows leaves node k 0 nodes × (length (below (suc k)) ≡ suc count)) (sym here) (
    (
      left,
      record {
        nodes_are = scanned.nodes_are ∙ ap (take 64) (sym (ap (λ l. l ++ left) goes_on ∙ append_assoc (below low) (first ∷ []) left));
        few = omega (arith, few_nodes, more, counted);
        there = ap (λ l. has_node l first) goes_on ∙ has_right (below low) (first ∷ []) first (has_here first []);
        below = (are.within first (has_here first left)).1;
        are_left = record {
          rise = (and_parts (list_all (nat_lt first) left) (rises left) are.rise).1;
          within = λ m h. (later_above first left m are.rise h, (are.within m (has_there first m left h)).1);
          each = λ m above high.
              later m above
              ∙ are.each m (let le = (are.within first (has_here first left)).0 in omega (arith, le, above)) high
              ∙ ap (λ l. divides rows leaves l m) (sym same)
              ∙ or_false (divides rows leaves (below first) m) (nat_lt m 0 && (is_over first (row_at rows m) && joins (below (suc first)) (row_at rows m))) (none_yet m);
        };
      },
    ),
    counted,
  )
    where
      are : AreLeft node low (divides rows leaves (below low)) (first ∷ left)
      are = scanned.are_left

      few_nodes : length nodes ≤ 64
      few_nodes = let long = ap (λ (l : List ℕ). length l) scanned.nodes_are in let le = length-take 64 (below low ++ first ∷ left) in omega (arith, long, le)

      here : d ≡ first
      here =
          at ∙ ap (λ (l : List ℕ). get_or l count 0) scanned.nodes_are
          ∙ get_or-take 64 (below low ++ first ∷ left) count 0 (omega (arith, few_nodes, more))
          ∙ get_or_at (below low) first left 0 count scanned.count_is

      same : below first ≡ below low
      same = same_below low first (are.within first (has_here first left)).0 (λ m above less.
          sym (are.each m above (let lt = (are.within first (has_here first left)).1 in omega (arith, less, lt)))
          ∙ false_from_ne_true (has_node (first ∷ left) m) (λ h. let le = first_least first left m are.rise h in omega (arith, le, less)))

      divides_first : divides rows leaves (below first) first ≡ true
      divides_first =
          ap (λ l. divides rows leaves l first) same
          ∙ sym (are.each first (are.within first (has_here first left)).0 (are.within first (has_here first left)).1)
          ∙ has_here first left

      goes_on : below (suc first) ≡ below low ++ first ∷ []
      goes_on = cond-true (divides rows leaves (below first) first) (below first ++ first ∷ []) (below first) divides_first ∙ ap (λ l. l ++ first ∷ []) same

      counted : length (below (suc first)) ≡ suc count
      counted = ap (λ (l : List ℕ). length l) goes_on ∙ length-append (below low) (first ∷ []) ∙ (let is = scanned.count_is in omega (arith, is))

      later : (m : ℕ) → suc first ≤ m → has_node left m ≡ has_node (first ∷ left) m
      later m above = sym (ap (λ b. b || has_node left m) (ne_eqb first m (λ e. omega (arith, e, above))))

      none_yet : (m : ℕ) → (nat_lt m 0 && (is_over first (row_at rows m) && joins (below (suc first)) (row_at rows m))) ≡ false
      none_yet m = false_from_ne_true _ (λ h. let lt = ltb-true m 0 (and_parts (nat_lt m 0) (is_over first (row_at rows m) && joins (below (suc first)) (row_at rows m)) h).0 in omega (arith, lt))

  -- the test is the same where nothing is over d
  put_same : (node d low high : ℕ) (nodes : List ℕ) → ((m : ℕ) → suc d ≤ m → m < node → divides_up_to rows leaves d low m ≡ divides_up_to rows leaves d high m)
      → IsPutUpTo rows leaves node d low nodes → IsPutUpTo rows leaves node d high nodes
  put_same node d low high nodes same (left, put) = (
    left,
    record {
      nodes_are = put.nodes_are;
      few = put.few;
      there = put.there;
      below = put.below;
      are_left = record { rise = put.are_left.rise; within = put.are_left.within; each = λ m above less. put.are_left.each m above less ∙ same m above less };
    },
  )

  pub put_past : (node d low high : ℕ) (nodes : List ℕ) → NoneOver rows d low high → low ≤ high → IsPutUpTo rows leaves node d low nodes → IsPutUpTo rows leaves node d high nodes
  put_past node d low high nodes none le put = put_same node d low high nodes (λ m above less. ap (λ b. divides rows leaves (below d) m || b) (by m)) put
    where
      by : (m : ℕ) → (nat_lt m low && (is_over d (row_at rows m) && joins (below (suc d)) (row_at rows m))) ≡ (nat_lt m high && (is_over d (row_at rows m) && joins (below (suc d)) (row_at rows m)))
      by m = elim (cases_lt m low) [
        | inl lt ↦ ap₂ (λ b c. b && c) (lt-ltb m low lt ∙ sym (lt-ltb m high (omega (arith, lt, le)))) refl
        | inr ge ↦ elim (cases_lt m high) [
          | inl below_high ↦
              let not_over = none m ge below_high in
              ap₂ (λ b c. b && c) (false_from_ne_true (nat_lt m low) (λ h. let l = ltb-true m low h in omega (arith, l, ge))) refl
              ∙ sym (ap₂ (λ b c. b && (c && joins (below (suc d)) (row_at rows m))) (lt-ltb m high below_high) not_over)
          | inr past ↦
              ap₂ (λ b c. b && c)
              (false_from_ne_true (nat_lt m low) (λ h. let l = ltb-true m low h in omega (arith, l, ge))
              ∙ sym (false_from_ne_true (nat_lt m high) (λ h. let l = ltb-true m high h in omega (arith, l, past))))
              refl
        ]
      ]

  -- no more is put past the node
  pub put_ends : (node d high : ℕ) (nodes : List ℕ) → node ≤ high → IsPutUpTo rows leaves node d high nodes → IsPutUpTo rows leaves node d node nodes
  put_ends node d high nodes le put = put_same node d high node nodes (λ m above less.
      ap (λ b. divides rows leaves (below d) m || (b && (is_over d (row_at rows m) && joins (below (suc d)) (row_at rows m)))) (lt-ltb m high (omega (arith, less, le)) ∙ sym (lt-ltb m node less))) put

  -- nodes before and at d that were found are the divisors
  pub has_before : (node d m : ℕ) (nodes : List ℕ) (n : ℕ) → n ≤ d → IsPutUpTo rows leaves node d m nodes → has_node nodes n ≡ has_node (below (suc d)) n
  has_before node d m nodes n le (left, put) = same_has (has_node nodes n) (has_node (below (suc d)) n)
      (λ h. elim (has_cases (below (suc d)) left n (has-take 64 (below (suc d) ++ left) n (ap (λ l. has_node l n) (sym put.nodes_are) ∙ h))) [
        | inl t ↦ t
        | inr t ↦ absurd (let above = (put.are_left.within n t).0 in omega (arith, above, le))
      ])
      (λ h. ap (λ l. has_node l n) put.nodes_are ∙ has_taken (below (suc d)) left n put.few h)
    where
      has_taken : (xs ys : List ℕ) (n : ℕ) → length xs ≤ 64 → has_node xs n ≡ true → has_node (take 64 (xs ++ ys)) n ≡ true
      has_taken xs ys n few h = go 64 xs few h
        where
          go : (k : ℕ) (xs : List ℕ) → length xs ≤ k → has_node xs n ≡ true → has_node (take k (xs ++ ys)) n ≡ true
          go k [] l h = absurd (both_ways false refl h)
          go zero (x ∷ xs) l h = absurd (omega (arith, l))
          go (suc k) (x ∷ xs) l h = elim (or_cases (nat_eq x n) (has_node xs n) h) [
            | inl e ↦ or_left (nat_eq x n) (has_node (take k (xs ++ ys)) n) e
            | inr t ↦ has_there x n (take k (xs ++ ys)) (go k xs (omega (arith, l)) t)
          ]

  -- an AND over d

  test_next : (d m n : ℕ) → n ≢ m → divides_up_to rows leaves d m n ≡ divides_up_to rows leaves d (suc m) n
  test_next d m n other = ap (λ b. divides rows leaves (below d) n || (b && (is_over d (row_at rows n) && joins (below (suc d)) (row_at rows n))))
      (same_has (nat_lt n m) (nat_lt n (suc m)) (λ h. let l = ltb-true n m h in lt-ltb n (suc m) (omega (arith, l))) (λ h. let l = ltb-true n (suc m) h in lt-ltb n m (omega (arith, l, other))))

  pub put_none : (node d m : ℕ) (nodes : List ℕ) → joins (below (suc d)) (row_at rows m) ≡ false → IsPutUpTo rows leaves node d m nodes → IsPutUpTo rows leaves node d (suc m) nodes
  put_none node d m nodes none put = put_same node d m (suc m) nodes (λ n above less. elim (cases_eq n m) [
    | inl same ↦ subst (λ k. divides_up_to rows leaves d m k ≡ divides_up_to rows leaves d (suc m) k) (sym same) (ap (λ b. divides rows leaves (below d) m || b) (nothing (nat_lt m m) ∙ sym (nothing (nat_lt m (suc m)))))
    | inr other ↦ test_next d m n other
  ]) put
    where
      nothing : (b : Bool) → (b && (is_over d (row_at rows m) && joins (below (suc d)) (row_at rows m))) ≡ false
      nothing b = false_from_ne_true (b && (is_over d (row_at rows m) && joins (below (suc d)) (row_at rows m))) (λ h.
          both_ways (joins (below (suc d)) (row_at rows m)) none (and_parts (is_over d (row_at rows m)) (joins (below (suc d)) (row_at rows m)) (and_parts b (is_over d (row_at rows m) && joins (below (suc d)) (row_at rows m)) h).1).1)

  pub put_one : (node d m : ℕ) (nodes : List ℕ) → d < m → m < node → is_over d (row_at rows m) ≡ true → joins (below (suc d)) (row_at rows m) ≡ true
      → IsPutUpTo rows leaves node d m nodes → IsPutUpTo rows leaves node d (suc m) (take 64 (put_node m nodes))
  put_one node d m nodes above less over join (left, put) = (
    put_node m left,
    record {
      nodes_are = ap (λ l. take 64 (put_node m l)) put.nodes_are ∙ take-put 64 m (below (suc d) ++ left) ∙ ap (take 64) (put-append m (below (suc d)) left (λ n h. let lt = are_below (suc d) n h in omega (arith, lt, above)));
      few = put.few;
      there = put.there;
      below = put.below;
      are_left = record {
        rise = rises_puts (m ∷ []) left put.are_left.rise;
        within = λ n h. elim (put_has m n left h) [ inl same ↦ subst (λ k. (suc d ≤ k) × (k < node)) same (above, less) | inr old ↦ put.are_left.within n old ];
        each = λ n low high. elim (cases_eq n m) [
          | inl same ↦ subst (λ k. has_node (put_node m left) k ≡ divides_up_to rows leaves d (suc m) k) (sym same) (put_new m left ∙ sym (or_right (divides rows leaves (below d) m) (nat_lt m (suc m) && (is_over d (row_at rows m) && joins (below (suc d)) (row_at rows m))) passes))
          | inr other ↦ same_has (has_node (put_node m left) n) (has_node left n) (λ h. elim (put_has m n left h) [ inl e ↦ absurd (other (sym e)) | inr t ↦ t ]) (put_old m n left) ∙ put.are_left.each n low high ∙ test_next d m n other
        ];
      };
    },
  )
    where
      passes : (nat_lt m (suc m) && (is_over d (row_at rows m) && joins (below (suc d)) (row_at rows m))) ≡ true
      passes = and_from (nat_lt m (suc m)) (is_over d (row_at rows m) && joins (below (suc d)) (row_at rows m)) (lt-ltb m (suc m) (omega arith)) (and_from (is_over d (row_at rows m)) (joins (below (suc d)) (row_at rows m)) over join)

  -- what joins two divisors up to d joins two before it, or is over d
  joins_more : (d : ℕ) (row : Row) → ((a b : Lit) → row ≡ And a b → node_of a ≤ node_of b) → has_node (below (suc d)) d ≡ true → (below (suc d) ≡ below d ++ d ∷ []) → joins (below (suc d)) row ≡ (joins (below d) row || (is_over d row && joins (below (suc d)) row))
  joins_more d Free smaller there is = refl
  joins_more d Source smaller there is = refl
  joins_more d (Alias a) smaller there is = refl
  joins_more d (And a b) smaller there is = same_has (joins (below (suc d)) (And a b)) (joins (below d) (And a b) || (nat_eq (node_of b) d && joins (below (suc d)) (And a b)))
      (λ h. elim (cases_eq (node_of b) d) [
        | inl same ↦ or_right (joins (below d) (And a b)) (nat_eq (node_of b) d && joins (below (suc d)) (And a b)) (and_from (nat_eq (node_of b) d) (joins (below (suc d)) (And a b)) (ap (λ k. nat_eq k d) same ∙ node_same d) h)
        | inr other ↦
            let parts = and_parts (has_node (below (suc d)) (node_of a)) (has_node (below (suc d)) (node_of b)) h in
            let second = before (node_of b) other parts.1 in
            let less = are_below d (node_of b) second in
            let le = smaller a b refl in
            or_left (joins (below d) (And a b)) (nat_eq (node_of b) d && joins (below (suc d)) (And a b)) (and_from (has_node (below d) (node_of a)) (has_node (below d) (node_of b)) (before (node_of a) (λ e. omega (arith, e, less, le)) parts.0) second)
      ])
      (λ h. elim (or_cases (joins (below d) (And a b)) (nat_eq (node_of b) d && joins (below (suc d)) (And a b)) h) [
        | inl old ↦ let parts = and_parts (has_node (below d) (node_of a)) (has_node (below d) (node_of b)) old in and_from (has_node (below (suc d)) (node_of a)) (has_node (below (suc d)) (node_of b)) (later (node_of a) parts.0) (later (node_of b) parts.1)
        | inr new ↦ (and_parts (nat_eq (node_of b) d) (joins (below (suc d)) (And a b)) new).1
      ])
    where
      before : (n : ℕ) → n ≢ d → has_node (below (suc d)) n ≡ true → has_node (below d) n ≡ true
      before n other h = elim (has_cases (below d) (d ∷ []) n (ap (λ l. has_node l n) (sym is) ∙ h)) [ inl t ↦ t | inr o ↦ absurd (other (sym (has_one d n o))) ]

      later : (n : ℕ) → has_node (below d) n ≡ true → has_node (below (suc d)) n ≡ true
      later n h = ap (λ l. has_node l n) is ∙ has_left (below d) (d ∷ []) n h

  -- a divisor below the next number is the last
  ends_with : (d : ℕ) → has_node (below (suc d)) d ≡ true → below (suc d) ≡ below d ++ d ∷ []
  ends_with d h = by (divides rows leaves (below d) d) refl
    where
      by : (b : Bool) → divides rows leaves (below d) d ≡ b → below (suc d) ≡ below d ++ d ∷ []
      by true e = cond-true (divides rows leaves (below d) d) (below d ++ d ∷ []) (below d) e
      by false e =
          let stays : below (suc d) ≡ below d = cond-false (divides rows leaves (below d) d) (below d ++ d ∷ []) (below d) e in
          absurd (let lt = are_below d d (ap (λ l. has_node l d) (sym stays) ∙ h) in omega (arith, lt))

  or_assoc : (a b c : Bool) → ((a || b) || c) ≡ (a || (b || c))
  or_assoc true b c = refl
  or_assoc false b c = refl

  -- all over d are put
  pub scan_done : FirstIsSmaller rows → (node count d : ℕ) (nodes : List ℕ) → length (below (suc d)) ≡ count → IsPutUpTo rows leaves node d node nodes → IsScannedAt rows leaves node count nodes
  scan_done smaller node count d nodes counted (left, put) = (
    suc d,
    left,
    record {
      nodes_are = put.nodes_are;
      count_is = counted;
      within = put.below;
      are_left = record {
        rise = put.are_left.rise;
        within = put.are_left.within;
        each = λ m low high.
            put.are_left.each m low high
            ∙ ap (λ b. divides rows leaves (below d) m || (b && (is_over d (row_at rows m) && joins (below (suc d)) (row_at rows m)))) (lt-ltb m node high)
            ∙ or_assoc (has_node leaves m) (joins (below d) (row_at rows m)) (is_over d (row_at rows m) && joins (below (suc d)) (row_at rows m))
            ∙ ap (λ b. has_node leaves m || b) (sym (joins_more d (row_at rows m) (λ a b is. smaller m a b is) put.there (ends_with d put.there)));
      };
    },
  )

  -- all are scanned
  pub scan_all : (node count : ℕ) (nodes : List ℕ) → length nodes ≤ count → IsScannedAt rows leaves node count nodes → nodes ≡ divisors rows leaves node
  scan_all node count nodes all (low, left, scanned) = elim (cases_lt count 64) [
    | inl few ↦ by left scanned.are_left scanned.nodes_are few
    | inr full ↦
        scanned.nodes_are ∙ take-append-le 64 (below low) left (let is = scanned.count_is in omega (arith, is, full))
        ∙ sym (let (more, is) = more_below low node scanned.within in
        ap (take 64) is ∙ take-append-le 64 (below low) more (let c = scanned.count_is in omega (arith, c, full)))
  ]
    where
      by : (left : List ℕ) → AreLeft node low (divides rows leaves (below low)) left → nodes ≡ take 64 (below low ++ left) → count < 64 → nodes ≡ divisors rows leaves node
      by [] are is few = is ∙ ap (take 64) (append-nil (below low) ∙ sym (same_below low node scanned.within (λ m above less. sym (are.each m above less))))
      by (m ∷ ms) are is few = absurd (
          let long : length nodes ≡ length (take 64 (below low ++ m ∷ ms)) = ap (λ (l : List ℕ). length l) is in
          let min_is = length-take 64 (below low ++ m ∷ ms) in
          let sum = length-append (below low) (m ∷ ms) in
          let c = scanned.count_is in
          omega (arith, long, min_is, sum, c, few, all))

  -- the tests that are made
  pub put_few : (node d m : ℕ) (nodes : List ℕ) → IsPutUpTo rows leaves node d m nodes → length nodes ≤ 64
  put_few node d m nodes (left, put) = let long = ap (λ (l : List ℕ). length l) put.nodes_are in let le = length-take 64 (below (suc d) ++ left) in omega (arith, long, le)

  pub put_below : (node d m : ℕ) (nodes : List ℕ) → IsPutUpTo rows leaves node d m nodes → d < node
  put_below node d m nodes (left, put) = put.below

  pub joins_is : (node d m : ℕ) (nodes : List ℕ) (a b : Lit) → FirstIsSmaller rows → row_at rows m ≡ And a b → is_over d (row_at rows m) ≡ true → IsPutUpTo rows leaves node d m nodes
      → joins (below (suc d)) (row_at rows m) ≡ has_node nodes (node_of a)
  joins_is node d m nodes a b smaller is over (left, put) =
      let fan : node_of b ≡ d = eqb-true (node_of b) d (sym (ap (is_over d) is) ∙ over) in
      let le = smaller m a b is in
      ap (joins (below (suc d))) is
      ∙ ap₂ (λ x y. x && y) (sym (has_before node d m nodes (node_of a) (omega (arith, fan, le)) (left, put))) (ap (has_node (below (suc d))) fan ∙ put.there)
      ∙ and_true (has_node nodes (node_of a))
    where
      and_true : (x : Bool) → (x && true) ≡ x
      and_true true = refl
      and_true false = refl

  -- the next row over d
  abbrev pub IsPutting : ℕ → ℕ → ℕ → List ℕ → Type 0
  IsPutting node d m nodes = (low : ℕ) × IsFirstOver rows d low m × IsPutUpTo rows leaves node d low nodes

  pub putting_there : (node d m : ℕ) (nodes : List ℕ) → m < node → node ≤ length rows → IsPutting node d m nodes → (m < length rows) × (is_over d (row_at rows m) ≡ true) × IsPutUpTo rows leaves node d m nodes
  putting_there node d m nodes less within (low, first, put) = by first.over
    where
      by : (m ≡ length rows) ⊎ ((low ≤ m) × (m < length rows) × (is_over d (row_at rows m) ≡ true)) → (m < length rows) × (is_over d (row_at rows m) ≡ true) × IsPutUpTo rows leaves node d m nodes
      by (inl past) = absurd (omega (arith, past, less, within))
      by (inr (above, there, over)) = (there, over, put_past node d low m nodes first.none above put)

  pub putting_ends : (node d m : ℕ) (nodes : List ℕ) → node ≤ length rows → node ≤ m → IsPutting node d m nodes → IsPutUpTo rows leaves node d node nodes
  putting_ends node d m nodes within past (low, first, put) = elim (cases_lt low m) [
    | inl less ↦ put_ends node d m nodes past (put_past node d low m nodes first.none (omega (arith, less)) put)
    | inr ge ↦ put_ends node d low nodes (omega (arith, past, ge)) put
  ]

-- a row over d is behind it
pub over_above : (rows : List Row) (d m : ℕ) → InOrder rows → is_over d (row_at rows m) ≡ true → d < m
over_above rows d m order over = by (row_at rows m) over (order m)
  where
    by : (row : Row) → is_over d row ≡ true → AllRefs (λ k. k < m) row → d < m
    by Free h refs = absurd (both_ways false refl h)
    by Source h refs = absurd (both_ways false refl h)
    by (Alias a) h refs = absurd (both_ways false refl h)
    by (And a b) h refs = let same = eqb-true (node_of b) d h in let less = refs.1 in omega (arith, same, less)
