-- The nodes that a plan needs, found among the divisors.
use Rattle.std.proofs.Common.{◌≡◌, ℕ, zero, suc, ◌+◌, ◌*◌, ◌<◌, ◌≤◌, ◌&&◌, ◌||◌, nat_eq, not, Bool, true, false, All, List, [], ◌∷◌, ◌++◌, append_assoc, length, length-append, get_or, take, refl, sym, ap, ◌∙◌, subst, inl, inr, arith}
use Rattle.std.proofs.lemmas.Bool.{and_from, and_parts, both_ways, cases_Bool, cases_eq, cond-false, cond-true, false_from_ne_true, not-true, or_cases, or_left, or_right}
use Rattle.std.proofs.lemmas.List.{append-nil, take_all, take_more}
use Rattle.std.proofs.lemmas.List.Elements.{All-head, All-tail}
use Rattle.syn_rows.specs.declared.Lit.{Lit}
use Rattle.syn_rows.specs.declared.Row.{Row}
use Rattle.syn_rows.specs.declared.Row.TheVariants.{Free, Source, And, Alias}
use Rattle.syn_rows.specs.Nodes.{has_node}
use Rattle.syn_rows.specs.Reach.{is_and}
use Rattle.syn_rows.specs.Rows.{AllRefs, InOrder, node_of, refs_of, row_at}
use Rattle.syn_rows.proofs.Nodes.{has_at, has_cases, has_here, has_left, has_node-append, has_one, has_right, has_there, same_node}
use Rattle.syn_resub.specs.Divisors.{joins}
use Rattle.syn_resub.specs.Laws.{AreDivisors}
use Rattle.syn_resub.specs.Needed.{AreInner, IsNeeding, JoinsThere, Needs, is_there}
use Rattle.syn_resub.specs.Resubstitution.{needed_below}
use Rattle.syn_resub.proofs.Places.{has_taken, rises_push, taken_below}

-- a row that joins nodes is an AND of two of them
pub joined : (ds : List ℕ) (row : Row) → joins ds row ≡ true → (a : Lit) × (b : Lit) × (row ≡ And a b) × (has_node ds (node_of a) ≡ true) × (has_node ds (node_of b) ≡ true)
joined ds Free h = absurd (both_ways false refl h)
joined ds Source h = absurd (both_ways false refl h)
joined ds (Alias a) h = absurd (both_ways false refl h)
joined ds (And a b) h = let parts = and_parts (has_node ds (node_of a)) (has_node ds (node_of b)) h in (a, b, refl, parts.0, parts.1)

-- a divisor that isn't a leaf is an AND of two divisors
pub divisor_joins : (rows : List Row) (leaves : List ℕ) (node : ℕ) (ds : List ℕ) (n : ℕ) → AreDivisors rows leaves node ds → has_node ds n ≡ true → has_node leaves n ≡ false
    → (a : Lit) × (b : Lit) × (row_at rows n ≡ And a b) × (has_node ds (node_of a) ≡ true) × (has_node ds (node_of b) ≡ true)
divisor_joins rows leaves node ds n are h inner = elim (or_cases (has_node leaves n) (joins ds (row_at rows n)) (are.divide n h)) [
  | inl leaf ↦ absurd (both_ways (has_node leaves n) inner leaf)
  | inr join ↦ joined ds (row_at rows n) join
]

-- the fan-ins of a row in order are smaller
pub fan_ins_below : (rows : List Row) (n : ℕ) (a b : Lit) → InOrder rows → row_at rows n ≡ And a b → (node_of a < n) × (node_of b < n)
fan_ins_below rows n a b order is = subst (λ row. AllRefs (λ m. m < n) row) is (order n)

module _ (rows : List Row) (leaves : List ℕ) where
  -- what is needed depends on which nodes are wanted alone, and on none that are past the number
  none_between : (low high : ℕ) (all : List ℕ) → low ≤ high → ((m : ℕ) → low ≤ m → m < high → has_node all m ≡ false) → needed_below rows leaves high all ≡ needed_below rows leaves low all
  none_between low zero all le none = ap (λ k. needed_below rows leaves k all) (let e : 0 ≡ low = omega (arith, le) in e)
  none_between low (suc k) all le none = elim (cases_eq low (suc k)) [
    | inl same ↦ ap (λ i. needed_below rows leaves i all) (sym same)
    | inr other ↦
        cond-false (has_node all k && not (has_node leaves k)) (needed_below rows leaves k (refs_of (row_at rows k) ++ all) ++ k ∷ []) (needed_below rows leaves k all)
        (false_from_ne_true (has_node all k && not (has_node leaves k)) (λ h. both_ways (has_node all k) (none k (omega (arith, le, other)) (omega arith)) (and_parts (has_node all k) (not (has_node leaves k)) h).0))
        ∙ none_between low k all (omega (arith, le, other)) (λ m above less. none m above (omega (arith, less)))
  ]

  module _ (node : ℕ) (ds roots : List ℕ) (are : AreDivisors rows leaves node ds) where
    -- before any divisor is looked at
    pub need_begins : (wanted : List ℕ) → wanted ≡ roots → length roots ≤ 2 → ((m : ℕ) → has_node roots m ≡ true → has_node ds m ≡ true) → Needs rows leaves ds node roots (length ds) wanted []
    need_begins wanted same few there = (
      node,
      roots,
      record {
        same = λ m. ap (λ l. has_node l m) same;
        needed = append-nil (needed_below rows leaves node roots);
        before = λ m less h. ap (λ l. has_node l m) (take_all (length ds) ds (omega arith)) ∙ there m h;
        first = λ m h. are.below m (ap (λ l. has_node l m) (sym (take_all (length ds) ds (omega arith))) ∙ h);
        few_wanted = let long = ap (λ (l : List ℕ). length l) same in omega (arith, long, few);
        few_inner = omega arith;
      },
    )

    -- after all
    pub need_ends : (wanted inner : List ℕ) → Needs rows leaves ds node roots 0 wanted inner → inner ≡ needed_below rows leaves node roots
    need_ends wanted inner (low, all, needs) =
        ap (λ l. l ++ inner) (sym (none_between 0 low all (omega arith) (λ m above less. false_from_ne_true (has_node all m) (λ h. both_ways false refl (needs.before m less h)))))
        ∙ needs.needed

    module _ (i : ℕ) (lt : i < length ds) where
      abbrev at : ℕ
      at = get_or ds i 0

      next : take (suc i) ds ≡ take i ds ++ at ∷ []
      next = let e : suc i ≡ i + 1 = omega arith in ap (λ k. take k ds) e ∙ take_more ds i 0 lt

      from_take : (k : ℕ) (xs : List ℕ) (n : ℕ) → has_node (take k xs) n ≡ true → has_node xs n ≡ true
      from_take zero xs n h = absurd (both_ways false refl h)
      from_take (suc k) [] n h = h
      from_take (suc k) (x ∷ xs) n h = elim (or_cases (nat_eq x n) (has_node (take k xs) n) h) [ inl e ↦ or_left (nat_eq x n) (has_node xs n) e | inr t ↦ has_there x n xs (from_take k xs n t) ]

      module _ (low : ℕ) (wanted inner all : List ℕ) (needs : IsNeeding rows leaves ds node roots (suc i) wanted inner low all) where
        at_low : at < low
        at_low = needs.first at (ap (λ l. has_node l at) next ∙ has_right (take i ds) (at ∷ []) at (has_here at []))

        -- what is wanted below the next divisor stands before it
        wanted_before : (m : ℕ) → m < at → has_node all m ≡ true → has_node (take i ds) m ≡ true
        wanted_before m less h = has_taken ds i m are.rise lt (from_take (suc i) ds m (needs.before m (omega (arith, at_low, less)) h)) less

        -- nothing is wanted between it and the last one
        to_next : needed_below rows leaves low all ≡ needed_below rows leaves (suc at) all
        to_next = none_between (suc at) low all at_low (λ m above less. false_from_ne_true (has_node all m) (λ h.
            elim (has_cases (take i ds) (at ∷ []) m (ap (λ l. has_node l m) (sym next) ∙ needs.before m less h)) [
              | inl old ↦ let below = taken_below ds i m are.rise lt old in omega (arith, below, above)
              | inr new ↦ let same = has_one at m new in omega (arith, same, above)
            ]))

        pub need_past : (has_node all at && not (has_node leaves at)) ≡ false → IsNeeding rows leaves ds node roots i wanted inner at all
        need_past never = record {
          same = needs.same;
          needed = ap (λ l. l ++ inner) (sym (to_next ∙ cond-false (has_node all at && not (has_node leaves at)) (needed_below rows leaves at (refs_of (row_at rows at) ++ all) ++ at ∷ []) (needed_below rows leaves at all) never)) ∙ needs.needed;
          before = wanted_before;
          first = λ m h. taken_below ds i m are.rise lt h;
          few_wanted = let few = needs.few_wanted in omega (arith, few);
          few_inner = let few = needs.few_inner in omega (arith, few);
        }

        pub need_one : (a b : Lit) → InOrder rows → has_node all at ≡ true → has_node leaves at ≡ false → row_at rows at ≡ And a b
            → IsNeeding rows leaves ds node roots i ((wanted ++ node_of a ∷ []) ++ node_of b ∷ []) (at ∷ inner) at (node_of a ∷ node_of b ∷ all)
        need_one a b order here not_leaf is = record {
          same = λ m.
              has_node-append (wanted ++ node_of a ∷ []) (node_of b ∷ []) m
              ∙ ap (λ c. c || has_node (node_of b ∷ []) m) (has_node-append wanted (node_of a ∷ []) m)
              ∙ three (has_node wanted m) (nat_eq (node_of a) m) (nat_eq (node_of b) m)
              ∙ ap (λ c. nat_eq (node_of a) m || (nat_eq (node_of b) m || c)) (needs.same m);
          needed =
              sym (append_assoc (needed_below rows leaves at (node_of a ∷ node_of b ∷ all)) (at ∷ []) inner)
              ∙ ap (λ l. l ++ inner) (ap (λ row. needed_below rows leaves at (refs_of row ++ all) ++ at ∷ []) (sym is)
              ∙ sym (to_next ∙ cond-true (has_node all at && not (has_node leaves at)) (needed_below rows leaves at (refs_of (row_at rows at) ++ all) ++ at ∷ []) (needed_below rows leaves at all) (and_from (has_node all at) (not (has_node leaves at)) here (ap not not_leaf))))
              ∙ needs.needed;
          before = λ m less h. elim (or_cases (nat_eq (node_of a) m) (nat_eq (node_of b) m || has_node all m) h) [
            | inl first ↦ divisor_before m (subst (λ k. has_node ds k ≡ true) (same_node (node_of a) m first) fan_ins.0) less
            | inr rest ↦ elim (or_cases (nat_eq (node_of b) m) (has_node all m) rest) [
              | inl second ↦ divisor_before m (subst (λ k. has_node ds k ≡ true) (same_node (node_of b) m second) fan_ins.1) less
              | inr old ↦ wanted_before m less old
            ]
          ];
          first = λ m h. taken_below ds i m are.rise lt h;
          few_wanted =
              let few = needs.few_wanted in let one = length-append wanted (node_of a ∷ []) in let two = length-append (wanted ++ node_of a ∷ []) (node_of b ∷ []) in
              omega (arith, few, one, two);
          few_inner = let few = needs.few_inner in omega (arith, few);
        }
          where
            three : (x y z : Bool) → ((x || (y || false)) || (z || false)) ≡ (y || (z || x))
            three true true z = refl
            three true false true = refl
            three true false false = refl
            three false true z = refl
            three false false true = refl
            three false false false = refl

            and_same : (c d a b : Lit) → And c d ≡ And a b → (c ≡ a) × (d ≡ b)
            and_same c d a b e = (cc, cc)

            fan_ins : (has_node ds (node_of a) ≡ true) × (has_node ds (node_of b) ≡ true)
            fan_ins =
                let (c, d, joins_is, first, second) = divisor_joins rows leaves node ds at are (has_at ds i at lt refl) not_leaf in
                let same = and_same c d a b (sym joins_is ∙ is) in
                (subst (λ l. has_node ds (node_of l) ≡ true) same.0 first, subst (λ l. has_node ds (node_of l) ≡ true) same.1 second)

            divisor_before : (m : ℕ) → has_node ds m ≡ true → m < at → has_node (take i ds) m ≡ true
            divisor_before m h less = has_taken ds i m are.rise lt h less

-- The needed nodes are inner ones, and the wanted ones are leaves or among them.

module _ (rows : List Row) (leaves : List ℕ) (node : ℕ) (ds : List ℕ) (are : AreDivisors rows leaves node ds) (order : InOrder rows) where
  record IsNeeded (n : ℕ) (nodes inner : List ℕ) : Type 0 where
    are_inner : AreInner rows leaves inner
    below : (m : ℕ) → has_node inner m ≡ true → m < n
    there : (m : ℕ) → m < n → has_node nodes m ≡ true → is_there leaves inner m ≡ true

  there_more : (inner : List ℕ) (n m : ℕ) → is_there leaves inner m ≡ true → is_there leaves (inner ++ n ∷ []) m ≡ true
  there_more inner n m h = elim (or_cases (has_node leaves m) (has_node inner m) h) [
    | inl leaf ↦ or_left (has_node leaves m) (has_node (inner ++ n ∷ []) m) leaf
    | inr old ↦ or_right (has_node leaves m) (has_node (inner ++ n ∷ []) m) (has_left inner (n ∷ []) m old)
  ]

  needed_is : (n : ℕ) (nodes : List ℕ) → ((m : ℕ) → has_node nodes m ≡ true → has_node ds m ≡ true) → IsNeeded n nodes (needed_below rows leaves n nodes)
  needed_is zero nodes listed = record {
    are_inner = record { rise = refl; apart = λ m h. absurd (both_ways false refl h); join = λ m h. absurd (both_ways false refl h) };
    below = λ m h. absurd (both_ways false refl h);
    there = λ m less h. absurd (omega (arith, less));
  }
  needed_is (suc n) nodes listed = elim (cases_Bool (has_node nodes n && not (has_node leaves n))) [
    | inl wanted_here ↦
        let parts = and_parts (has_node nodes n) (not (has_node leaves n)) wanted_here in
        let inner_n : has_node leaves n ≡ false = not_true (has_node leaves n) parts.1 in
        let (a, b, is, first, second) = divisor_joins rows leaves node ds n are (listed n parts.0) inner_n in
        subst (IsNeeded (suc n) nodes)
        (ap (λ row. needed_below rows leaves n (refs_of row ++ nodes) ++ n ∷ []) (sym is)
        ∙ sym (cond-true (has_node nodes n && not (has_node leaves n)) (needed_below rows leaves n (refs_of (row_at rows n) ++ nodes) ++ n ∷ []) (needed_below rows leaves n nodes) wanted_here))
        (with_node n nodes a b inner_n is (needed_is n (node_of a ∷ node_of b ∷ nodes) (λ m h. elim (or_cases (nat_eq (node_of a) m) (nat_eq (node_of b) m || has_node nodes m) h) [
          | inl e ↦ subst (λ k. has_node ds k ≡ true) (same_node (node_of a) m e) first
          | inr rest ↦ elim (or_cases (nat_eq (node_of b) m) (has_node nodes m) rest) [
            | inl e ↦ subst (λ k. has_node ds k ≡ true) (same_node (node_of b) m e) second
            | inr old ↦ listed m old
          ]
        ])))
    | inr never ↦
        subst (IsNeeded (suc n) nodes) (sym (cond-false (has_node nodes n && not (has_node leaves n)) (needed_below rows leaves n (refs_of (row_at rows n) ++ nodes) ++ n ∷ []) (needed_below rows leaves n nodes) never))
        (without_node n nodes never (needed_is n nodes listed))
  ]
    where
      not_true : (b : Bool) → not b ≡ true → b ≡ false
      not_true true h = absurd (both_ways false refl h)
      not_true false h = refl

      with_node : (n : ℕ) (nodes : List ℕ) (a b : Lit) → has_node leaves n ≡ false → row_at rows n ≡ And a b → IsNeeded n (node_of a ∷ node_of b ∷ nodes) (needed_below rows leaves n (node_of a ∷ node_of b ∷ nodes))
          → IsNeeded (suc n) nodes (needed_below rows leaves n (node_of a ∷ node_of b ∷ nodes) ++ n ∷ [])
      with_node n nodes a b inner_n is ih = record {
        are_inner = record {
          rise = rises_push inner n ih.are_inner.rise ih.below;
          apart = λ m h. elim (has_cases inner (n ∷ []) m h) [ inl old ↦ ih.are_inner.apart m old | inr new ↦ subst (λ k. has_node leaves k ≡ false) (has_one n m new) inner_n ];
          join = λ m h. elim (has_cases inner (n ∷ []) m h) [
            | inl old ↦ let (c, d, row, first, second) = ih.are_inner.join m old in (c, d, row, there_more inner n (node_of c) first, there_more inner n (node_of d) second)
            | inr new ↦ subst (JoinsThere rows leaves (inner ++ n ∷ [])) (has_one n m new) (
              a,
              b,
              is,
              there_more inner n (node_of a) (ih.there (node_of a) low.0 (has_here (node_of a) (node_of b ∷ nodes))),
              there_more inner n (node_of b) (ih.there (node_of b) low.1 (has_there (node_of a) (node_of b) (node_of b ∷ nodes) (has_here (node_of b) nodes))),
            )
          ];
        };
        below = λ m h. elim (has_cases inner (n ∷ []) m h) [ inl old ↦ let lt = ih.below m old in omega (arith, lt) | inr new ↦ let same = has_one n m new in omega (arith, same) ];
        there = λ m less h. elim (cases_eq m n) [
          | inl same ↦ or_right (has_node leaves m) (has_node (inner ++ n ∷ []) m) (subst (λ k. has_node (inner ++ n ∷ []) k ≡ true) (sym same) (has_right inner (n ∷ []) n (has_here n [])))
          | inr other ↦ there_more inner n m (ih.there m (omega (arith, less, other)) (has_there (node_of a) m (node_of b ∷ nodes) (has_there (node_of b) m nodes h)))
        ];
      }
        where
          inner : List ℕ
          inner = needed_below rows leaves n (node_of a ∷ node_of b ∷ nodes)

          low : (node_of a < n) × (node_of b < n)
          low = fan_ins_below rows n a b order is

      without_node : (n : ℕ) (nodes : List ℕ) → (has_node nodes n && not (has_node leaves n)) ≡ false → IsNeeded n nodes (needed_below rows leaves n nodes) → IsNeeded (suc n) nodes (needed_below rows leaves n nodes)
      without_node n nodes never ih = record {
        are_inner = ih.are_inner;
        below = λ m h. let lt = ih.below m h in omega (arith, lt);
        there = λ m less h. elim (cases_eq m n) [
          | inl same ↦ or_left (has_node leaves m) (has_node (needed_below rows leaves n nodes) m) (subst (λ k. has_node leaves k ≡ true) (sym same) (elim (cases_Bool (has_node leaves n)) [
            | inl leaf ↦ leaf
            | inr inner_n ↦ absurd (both_ways (has_node nodes n && not (has_node leaves n)) never (and_from (has_node nodes n) (not (has_node leaves n)) (subst (λ k. has_node nodes k ≡ true) same h) (ap not inner_n)))
          ]))
          | inr other ↦ ih.there m (omega (arith, less, other)) h
        ];
      }

  pub needed_are_inner : (nodes : List ℕ) → ((m : ℕ) → has_node nodes m ≡ true → has_node ds m ≡ true) → AreInner rows leaves (needed_below rows leaves node nodes)
  needed_are_inner nodes listed = (needed_is node nodes listed).are_inner

  pub needed_are_below : (nodes : List ℕ) → ((m : ℕ) → has_node nodes m ≡ true → has_node ds m ≡ true) → (m : ℕ) → has_node (needed_below rows leaves node nodes) m ≡ true → m < node
  needed_are_below nodes listed = (needed_is node nodes listed).below

  pub needed_are_there : (nodes : List ℕ) → ((m : ℕ) → has_node nodes m ≡ true → has_node ds m ≡ true) → (m : ℕ) → has_node nodes m ≡ true → is_there leaves (needed_below rows leaves node nodes) m ≡ true
  needed_are_there nodes listed m h = (needed_is node nodes listed).there m (are.below m (listed m h)) h

-- The same steps as the code takes them.

module _ (rows : List Row) (leaves : List ℕ) (node : ℕ) (ds roots : List ℕ) (are : AreDivisors rows leaves node ds) where
  pub goes_past : (i j : ℕ) (wanted inner : List ℕ) → j ≡ suc i → i < length ds → (has_node wanted (get_or ds i 0) && not (has_node leaves (get_or ds i 0))) ≡ false → Needs rows leaves ds node roots j wanted inner → Needs rows leaves ds node roots i wanted inner
  goes_past i j wanted inner next lt fails (low, all, needs) = (
    get_or ds i 0,
    all,
    need_past rows leaves node ds roots are i lt low wanted inner all (subst (λ k. IsNeeding rows leaves ds node roots k wanted inner low all) next needs) (ap (λ b. b && not (has_node leaves (get_or ds i 0))) (sym (needs.same (get_or ds i 0))) ∙ fails),
  )

  pub takes_one : (i j : ℕ) (wanted inner : List ℕ) (a b : Lit) → j ≡ suc i → i < length ds → InOrder rows → (has_node wanted (get_or ds i 0) && not (has_node leaves (get_or ds i 0))) ≡ true → row_at rows (get_or ds i 0) ≡ And a b
      → Needs rows leaves ds node roots j wanted inner → Needs rows leaves ds node roots i ((wanted ++ node_of a ∷ []) ++ node_of b ∷ []) (get_or ds i 0 ∷ inner)
  takes_one i j wanted inner a b next lt order passes is (low, all, needs) =
      let parts = and_parts (has_node wanted (get_or ds i 0)) (not (has_node leaves (get_or ds i 0))) passes in (
        get_or ds i 0,
        node_of a ∷ node_of b ∷ all,
        need_one rows leaves node ds roots are i lt low wanted inner all (subst (λ k. IsNeeding rows leaves ds node roots k wanted inner low all) next needs) a b order (sym (needs.same (get_or ds i 0)) ∙ parts.0) (not-true (has_node leaves (get_or ds i 0)) parts.1) is,
      )

  pub few_wanted : (i j : ℕ) (wanted inner : List ℕ) → j ≡ suc i → Needs rows leaves ds node roots j wanted inner → (length wanted ≤ 2 * length ds) × (length inner < length ds)
  few_wanted i j wanted inner next (low, all, needs) = let w = needs.few_wanted in let n = needs.few_inner in (omega (arith, w, next), omega (arith, n, next))

-- an inner node's fan-ins are there
pub join_of : (rows : List Row) (leaves inner : List ℕ) (n : ℕ) (a b : Lit) → AreInner rows leaves inner → has_node inner n ≡ true → row_at rows n ≡ And a b → (is_there leaves inner (node_of a) ≡ true) × (is_there leaves inner (node_of b) ≡ true)
join_of rows leaves inner n a b are h is =
    let (c, d, row, first, second) = are.join n h in
    let same = and_same c d a b (sym row ∙ is) in
    (subst (λ l. is_there leaves inner (node_of l) ≡ true) same.0 first, subst (λ l. is_there leaves inner (node_of l) ≡ true) same.1 second)
  where
    and_same : (c d a b : Lit) → And c d ≡ And a b → (c ≡ a) × (d ≡ b)
    and_same c d a b e = (cc, cc)

pub inner_is_and : (rows : List Row) (leaves inner : List ℕ) (n : ℕ) → AreInner rows leaves inner → has_node inner n ≡ true → is_and (row_at rows n) ≡ true
inner_is_and rows leaves inner n are h = let (c, d, row, first, second) = are.join n h in ap is_and row

-- what holds of all nodes of a list
pub all_has : (ds ns : List ℕ) → All (λ n. has_node ds n ≡ true) ns → (m : ℕ) → has_node ns m ≡ true → has_node ds m ≡ true
all_has ds [] all m h = absurd (both_ways false refl h)
all_has ds (n ∷ ns) all m h = elim (or_cases (nat_eq n m) (has_node ns m) h) [
  | inl e ↦ subst (λ k. has_node ds k ≡ true) (same_node n m e) (All-head (λ k. has_node ds k ≡ true) n ns all)
  | inr t ↦ all_has ds ns (All-tail (λ k. has_node ds k ≡ true) n ns all) m t
]

-- two roots that are listed
pub both_listed : (ds : List ℕ) (n k : ℕ) (l m : Lit) → n ≡ node_of l → k ≡ node_of m → (has_node ds (node_of l) ≡ true) × (has_node ds (node_of m) ≡ true) → (i : ℕ) → has_node (n ∷ k ∷ []) i ≡ true → has_node ds i ≡ true
both_listed ds n k l m is_n is_k made i h = elim (or_cases (nat_eq n i) (has_node (k ∷ []) i) h) [
  | inl e ↦ subst (λ j. has_node ds j ≡ true) (sym is_n ∙ same_node n i e) made.0
  | inr t ↦ subst (λ j. has_node ds j ≡ true) (sym is_k ∙ has_one k i t) made.1
]
