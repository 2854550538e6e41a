-- Hashed rows made again in another order: no two nodes become one, so the new pairs are distinct and not trivial.
use Rattle.std.proofs.Common.{◌≡◌, ◌≢◌, ℕ, ◌+◌, ◌-◌, ◌*◌, ◌/◌, ◌%◌, ◌<◌, ◌≤◌, nat_eq, nat_lt, if◌then◌else◌, Bool, true, false, List, [], ◌∷◌, ◌++◌, length, map, set, refl, sym, ap, ◌∙◌, subst, arith, inl, inr, ◌⊎◌, Option, Some, None}
use Rattle.std.proofs.lemmas.List.{get_or-set_same, get_or-set_other, get_or_past, get_or_append_left, get_or_push, length_push}
use Rattle.std.proofs.lemmas.List.Elements.{All-nil, All-cons, All-head, All-tail}
use Rattle.std.proofs.lemmas.Bool.{cases_Bool, cases_eq, cases_lt, cond_both, cond-true, cond-false, ltb-true, lt-ltb, both_ways, eq-eqb, eqb-true, eqb-false}
use Rattle.syn_rows.specs.declared.Lit.{Lit}
use Rattle.syn_rows.specs.declared.Row.{Row}
use Rattle.syn_rows.specs.declared.Row.TheVariants.{Free, Source, And, Alias}
use Rattle.syn_rows.specs.Rows.{node_of, row_at, AllRefs}
use Rattle.syn_rows.specs.Reach.{HasObserved, IsClosed, Reached}
use Rattle.syn_rows.specs.Joining.{lit_of, is_and_of, ordered_and}
use Rattle.syn_rows.proofs.JoinLaws.{pair_cases, same_lit}
use Rattle.syn_hashed.specs.Hashed.{is_gate, IsHashed}
use Rattle.syn_hashed.specs.Growing.{IsAnd, IsJoin}
use Rattle.syn_hashed.specs.Compacting.{CanCompact, IsCompacted}
use Rattle.syn_hashed.specs.Visiting.{visited, with_sign, literal_of, FirstsOf, IsMade, StaysVisited, IsMadeAgain}
use Rattle.syn_hashed.specs.Renumbering.{IsMoved, IsRenumbering}
use Rattle.syn_hashed.specs.Walking.{VisitsReached}
use Rattle.syn_hashed.proofs.Pushing.{hashed_push}
use Rattle.syn_hashed.proofs.Joining.{and_of_turned, made_value}
use Rattle.syn_hashed.proofs.Dropped.{IsGate, gate_parts, gate_from}
use Rattle.syn_hashed.proofs.Looking.{hashed_pairs_once, ordered_is, pair_itself}
use Rattle.syn_hashed.proofs.Visits.{and_made, first_known, made_again, one_less, sign_parts, signed_node, some_of, stays_more, visit_begins, visit_more}

-- the pair of a row

no_free : (a b : Lit) → Free ≡ And a b → ⊥
no_free a b e = cc

no_source : (a b : Lit) → Source ≡ And a b → ⊥
no_source a b e = cc

-- an ordered pair of two nodes
ordered_either : (x y : Lit) → node_of x ≢ node_of y → ((x.0 < y.0) × (ordered_and x y ≡ And x y)) ⊎ ((y.0 < x.0) × (ordered_and x y ≡ And y x))
ordered_either x y apart = elim (cases_Bool (nat_lt x.0 y.0)) [
  | inl t ↦ inl (ltb-true x.0 y.0 t, cond-true (nat_lt x.0 y.0) (And x y) (And y x) t)
  | inr f ↦ elim (cases_lt x.0 y.0) [
    | inl less ↦ absurd (both_ways (nat_lt x.0 y.0) f (lt-ltb x.0 y.0 less))
    | inr ge ↦ elim (cases_eq x.0 y.0) [
      | inl same ↦ absurd (apart (ap (λ (k : ℕ). k / 2) same))
      | inr other ↦ (let less : y.0 < x.0 = omega arith in inr (less, cond-false (nat_lt x.0 y.0) (And x y) (And y x) f))
    ]
  ]
]

ordered_no : (row : Row) (x y : Lit) → ((a b : Lit) → row ≡ And a b → ⊥) → row ≡ ordered_and x y → ⊥
ordered_no row x y other = cond_both (nat_lt x.0 y.0) (And x y) (And y x) (λ r. row ≡ r → ⊥) (λ _ e. other x y e) (λ _ e. other y x e)

-- what holds of the nodes of an ordered pair holds of the two
ordered_nodes : (P : ℕ → Type 0) (x y : Lit) → AllRefs P (ordered_and x y) → P (node_of x) × P (node_of y)
ordered_nodes P x y = cond_both (nat_lt x.0 y.0) (And x y) (And y x) (λ row. AllRefs P row → P (node_of x) × P (node_of y)) (λ _ h. h) (λ _ h. (h.1, h.0))

-- equal rows are of the same two literals
ordered_same : (p q x y : Lit) → ordered_and p q ≡ ordered_and x y → ((p ≡ x) × (q ≡ y)) ⊎ ((p ≡ y) × (q ≡ x))
ordered_same p q x y e = pair_cases p q x y (sym (ordered_is p q x y) ∙ ap (is_and_of p q) (sym e) ∙ ordered_is p q p q ∙ pair_itself p q)

-- two literals of different nodes, none of them the constant, are a gate
ordered_gate : (k : ℕ) (x y : Lit) → 2 ≤ x.0 → 2 ≤ y.0 → node_of x ≢ node_of y → node_of x < k → node_of y < k → is_gate k (ordered_and x y) ≡ true
ordered_gate k x y first second apart low high = elim (ordered_either x y apart) [
  | inl t ↦ ap (is_gate k) t.1 ∙ gate_from k x y (record { above = first; rising = t.0; apart = apart; below = high })
  | inr t ↦ ap (is_gate k) t.1 ∙ gate_from k y x (record { above = second; rising = t.0; apart = λ e. apart (sym e); below = low })
]

-- hashed rows have no aliases, and their ANDs lie behind the sources
pub no_alias : (count : ℕ) (rows : List Row) → IsHashed count rows → (n : ℕ) (a : Lit) → row_at rows n ≡ Alias a → ⊥
no_alias count rows h n a e = elim (cases_lt n (length rows)) [
  | inl inside ↦ elim (cases_lt count n) [
    | inl above ↦ (let gate : is_gate n (Alias a) ≡ true = ap (is_gate n) (sym e) ∙ h.gates n above inside in clash gate)
    | inr low ↦ source_clash (sym (h.front n (omega arith)) ∙ e)
  ]
  | inr past ↦ free_clash (sym (get_or_past rows n Free past) ∙ e)
]
  where
    clash : false ≡ true → ⊥
    clash z = cc

    source_clash : Source ≡ Alias a → ⊥
    source_clash z = cc

    free_clash : Free ≡ Alias a → ⊥
    free_clash z = cc

and_above : (count : ℕ) (rows : List Row) → IsHashed count rows → (n : ℕ) (a b : Lit) → row_at rows n ≡ And a b → count < n
and_above count rows h n a b e = elim (cases_lt count n) [
  | inl above ↦ above
  | inr low ↦ absurd (no_source a b (sym (h.front n (omega arith)) ∙ e))
]

-- literals

-- a plain literal with another's sign
signed_number : (lit l x : Lit) → with_sign lit (Some l) ≡ Some x → l.0 % 2 ≡ 0 → x.0 ≡ l.0 + lit.0 % 2
signed_number lit l x e plain = elim (cases_Bool (nat_eq (lit.0 % 2) 0)) [
  | inl t ↦
      let same : l ≡ x = some_same l x (sym (ap (λ (y : Lit). Some y) (cond-true (nat_eq (lit.0 % 2) 0) l (turned l) t)) ∙ e) in
      let number : l.0 ≡ x.0 = ap (λ (y : Lit). y.0) same in
      let even : lit.0 % 2 ≡ 0 = eqb-true (lit.0 % 2) 0 t in
      omega (arith, number, even)
  | inr f ↦
      let same : turned l ≡ x = some_same (turned l) x (sym (ap (λ (y : Lit). Some y) (cond-false (nat_eq (lit.0 % 2) 0) l (turned l) f)) ∙ e) in
      let number : (turned l).0 ≡ x.0 = ap (λ (y : Lit). y.0) same in
      let up : (turned l).0 ≡ l.0 + 1 = cond-true (nat_eq (l.0 % 2) 0) (l.0 + 1) (l.0 - 1) (eq-eqb (l.0 % 2) 0 plain) in
      let odd : lit.0 % 2 ≢ 0 = eqb-false (lit.0 % 2) 0 f in
      omega (arith, number, up, odd)
]
  where
    turned : Lit → Lit
    turned m = record { 0 = if nat_eq (m.0 % 2) 0 then m.0 + 1 else m.0 - 1 }

    some_same : (y z : Lit) → Some y ≡ Some z → y ≡ z
    some_same y z p = cc

-- what stands for a literal stays
literal_stays : (old new : List (Option Lit)) → StaysVisited old new → (a x : Lit) → literal_of old a ≡ Some x → literal_of new a ≡ Some x
literal_stays old new stays a x e =
    let (l, at, signed) = sign_parts a (visited old (node_of a)) x e in
    ap (with_sign a) (stays (node_of a) l at) ∙ signed

module _ (count : ℕ) (rows : List Row) (literals : List (Option Lit)) (new : List Row) (r : IsRenumbering count rows literals new) where
  -- no two nodes become one
  node_alone : (a c x y : Lit) → literal_of literals a ≡ Some x → literal_of literals c ≡ Some y → node_of x ≡ node_of y → node_of a ≡ node_of c
  node_alone a c x y ea ec same =
      let (k, first, one) = sign_parts a (visited literals (node_of a)) x ea in
      let (l, second, two) = sign_parts c (visited literals (node_of c)) y ec in
      r.alone (node_of a) (node_of c) k l first second (sym (signed_node a k x one) ∙ same ∙ signed_node c l y two)

  -- and no two literals
  literal_alone : (a c x : Lit) → literal_of literals a ≡ Some x → literal_of literals c ≡ Some x → a ≡ c
  literal_alone a c x ea ec =
      let (k, first, one) = sign_parts a (visited literals (node_of a)) x ea in
      let (l, second, two) = sign_parts c (visited literals (node_of c)) x ec in
      let even_k : k.0 ≡ 2 * node_of k = r.plain (node_of a) k first in
      let even_l : l.0 ≡ 2 * node_of l = r.plain (node_of c) l second in
      let number_a : x.0 ≡ k.0 + a.0 % 2 = signed_number a k x one (omega (arith, even_k)) in
      let number_c : x.0 ≡ l.0 + c.0 % 2 = signed_number c l x two (omega (arith, even_l)) in
      let nodes : node_of a ≡ node_of c = node_alone a c x x ea ec refl in
      same_lit a c (omega (arith, even_k, even_l, number_a, number_c, nodes))

  -- the constant stays alone
  above_constant : (a x : Lit) → 2 ≤ a.0 → literal_of literals a ≡ Some x → 2 ≤ x.0
  above_constant a x above e =
      let (l, at, signed) = sign_parts a (visited literals (node_of a)) x e in
      elim (cases_lt x.0 2) [
        | inl low ↦
            let node : node_of x ≡ 0 = omega arith in
            let same : node_of a ≡ 0 = r.alone (node_of a) 0 l (record { 0 = 0 }) at (r.visit.front 0 (omega arith)) (sym (signed_node a l x signed) ∙ node) in
            absurd (omega (arith, same))
        | inr high ↦ high
      ]

  there_now : (a x : Lit) → literal_of literals a ≡ Some x → node_of x < length new
  there_now a x e =
      let (l, at, signed) = sign_parts a (visited literals (node_of a)) x e in
      let inside = r.visit.there (node_of a) l at in
      omega (arith, inside, signed_node a l x signed)

  module _ (n : ℕ) (a b x y : Lit) (is : row_at rows n ≡ And a b) (fa : literal_of literals a ≡ Some x) (fb : literal_of literals b ≡ Some y) (none : visited literals n ≡ None) (inside : n < length rows) where
    gate : IsGate n a b
    gate = gate_parts n a b (ap (is_gate n) (sym is) ∙ r.old.gates n (and_above count rows r.old n a b is) inside)

    apart : node_of x ≢ node_of y
    apart e = gate.apart (node_alone a b x y fa fb e)

    -- the new pair is not trivial
    new_gate : is_gate (length new) (ordered_and x y) ≡ true
    new_gate = ordered_gate (length new) x y (above_constant a x gate.above fa) (above_constant b y (omega (arith, gate.above, gate.rising)) fb) apart (there_now a x fa) (there_now b y fb)

    -- and isn't there yet
    new_pair : (m : ℕ) → row_at new m ≡ ordered_and x y → ⊥
    new_pair m e = elim (cases_lt m (length new)) [
      | inr past ↦ ordered_no Free x y no_free (sym (get_or_past new m Free past) ∙ e)
      | inl within ↦ elim (cases_lt count m) [
        | inr low ↦ ordered_no Source x y no_source (sym (r.hashed.front m (omega arith)) ∙ e)
        | inl above ↦ taken (r.from m above within)
      ]
    ]
      where
        clash : (l : Lit) → Some l ≡ None → ⊥
        clash l z = cc

        taken : (k : ℕ) × (count < k) × (visited literals k ≡ Some (lit_of m)) → ⊥
        taken (k, above, at) =
            let moved = r.moved k (lit_of m) above at in
            let node : node_of (lit_of m) ≡ m = omega arith in
            let once = hashed_pairs_once count rows r.old in
            elim (ordered_same moved.x moved.y x y (sym moved.row ∙ ap (row_at new) node ∙ e)) [
              | inl t ↦
                  let first : moved.a ≡ a = literal_alone moved.a a x (moved.first ∙ ap (λ (z : Lit). Some z) t.0) fa in
                  let second : moved.b ≡ b = literal_alone moved.b b y (moved.second ∙ ap (λ (z : Lit). Some z) t.1) fb in
                  let row : row_at rows k ≡ And a b = moved.is ∙ ap (λ z. And z moved.b) first ∙ ap (And a) second in
                  clash (lit_of m) (sym at ∙ ap (visited literals) (once.once k n a b row is) ∙ none)
              | inr t ↦
                  let first : moved.a ≡ b = literal_alone moved.a b y (moved.first ∙ ap (λ (z : Lit). Some z) t.0) fb in
                  let second : moved.b ≡ a = literal_alone moved.b a x (moved.second ∙ ap (λ (z : Lit). Some z) t.1) fa in
                  let up : moved.a.0 < moved.b.0 = once.ordered k moved.a moved.b moved.is in
                  let down : a.0 < b.0 = gate.rising in
                  omega (arith, up, down, ap (λ (z : Lit). z.0) first, ap (λ (z : Lit). z.0) second)
            ]

    module _ (more : List Row) (l : Lit) (made : more ≡ new ++ ordered_and x y ∷ []) (at : l.0 ≡ 2 * length new) where
      place : node_of l ≡ length new
      place = omega (arith, at)

      more_hashed : IsHashed count more
      more_hashed = subst (IsHashed count) (sym made) (hashed_push count new (ordered_and x y) r.hashed new_gate new_pair)

      long : length more ≡ length new + 1
      long = ap length made ∙ length_push new (ordered_and x y)

      row_now : row_at more (node_of l) ≡ ordered_and x y
      row_now = ap (λ (rs : List Row). row_at rs (node_of l)) made ∙ get_or_push new (ordered_and x y) Free (node_of l) (sym place)

      row_was : (k : ℕ) → k < length new → row_at more k ≡ row_at new k
      row_was k lt = ap (λ (rs : List Row). row_at rs k) made ∙ get_or_append_left new (ordered_and x y ∷ []) Free k lt

      value : IsAnd new x y more l
      value = elim (ordered_either x y apart) [
        | inl t ↦ made_value count new more x y l more_hashed (ap (is_gate (length new)) (sym t.1) ∙ new_gate) (made ∙ ap (λ (row : Row). new ++ row ∷ []) t.1) at
        | inr t ↦ and_of_turned new more x y l (made_value count new more y x l more_hashed (ap (is_gate (length new)) (sym t.1) ∙ new_gate) (made ∙ ap (λ (row : Row). new ++ row ∷ []) t.1) at)
      ]

      join : IsJoin more x y l
      join = elim (ordered_either x y apart) [
        | inl t ↦ inr (inr (inr (inl (row_now ∙ t.1))))
        | inr t ↦ inr (inr (inr (inr (row_now ∙ t.1))))
      ]

      is_made : IsMade count rows n new more l
      is_made = and_made count rows literals new more n a b x y l r.visit more_hashed is fa fb (record { more = ordered_and x y ∷ []; is = made }) (omega (arith, long)) (omega (arith, long, place)) value join

      abbrev pub now : List (Option Lit)
      now = set literals n (Some l)

      stays : StaysVisited literals now
      stays = stays_more literals n l none

      here : visited now n ≡ Some l
      here = get_or-set_same literals n (Some l) None (omega (arith, r.visit.all, inside))

      some_same : (p q : Lit) → Some p ≡ Some q → p ≡ q
      some_same p q h = cc

      -- what is visited now is the node, or was visited
      which : (m : ℕ) (k : Lit) → visited now m ≡ Some k → ((m ≡ n) × (k ≡ l)) ⊎ (visited literals m ≡ Some k)
      which m k e = elim (cases_eq m n) [
        | inl same ↦ inl (same, some_same k l (sym e ∙ ap (visited now) same ∙ here))
        | inr other ↦ inr (sym (get_or-set_other literals n m (Some l) None other) ∙ e)
      ]

      below : (m : ℕ) (k : Lit) → visited literals m ≡ Some k → node_of k ≢ node_of l
      below m k e same = let inside_new = r.visit.there m k e in omega (arith, inside_new, same, place)

      still_moved : (m : ℕ) (k : Lit) → visited literals m ≡ Some k → IsMoved rows literals new m k → IsMoved rows now more m k
      still_moved m k e t = record {
        a = t.a;
        b = t.b;
        x = t.x;
        y = t.y;
        is = t.is;
        first = literal_stays literals now stays t.a t.x t.first;
        second = literal_stays literals now stays t.b t.y t.second;
        row = row_was (node_of k) (r.visit.there m k e) ∙ t.row;
      }

      now_moved : IsMoved rows now more n l
      now_moved = record { a = a; b = b; x = x; y = y; is = is; first = literal_stays literals now stays a x fa; second = literal_stays literals now stays b y fb; row = row_now }

      -- one more node is renumbered
      pub renumbered_more : IsRenumbering count rows now more
      renumbered_more = record {
        old = r.old;
        hashed = more_hashed;
        visit = visit_more count rows literals new more n l r.visit inside none is_made;
        plain = λ m k e. elim (which m k e) [
          | inl t ↦ (let number : k.0 ≡ l.0 = ap (λ (z : Lit). z.0) t.1 in omega (arith, number, at))
          | inr old ↦ r.plain m k old
        ];
        alone = λ i j p q ei ej same. elim (which i p ei) [
          | inl t ↦ elim (which j q ej) [
            | inl u ↦ t.0 ∙ sym u.0
            | inr old ↦ absurd (below j q old (sym same ∙ ap node_of t.1))
          ]
          | inr old ↦ elim (which j q ej) [
            | inl u ↦ absurd (below i p old (same ∙ ap node_of u.1))
            | inr also ↦ r.alone i j p q old also same
          ]
        ];
        moved = λ m k above e. elim (which m k e) [
          | inl t ↦ subst (λ (z : Lit). IsMoved rows now more m z) (sym t.1) (subst (λ (i : ℕ). IsMoved rows now more i l) (sym t.0) now_moved)
          | inr old ↦ still_moved m k old (r.moved m k above old)
        ];
        from = λ k above lt. elim (cases_lt k (length new)) [
          | inl was ↦ (let (m, behind, e) = r.from k above was in (m, behind, stays m (lit_of k) e))
          | inr ge ↦ (let end : k ≡ length new = omega (arith, long) in (n, and_above count rows r.old n a b is, here ∙ ap (λ (z : Lit). Some z) (same_lit l (lit_of k) (omega (arith, at, end)))))
        ];
      }

  -- each new AND is reached, where the visited nodes were
  pub all_reached : (lits found : List Lit) → VisitsReached count rows lits literals → map (λ l. Some l) found ≡ map (literal_of literals) lits
      → (k : ℕ) → count < k → k < length new → Reached new found k
  all_reached lits found reaches e k above lt test closed has =
      let (n, behind, at) = r.from k above lt in
      let node : node_of (lit_of k) ≡ k = omega arith in
      sym (ap test node) ∙ (sym (ap of_new at) ∙ reaches n behind (some_of (visited literals n) (lit_of k) at) old old_closed (observed found lits e has))
    where
      of_new : Option Lit → Bool
      of_new None = false
      of_new (Some l) = test (node_of l)

      old : ℕ → Bool
      old m = of_new (visited literals m)

      old_of : (a x : Lit) → literal_of literals a ≡ Some x → test (node_of x) ≡ true → old (node_of a) ≡ true
      old_of a x ea t =
          let (l, at, signed) = sign_parts a (visited literals (node_of a)) x ea in
          ap of_new at ∙ sym (ap test (signed_node a l x signed)) ∙ t

      observed : (fs ls : List Lit) → map (λ l. Some l) fs ≡ map (literal_of literals) ls → HasObserved fs test → HasObserved ls old
      observed fs [] h all = All-nil (λ (l : Lit). old (node_of l) ≡ true)
      observed [] (l ∷ ls) h all = absurd (cc)
      observed (f ∷ fs) (l ∷ ls) h all =
          let parts = one_less (Some f) (map (λ (z : Lit). Some z) fs) (literal_of literals l) (map (literal_of literals) ls) h in
          All-cons (λ (z : Lit). old (node_of z) ≡ true) l ls (old_of l f (sym parts.0) (All-head (λ (z : Lit). test (node_of z) ≡ true) f fs all)) (observed fs ls parts.1 (All-tail (λ (z : Lit). test (node_of z) ≡ true) f fs all))

      of_visited : (m : ℕ) (o : Option Lit) → visited literals m ≡ o → of_new o ≡ true → AllRefs (λ j. old j ≡ true) (row_at rows m)
      of_visited m None h t = absurd (both_ways false refl t)
      of_visited m (Some l) h t = elim (cases_lt count m) [
        | inr low ↦ subst (AllRefs (λ j. old j ≡ true)) (sym (r.old.front m (omega arith))) tt
        | inl behind ↦
            let moved = r.moved m l behind h in
            let refs = ordered_nodes (λ j. test j ≡ true) moved.x moved.y (subst (AllRefs (λ j. test j ≡ true)) moved.row (closed (node_of l) t)) in
            subst (AllRefs (λ j. old j ≡ true)) (sym moved.is) (old_of moved.a moved.x moved.first refs.0, old_of moved.b moved.y moved.second refs.1)
      ]

      old_closed : IsClosed rows old
      old_closed m t = of_visited m (visited literals m) refl t

  -- what the walk gives at its end
  pub renumbered : (lits found : List Lit) → CanCompact count rows lits → VisitsReached count rows lits literals → map (λ l. Some l) found ≡ map (literal_of literals) lits → IsCompacted count rows lits new found
  renumbered lits found can reaches e = record {
    hashed = again.hashed;
    same_count = again.same_count;
    within = again.within;
    reached = all_reached lits found reaches e;
    fewer = again.fewer;
    ands = again.ands;
    same_values = again.same_values;
    levels = again.levels;
    sources_stay = again.sources_stay;
  }
    where
      again : IsMadeAgain count rows lits new found
      again = made_again count rows lits literals new found can r.hashed r.visit reaches e

-- node 0 and the sources alone
pub renumbering_begins : (count : ℕ) (rows : List Row) (literals : List (Option Lit)) (new : List Row) → IsHashed count rows → IsHashed count new → length new ≡ count + 1 → FirstsOf count (length rows) literals → IsRenumbering count rows literals new
renumbering_begins count rows literals new old hashed size firsts = record {
  old = old;
  hashed = hashed;
  visit = visit_begins count rows literals new old.there hashed size firsts;
  plain = λ n l e. (let at = first_known count (length rows) literals firsts n l e in omega (arith, at.1));
  alone = λ m n k l em en same.
      let first = first_known count (length rows) literals firsts m k em in
      let second = first_known count (length rows) literals firsts n l en in
      omega (arith, first.1, second.1, same);
  moved = λ n l above e. (let at = first_known count (length rows) literals firsts n l e in absurd (omega (arith, at.0, above)));
  from = λ k above lt. absurd (omega (arith, size, above, lt));
}
