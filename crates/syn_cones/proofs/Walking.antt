-- The walk from a root down to the leaves of a cut.
use Rattle.std.proofs.Common.{◌≡◌, ℕ, zero, suc, ◌<◌, ◌≤◌, nat_lt, nat_eq, Bool, true, false, if◌then◌else◌, List, [], ◌∷◌, ◌++◌, append_assoc, get_or, length, reverse, refl, sym, ap, ◌∙◌, subst, inl, inr, ◌⊎◌, arith}
use Rattle.std.specs.List.{list_any, list_all}
use Rattle.std.proofs.lemmas.Bool.{and_parts, and_from, or_cases, or_left, both_ways, ltb-true, lt-ltb}
use Rattle.std.proofs.lemmas.Bool.Decides.{nat_tests}
use Rattle.std.proofs.lemmas.List.{reverse-append}
use Rattle.std.proofs.lemmas.List.Folds.{list_all-append}
use Rattle.syn_rows.specs.declared.Row.{Row}
use Rattle.syn_rows.specs.declared.Row.TheVariants.{Free, Source, And, Alias}
use Rattle.syn_rows.proofs.Nodes.{same_node, has_here, has_there, has_cases, has_left, has_right, has_one}
use Rattle.syn_rows.specs.Rows.{row_at, refs_of, node_of, AllRefs, InOrder}
use Rattle.syn_rows.specs.Nodes.{has_node}
use Rattle.syn_cones.specs.Cones.{refs_at, Refers, LeadsTo, IsCut}
use Rattle.syn_cones.specs.Walk.{put_node, put_nodes, inner_refs, has_all, is_closed, rises, top, IsConeWalk}

-- a node put among others

pub put_has : (m n : ℕ) (ms : List ℕ) → has_node (put_node m ms) n ≡ true → (m ≡ n) ⊎ (has_node ms n ≡ true)
put_has m n [] h = inl (has_one m n h)
put_has m n (x ∷ xs) h = go (nat_lt m x) (nat_eq m x) h (put_has m n xs)
  where
    go : (a b : Bool) → has_node (if a then m ∷ x ∷ xs else if b then x ∷ xs else x ∷ put_node m xs) n ≡ true → (has_node (put_node m xs) n ≡ true → (m ≡ n) ⊎ (has_node xs n ≡ true)) → (m ≡ n) ⊎ (has_node (x ∷ xs) n ≡ true)
    go true b h ih = elim (or_cases (nat_eq m n) (has_node (x ∷ xs) n) h) [ inl e ↦ inl (same_node m n e) | inr t ↦ inr t ]
    go false true h ih = inr h
    go false false h ih = elim (or_cases (nat_eq x n) (has_node (put_node m xs) n) h) [
      | inl e ↦ inr (or_left (nat_eq x n) (has_node xs n) e)
      | inr t ↦ elim (ih t) [ inl e ↦ inl e | inr r ↦ inr (has_there x n xs r) ]
    ]

pub put_new : (m : ℕ) (ms : List ℕ) → has_node (put_node m ms) m ≡ true
put_new m [] = has_here m []
put_new m (x ∷ xs) = go (nat_lt m x) (nat_eq m x) refl (put_new m xs)
  where
    go : (a b : Bool) → nat_eq m x ≡ b → has_node (put_node m xs) m ≡ true → has_node (if a then m ∷ x ∷ xs else if b then x ∷ xs else x ∷ put_node m xs) m ≡ true
    go true b e ih = has_here m (x ∷ xs)
    go false true e ih = subst (λ k. has_node (x ∷ xs) k ≡ true) (sym (same_node m x e)) (has_here x xs)
    go false false e ih = has_there x m (put_node m xs) ih

pub put_old : (m n : ℕ) (ms : List ℕ) → has_node ms n ≡ true → has_node (put_node m ms) n ≡ true
put_old m n [] h = absurd (both_ways false refl h)
put_old m n (x ∷ xs) h = go (nat_lt m x) (nat_eq m x) (put_old m n xs)
  where
    go : (a b : Bool) → (has_node xs n ≡ true → has_node (put_node m xs) n ≡ true) → has_node (if a then m ∷ x ∷ xs else if b then x ∷ xs else x ∷ put_node m xs) n ≡ true
    go true b ih = has_there m n (x ∷ xs) h
    go false true ih = h
    go false false ih = elim (or_cases (nat_eq x n) (has_node xs n) h) [
      | inl e ↦ or_left (nat_eq x n) (has_node (put_node m xs) n) e
      | inr t ↦ has_there x n (put_node m xs) (ih t)
    ]

pub puts_has : (ns : List ℕ) (n : ℕ) (ms : List ℕ) → has_node (put_nodes ns ms) n ≡ true → (has_node ns n ≡ true) ⊎ (has_node ms n ≡ true)
puts_has [] n ms h = inr h
puts_has (x ∷ xs) n ms h = elim (puts_has xs n (put_node x ms) h) [
  | inl t ↦ inl (has_there x n xs t)
  | inr r ↦ elim (put_has x n ms r) [
    | inl e ↦ inl (subst (λ k. has_node (x ∷ xs) k ≡ true) e (has_here x xs))
    | inr o ↦ inr o
  ]
]

pub puts_old : (ns : List ℕ) (n : ℕ) (ms : List ℕ) → has_node ms n ≡ true → has_node (put_nodes ns ms) n ≡ true
puts_old [] n ms h = h
puts_old (x ∷ xs) n ms h = puts_old xs n (put_node x ms) (put_old x n ms h)

puts_new : (ns : List ℕ) (ms : List ℕ) → has_all (put_nodes ns ms) ns ≡ true
puts_new [] ms = refl
puts_new (x ∷ xs) ms = and_from (has_node (put_nodes xs (put_node x ms)) x) (has_all (put_nodes xs (put_node x ms)) xs) (puts_old xs x (put_node x ms) (put_new x ms)) (puts_new xs (put_node x ms))

pub all_weaker : (xs ys ms : List ℕ) → ((n : ℕ) → has_node xs n ≡ true → has_node ys n ≡ true) → has_all xs ms ≡ true → has_all ys ms ≡ true
all_weaker xs ys [] f h = refl
all_weaker xs ys (m ∷ ms) f h =
    let parts = and_parts (has_node xs m) (has_all xs ms) h in
    and_from (has_node ys m) (has_all ys ms) (f m parts.0) (all_weaker xs ys ms f parts.1)

pub all_has : (xs ms : List ℕ) (n : ℕ) → has_all xs ms ≡ true → has_node ms n ≡ true → has_node xs n ≡ true
all_has xs [] n h k = absurd (both_ways false refl k)
all_has xs (m ∷ ms) n h k =
    let parts = and_parts (has_node xs m) (has_all xs ms) h in
    elim (or_cases (nat_eq m n) (has_node ms n) k) [
      | inl e ↦ subst (λ i. has_node xs i ≡ true) (same_node m n e) parts.0
      | inr t ↦ all_has xs ms n parts.1 t
    ]

-- the last that waits is done, and what it refers to waits
pub closed_done : (rows : List Row) (leaves done front : List ℕ) (n : ℕ) → is_closed rows leaves done (front ++ n ∷ []) ≡ true
    → is_closed rows leaves (done ++ n ∷ []) (put_nodes (inner_refs rows leaves n) front) ≡ true
closed_done rows leaves [] front n h = and_from (has_all (put_nodes (inner_refs rows leaves n) front) (inner_refs rows leaves n)) true (puts_new (inner_refs rows leaves n) front) refl
closed_done rows leaves (x ∷ xs) front n h =
    let refs = inner_refs rows leaves x in
    let now = put_nodes (inner_refs rows leaves n) front in
    let parts = and_parts (has_all (xs ++ (front ++ n ∷ [])) refs) (is_closed rows leaves xs (front ++ n ∷ [])) h in
    and_from (has_all ((xs ++ n ∷ []) ++ now) refs) (is_closed rows leaves (xs ++ n ∷ []) now)
    (all_weaker (xs ++ (front ++ n ∷ [])) ((xs ++ n ∷ []) ++ now) refs (λ k t. elim (has_cases xs (front ++ n ∷ []) k t) [
      | inl a ↦ has_left (xs ++ n ∷ []) now k (has_left xs (n ∷ []) k a)
      | inr b ↦ elim (has_cases front (n ∷ []) k b) [
        | inl a ↦ has_right (xs ++ n ∷ []) now k (puts_old (inner_refs rows leaves n) k front a)
        | inr o ↦ has_left (xs ++ n ∷ []) now k (has_right xs (n ∷ []) k o)
      ]
    ]) parts.0)
    (closed_done rows leaves xs front n parts.1)

-- the last that is done becomes one of the others
pub closed_found : (rows : List Row) (leaves front others : List ℕ) (n : ℕ) → is_closed rows leaves (front ++ n ∷ []) others ≡ true
    → (is_closed rows leaves front (others ++ n ∷ []) ≡ true) × (has_all others (inner_refs rows leaves n) ≡ true)
closed_found rows leaves [] others n h = (refl, (and_parts (has_all others (inner_refs rows leaves n)) true h).0)
closed_found rows leaves (x ∷ xs) others n h =
    let refs = inner_refs rows leaves x in
    let parts = and_parts (has_all ((xs ++ n ∷ []) ++ others) refs) (is_closed rows leaves (xs ++ n ∷ []) others) h in
    let rest = closed_found rows leaves xs others n parts.1 in (
      and_from (has_all (xs ++ (others ++ n ∷ [])) refs) (is_closed rows leaves xs (others ++ n ∷ []))
          (all_weaker ((xs ++ n ∷ []) ++ others) (xs ++ (others ++ n ∷ [])) refs (λ k t. elim (has_cases (xs ++ n ∷ []) others k t) [
            | inl a ↦ elim (has_cases xs (n ∷ []) k a) [
              | inl b ↦ has_left xs (others ++ n ∷ []) k b
              | inr o ↦ has_right xs (others ++ n ∷ []) k (has_right others (n ∷ []) k o)
            ]
            | inr b ↦ has_right xs (others ++ n ∷ []) k (has_left others (n ∷ []) k b)
          ]) parts.0) rest.0,
      rest.1,
    )

-- paths

pub led_more : (rows : List Row) (leaves : List ℕ) (root : ℕ) (path : List ℕ) (n m : ℕ) → LeadsTo rows leaves root path n → has_node leaves n ≡ false → Refers rows n m → (way : List ℕ) × LeadsTo rows leaves root way m
led_more rows leaves root [] n m led f r = (m ∷ [], (subst (λ k. has_node leaves k ≡ false) (sym led) f, subst (λ k. Refers rows k m) (sym led) r, refl))
led_more rows leaves root (next ∷ path) n m led f r = let rest = led_more rows leaves next path n m led.2 f r in (next ∷ rest.0, (led.0, led.1, rest.1))

-- a node that is led to from a root with a cut has the same cut
pub cut_led : (rows : List Row) (leaves : List ℕ) (root : ℕ) (path : List ℕ) (n : ℕ) → IsCut rows leaves root → LeadsTo rows leaves root path n → IsCut rows leaves n
cut_led rows leaves root [] n cut led = subst (IsCut rows leaves) led cut
cut_led rows leaves root (next ∷ path) n cut led =
    cut_led rows leaves next path n (λ way source. elim (or_cases (has_node leaves root) (list_any (has_node leaves) (next ∷ way)) (cut (next ∷ way) (led.1, source))) [
      | inl h ↦ absurd (both_ways (has_node leaves root) led.0 h)
      | inr h ↦ h
    ]) led.2

-- a node that refers to another does so by its row
pub refers_row : (rows : List Row) (n m : ℕ) → Refers rows n m → has_node (refs_of (row_at rows n)) m ≡ true
refers_row rows zero m r = absurd (both_ways false refl r)
refers_row rows (suc n) m r = r

refs_less : (rows : List Row) (n m : ℕ) → InOrder rows → Refers rows n m → m < n
refs_less rows n m order r = go (row_at rows n) (order n) (refers_row rows n m r)
  where
    go : (row : Row) → AllRefs (λ k. k < n) row → has_node (refs_of row) m ≡ true → m < n
    go Free h r = absurd (both_ways false refl r)
    go Source h r = absurd (both_ways false refl r)
    go (And a b) h r = elim (or_cases (nat_eq (node_of a) m) (has_node (node_of b ∷ []) m) r) [
      | inl e ↦ subst (λ k. k < n) (same_node (node_of a) m e) h.0
      | inr t ↦ subst (λ k. k < n) (has_one (node_of b) m t) h.1
    ]
    go (Alias a) h r = subst (λ k. k < n) (has_one (node_of a) m r) h

pub led_below : (rows : List Row) (leaves : List ℕ) (root : ℕ) (path : List ℕ) (n : ℕ) → InOrder rows → LeadsTo rows leaves root path n → n ≤ root
led_below rows leaves root [] n order led = omega (arith, led)
led_below rows leaves root (next ∷ path) n order led =
    let less = refs_less rows root next order led.1 in
    let rest = led_below rows leaves next path n order led.2 in
    omega (arith, less, rest)

inner_less : (rows : List Row) (leaves : List ℕ) (n m : ℕ) → InOrder rows → has_node (inner_refs rows leaves n) m ≡ true → (has_node leaves n ≡ false) × Refers rows n m
inner_less rows leaves n m order h = go (has_node leaves n) refl h
  where
    go : (b : Bool) → has_node leaves n ≡ b → has_node (if b then [] else refs_at rows n) m ≡ true → (has_node leaves n ≡ false) × Refers rows n m
    go true e h = absurd (both_ways false refl h)
    go false e h = (e, h)

-- one step of the walk
pub walk_on : (rows : List Row) (leaves : List ℕ) (root : ℕ) (done front : List ℕ) (n : ℕ) → InOrder rows → IsConeWalk rows leaves root done (front ++ n ∷ [])
    → IsConeWalk rows leaves root (done ++ n ∷ []) (put_nodes (inner_refs rows leaves n) front)
walk_on rows leaves root done front n order w =
    let refs = inner_refs rows leaves n in
    let now = put_nodes refs front in
    record {
      there = onward root w.there;
      led = λ k h. elim (has_cases (done ++ n ∷ []) now k h) [
        | inl a ↦ w.led k (back k a)
        | inr b ↦ elim (puts_has refs k front b) [
          | inl r ↦
              let at = inner_less rows leaves n k order r in
              let here = w.led n (has_right done (front ++ n ∷ []) n (has_right front (n ∷ []) n (has_here n []))) in
              led_more rows leaves root here.0 n k here.1 at.0 at.1
          | inr o ↦ w.led k (has_right done (front ++ n ∷ []) k (has_left front (n ∷ []) k o))
        ]
      ];
      closed = closed_done rows leaves done front n w.closed;
    }
  where
    onward : (k : ℕ) → has_node (done ++ (front ++ n ∷ [])) k ≡ true → has_node ((done ++ n ∷ []) ++ put_nodes (inner_refs rows leaves n) front) k ≡ true
    onward k h = elim (has_cases done (front ++ n ∷ []) k h) [
      | inl a ↦ has_left (done ++ n ∷ []) (put_nodes (inner_refs rows leaves n) front) k (has_left done (n ∷ []) k a)
      | inr b ↦ elim (has_cases front (n ∷ []) k b) [
        | inl a ↦ has_right (done ++ n ∷ []) (put_nodes (inner_refs rows leaves n) front) k (puts_old (inner_refs rows leaves n) k front a)
        | inr o ↦ has_left (done ++ n ∷ []) (put_nodes (inner_refs rows leaves n) front) k (has_right done (n ∷ []) k o)
      ]
    ]

    back : (k : ℕ) → has_node (done ++ n ∷ []) k ≡ true → has_node (done ++ (front ++ n ∷ [])) k ≡ true
    back k h = elim (has_cases done (n ∷ []) k h) [
      | inl a ↦ has_left done (front ++ n ∷ []) k a
      | inr o ↦ has_right done (front ++ n ∷ []) k (has_right front (n ∷ []) k o)
    ]

-- the last falls

all_less : (n : ℕ) (front : List ℕ) → rises (front ++ n ∷ []) ≡ true → list_all (λ m. nat_lt m n) front ≡ true
all_less n [] h = refl
all_less n (x ∷ xs) h =
    let parts = and_parts (list_all (nat_lt x) (xs ++ n ∷ [])) (rises (xs ++ n ∷ [])) h in
    and_from (nat_lt x n) (list_all (λ m. nat_lt m n) xs) (last (nat_lt x) xs parts.0) (all_less n xs parts.1)
  where
    last : (p : ℕ → Bool) (ys : List ℕ) → list_all p (ys ++ n ∷ []) ≡ true → p n ≡ true
    last p [] h = (and_parts (p n) true h).0
    last p (y ∷ ys) h = last p ys (and_parts (p y) (list_all p (ys ++ n ∷ [])) h).1

-- the first of rising nodes rise, and those from one on
pub rises_first : (xs ys : List ℕ) → rises (xs ++ ys) ≡ true → rises xs ≡ true
rises_first [] ys h = refl
rises_first (x ∷ xs) ys h =
    let parts = and_parts (list_all (nat_lt x) (xs ++ ys)) (rises (xs ++ ys)) h in
    and_from (list_all (nat_lt x) xs) (rises xs) (and_parts (list_all (nat_lt x) xs) (list_all (nat_lt x) ys) (sym (list_all-append (nat_lt x) xs ys) ∙ parts.0)).0 (rises_first xs ys parts.1)

rises_from : (front rest : List ℕ) (n : ℕ) → rises ((front ++ n ∷ []) ++ rest) ≡ true → rises (n ∷ rest) ≡ true
rises_from [] rest n h = h
rises_from (x ∷ xs) rest n h = rises_from xs rest n (and_parts (list_all (nat_lt x) ((xs ++ n ∷ []) ++ rest)) (rises ((xs ++ n ∷ []) ++ rest)) h).1

all_put : (p : ℕ → Bool) (m : ℕ) (xs : List ℕ) → p m ≡ true → list_all p xs ≡ true → list_all p (put_node m xs) ≡ true
all_put p m [] h a = and_from (p m) true h refl
all_put p m (x ∷ xs) h a = let parts = and_parts (p x) (list_all p xs) a in go (nat_lt m x) (nat_eq m x) (all_put p m xs h) parts.0 parts.1
  where
    go : (b e : Bool) → (list_all p xs ≡ true → list_all p (put_node m xs) ≡ true) → p x ≡ true → list_all p xs ≡ true → list_all p (if b then m ∷ x ∷ xs else if e then x ∷ xs else x ∷ put_node m xs) ≡ true
    go true e ih f g = and_from (p m) (list_all p (x ∷ xs)) h (and_from (p x) (list_all p xs) f g)
    go false true ih f g = and_from (p x) (list_all p xs) f g
    go false false ih f g = and_from (p x) (list_all p (put_node m xs)) f (ih g)

lt_trans : (a b : ℕ) (xs : List ℕ) → nat_lt a b ≡ true → list_all (nat_lt b) xs ≡ true → list_all (nat_lt a) xs ≡ true
lt_trans a b [] h all = refl
lt_trans a b (x ∷ xs) h all =
    let parts = and_parts (nat_lt b x) (list_all (nat_lt b) xs) all in
    let ab = ltb-true a b h in
    let bx = ltb-true b x parts.0 in
    and_from (nat_lt a x) (list_all (nat_lt a) xs) (lt-ltb a x (omega arith)) (lt_trans a b xs h parts.1)

rises_put : (m : ℕ) (xs : List ℕ) → rises xs ≡ true → rises (put_node m xs) ≡ true
rises_put m [] h = refl
rises_put m (x ∷ xs) h = go (nat_lt m x) refl (nat_eq m x) refl (rises_put m xs)
  where
    parts : (list_all (nat_lt x) xs ≡ true) × (rises xs ≡ true)
    parts = and_parts (list_all (nat_lt x) xs) (rises xs) h

    go : (b : Bool) → nat_lt m x ≡ b → (e : Bool) → nat_eq m x ≡ e → (rises xs ≡ true → rises (put_node m xs) ≡ true) → rises (if b then m ∷ x ∷ xs else if e then x ∷ xs else x ∷ put_node m xs) ≡ true
    go true b e q ih = and_from (list_all (nat_lt m) (x ∷ xs)) (rises (x ∷ xs)) (and_from (nat_lt m x) (list_all (nat_lt m) xs) b (lt_trans m x xs b parts.0)) h
    go false b true q ih = h
    go false b false q ih =
        let less : x < m = grind (arith, nat_tests) in
        and_from (list_all (nat_lt x) (put_node m xs)) (rises (put_node m xs)) (all_put (nat_lt x) m xs (lt-ltb x m less) parts.0) (ih parts.1)

pub rises_puts : (ns xs : List ℕ) → rises xs ≡ true → rises (put_nodes ns xs) ≡ true
rises_puts [] xs h = h
rises_puts (n ∷ ns) xs h = rises_puts ns (put_node n xs) (rises_put n xs h)

all_puts : (p : ℕ → Bool) (ns xs : List ℕ) → list_all p ns ≡ true → list_all p xs ≡ true → list_all p (put_nodes ns xs) ≡ true
all_puts p [] xs h a = a
all_puts p (n ∷ ns) xs h a = let parts = and_parts (p n) (list_all p ns) h in all_puts p ns (put_node n xs) parts.1 (all_put p n xs parts.0 a)

top_of : (n : ℕ) (xs : List ℕ) → list_all (λ m. nat_lt m n) xs ≡ true → top xs ≤ n
top_of n [] h = omega arith
top_of n (x ∷ []) h = let less = ltb-true x n (and_parts (nat_lt x n) true h).0 in omega arith
top_of n (x ∷ y ∷ ys) h = top_of n (y ∷ ys) (and_parts (nat_lt x n) (list_all (λ m. nat_lt m n) (y ∷ ys)) h).1

top_last : (front : List ℕ) (n : ℕ) → top (front ++ n ∷ []) ≡ suc n
top_last [] n = refl
top_last (x ∷ []) n = refl
top_last (x ∷ y ∷ ys) n = top_last (y ∷ ys) n

inner_all : (rows : List Row) (leaves : List ℕ) (n : ℕ) → InOrder rows → list_all (λ m. nat_lt m n) (inner_refs rows leaves n) ≡ true
inner_all rows leaves n order = each (inner_refs rows leaves n) (λ m h. refs_less rows n m order (inner_less rows leaves n m order h).1)
  where
    each : (ms : List ℕ) → ((m : ℕ) → has_node ms m ≡ true → m < n) → list_all (λ m. nat_lt m n) ms ≡ true
    each [] f = refl
    each (m ∷ ms) f = and_from (nat_lt m n) (list_all (λ k. nat_lt k n) ms) (lt-ltb m n (f m (has_here m ms))) (each ms (λ k h. f k (has_there m k ms h)))

pub top_falls : (rows : List Row) (leaves front : List ℕ) (n : ℕ) → InOrder rows → rises (front ++ n ∷ []) ≡ true → top (put_nodes (inner_refs rows leaves n) front) < top (front ++ n ∷ [])
top_falls rows leaves front n order h =
    let low = top_of n (put_nodes (inner_refs rows leaves n) front) (all_puts (λ m. nat_lt m n) (inner_refs rows leaves n) front (inner_all rows leaves n order) (all_less n front h)) in
    let last = top_last front n in
    omega (arith, low, last)

pub rises_on : (rows : List Row) (leaves front : List ℕ) (n : ℕ) → rises (front ++ n ∷ []) ≡ true → rises (put_nodes (inner_refs rows leaves n) front) ≡ true
rises_on rows leaves front n h = rises_puts (inner_refs rows leaves n) front (rises_first front (n ∷ []) h)

-- rising nodes below the first of others rise with them
rises_join : (xs rest : List ℕ) (n : ℕ) → rises xs ≡ true → list_all (λ m. nat_lt m n) xs ≡ true → rises (n ∷ rest) ≡ true → rises (xs ++ n ∷ rest) ≡ true
rises_join [] rest n h low last = last
rises_join (x ∷ xs) rest n h low last =
    let parts = and_parts (list_all (nat_lt x) xs) (rises xs) h in
    let below = and_parts (nat_lt x n) (list_all (λ m. nat_lt m n) xs) low in
    let above = and_parts (list_all (nat_lt n) rest) (rises rest) last in
    and_from (list_all (nat_lt x) (xs ++ n ∷ rest)) (rises (xs ++ n ∷ rest))
    (list_all-append (nat_lt x) xs (n ∷ rest) ∙ and_from (list_all (nat_lt x) xs) (list_all (nat_lt x) (n ∷ rest)) parts.0 (and_from (nat_lt x n) (list_all (nat_lt x) rest) below.0 (lt_trans x n rest below.0 above.0)))
    (rises_join xs rest n parts.1 below.1 last)

-- the nodes that wait, and behind them those that are done, backwards, go on rising
pub rises_done : (rows : List Row) (leaves done front : List ℕ) (n : ℕ) → InOrder rows → rises ((front ++ n ∷ []) ++ reverse done) ≡ true
    → rises (put_nodes (inner_refs rows leaves n) front ++ reverse (done ++ n ∷ [])) ≡ true
rises_done rows leaves done front n order h =
    let first = rises_first (front ++ n ∷ []) (reverse done) h in
    subst (λ rest. rises (put_nodes (inner_refs rows leaves n) front ++ rest) ≡ true) (sym (reverse-append done (n ∷ [])))
    (rises_join (put_nodes (inner_refs rows leaves n) front) (reverse done) n (rises_on rows leaves front n first)
    (all_puts (λ m. nat_lt m n) (inner_refs rows leaves n) front (inner_all rows leaves n order) (all_less n front first)) (rises_from front (reverse done) n h))

-- the next that is found stands behind those that were
pub rises_found : (nodes front : List ℕ) (n : ℕ) → rises (nodes ++ reverse (front ++ n ∷ [])) ≡ true → rises ((nodes ++ n ∷ []) ++ reverse front) ≡ true
rises_found nodes front n h =
    subst (λ l. rises l ≡ true) (ap (λ rest. nodes ++ rest) (reverse-append front (n ∷ [])) ∙ sym (append_assoc nodes (n ∷ []) (reverse front))) h

-- rising nodes are in order
all_at : (p : ℕ → Bool) (xs : List ℕ) → list_all p xs ≡ true → (i : ℕ) → i < length xs → p (get_or xs i 0) ≡ true
all_at p [] h i lt = absurd (omega arith)
all_at p (x ∷ xs) h zero lt = (and_parts (p x) (list_all p xs) h).0
all_at p (x ∷ xs) h (suc i) lt = all_at p xs (and_parts (p x) (list_all p xs) h).1 i (omega arith)

pub rises_at : (xs : List ℕ) → rises xs ≡ true → (i j : ℕ) → i ≤ j → j < length xs → get_or xs i 0 ≤ get_or xs j 0
rises_at [] h i j le lt = absurd (omega arith)
rises_at (x ∷ xs) h zero zero le lt = omega arith
rises_at (x ∷ xs) h zero (suc j) le lt = let above = all_at (nat_lt x) xs (and_parts (list_all (nat_lt x) xs) (rises xs) h).0 j (omega arith) in let less = ltb-true x (get_or xs j 0) above in omega (arith, less)
rises_at (x ∷ xs) h (suc i) zero le lt = absurd (omega arith)
rises_at (x ∷ xs) h (suc i) (suc j) le lt = rises_at xs (and_parts (list_all (nat_lt x) xs) (rises xs) h).1 i j (omega arith) (omega arith)

-- the last that is done is found
pub found_on : (rows : List Row) (leaves : List ℕ) (root : ℕ) (front others : List ℕ) (n : ℕ) → IsConeWalk rows leaves root (front ++ n ∷ []) others → IsConeWalk rows leaves root front (others ++ n ∷ [])
found_on rows leaves root front others n w = record {
  there = onward root w.there;
  led = λ k h. w.led k (back k h);
  closed = (closed_found rows leaves front others n w.closed).0;
}
  where
    onward : (k : ℕ) → has_node ((front ++ n ∷ []) ++ others) k ≡ true → has_node (front ++ (others ++ n ∷ [])) k ≡ true
    onward k h = elim (has_cases (front ++ n ∷ []) others k h) [
      | inl a ↦ elim (has_cases front (n ∷ []) k a) [
        | inl b ↦ has_left front (others ++ n ∷ []) k b
        | inr o ↦ has_right front (others ++ n ∷ []) k (has_right others (n ∷ []) k o)
      ]
      | inr b ↦ has_right front (others ++ n ∷ []) k (has_left others (n ∷ []) k b)
    ]

    back : (k : ℕ) → has_node (front ++ (others ++ n ∷ [])) k ≡ true → has_node ((front ++ n ∷ []) ++ others) k ≡ true
    back k h = elim (has_cases front (others ++ n ∷ []) k h) [
      | inl a ↦ has_left (front ++ n ∷ []) others k (has_left front (n ∷ []) k a)
      | inr b ↦ elim (has_cases others (n ∷ []) k b) [
        | inl a ↦ has_right (front ++ n ∷ []) others k a
        | inr o ↦ has_left (front ++ n ∷ []) others k (has_right front (n ∷ []) k o)
      ]
    ]

pub last_led : (rows : List Row) (leaves : List ℕ) (root : ℕ) (front others : List ℕ) (n : ℕ) → IsConeWalk rows leaves root (front ++ n ∷ []) others → (path : List ℕ) × LeadsTo rows leaves root path n
last_led rows leaves root front others n w = w.led n (has_left (front ++ n ∷ []) others n (has_right front (n ∷ []) n (has_here n [])))
