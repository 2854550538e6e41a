-- Rows are made: pins for their places, then the rows themselves, in nodes of the pool.
use Rattle.std.proofs.Common.{◌≡◌, ◌≢◌, ◌⊎◌, ℕ, zero, suc, ◌+◌, ◌<◌, ◌≤◌, ◌==◌, not, Bool, true, false, if◌then◌else◌, List, [], ◌∷◌, ◌++◌, length, get_or, take, drop, Some, refl, sym, ap, ◌∙◌, subst, arith, inl, inr, length-append}
use Rattle.std.proofs.lemmas.Bool.{and_parts, cases_eq, eqb-false}
use Rattle.syn_rows.specs.declared.Row.{Row}
use Rattle.syn_rows.specs.declared.Row.TheVariants.{Free, Source, And, Alias}
use Rattle.syn_rows.specs.Rows.{AllRefs, is_derived, refs_of}
use Rattle.syn_rows.specs.Nodes.{has_node}
use Rattle.syn_rows.proofs.Nodes.{has_cases, has_here, has_left, has_one, has_right, has_there, here_or_there}
use Rattle.syn_rows.specs.References.{hits, times}
use Rattle.syn_core_laws.specs.declared.View.{View}
use Rattle.syn_core_laws.specs.Lists.{without_one}
use Rattle.syn_core_laws.specs.Events.{KeyBelow, MayPin, MayRest}
use Rattle.syn_core_laws.specs.Views.{differs, is_derived_known, key_set, known_row, made, own_pins, pinned}
use Rattle.syn_core_laws.proofs.Counting.{has_times, hits_other, hits_same, times_append, times_has, times_less, times_less_each}
use Rattle.syn_core_laws.proofs.Listing.{and_both, has_only, look_here, look_there, not_true, only_has, other_is, other_test}
use Rattle.syn_decide.specs.declared.decisions.NodeRow.{NodeRow}
use Rattle.syn_decide.specs.Dying.{are_distinct}
use Rattle.syn_decide.specs.Walk.{nodes_of}
use Rattle.syn_decide.specs.Walked.{AreGates}
use Rattle.syn_commit.specs.declared.returns.TheConstants.{MAX_HELD}
use Rattle.syn_commit.specs.Walks.{AreKnown}
use Rattle.syn_commit.specs.Giving.{IsGiving}
use Rattle.syn_commit.specs.Storing.{MayReferTo, with_pins}
use Rattle.syn_commit.proofs.Draining.{all_at, all_more, all_removed, known_again, listed, pool_again, times_more, times_removed}
use Rattle.syn_commit.proofs.Entering.{known_stays}

-- the nodes of a pool without its last
distinct_less : (xs : List ℕ) (n : ℕ) → are_distinct (xs ++ n ∷ []) ≡ true → (are_distinct xs ≡ true) × ((m : ℕ) → has_node xs m ≡ true → m ≢ n)
distinct_less [] n d = (refl, λ m h. absurd (cc))
distinct_less (x ∷ xs) n d =
    let parts = and_parts (not (has_node (xs ++ n ∷ []) x)) (are_distinct (xs ++ n ∷ [])) d in
    let rest = distinct_less xs n parts.1 in
    let out : has_node (xs ++ n ∷ []) x ≡ false = not_true (has_node (xs ++ n ∷ []) x) parts.0 in (
      and_both (not (has_node xs x)) (are_distinct xs) (ap not (none x (has_node xs x) refl out)) rest.0,
      λ m h. elim (here_or_there x m xs h) [
        | inl this ↦ (λ same. let yes : has_node (xs ++ n ∷ []) x ≡ true = subst (λ k. has_node (xs ++ k ∷ []) x ≡ true) (sym this ∙ same) (has_right xs (x ∷ []) x (has_here x [])) in cc)
        | inr there ↦ rest.1 m there
      ],
    )
  where
    none : (y : ℕ) (b : Bool) → has_node xs y ≡ b → has_node (xs ++ n ∷ []) y ≡ false → b ≡ false
    none y true e f = let yes : has_node (xs ++ n ∷ []) y ≡ true = has_left xs (n ∷ []) y e in absurd (cc)
    none y false e f = refl

-- ---- lists in which each node stands equally often are equally long
one_less : (n : ℕ) (xs : List ℕ) → 1 ≤ times n xs → length (without_one n xs) + 1 ≡ length xs
one_less n [] h = absurd (omega (arith, h))
one_less n (x ∷ xs) h = go (x == n) refl (one_less n xs)
  where
    go : (b : Bool) → (x == n) ≡ b → (1 ≤ times n xs → length (without_one n xs) + 1 ≡ length xs) → length (if b then xs else x ∷ without_one n xs) + 1 ≡ suc (length xs)
    go true e ih = omega arith
    go false e ih = let none = hits_other n x (λ same. eqb-false x n e (sym same)) in let rest = ih (omega (arith, h, none)) in omega (arith, rest)

pub same_length : (xs ys : List ℕ) → ((m : ℕ) → times m xs ≡ times m ys) → length xs ≡ length ys
same_length [] [] h = refl
same_length [] (y ∷ ys) h = let one = hits_same y in let none = h y in absurd (omega (arith, one, none))
same_length (x ∷ xs) ys h =
    let one = hits_same x in
    let here = h x in
    let there : 1 ≤ times x ys = omega (arith, one, here) in
    let rest = same_length xs (without_one x ys) (λ m. let a = h m in let b = times_less m x ys there in omega (arith, a, b)) in
    let less = one_less x ys there in
    omega (arith, rest, less)

pub few_pins : (pool pins : List ℕ) (gates idle : List NodeRow) (v : View) (most : ℕ) → IsGiving pool pins gates idle v → length pins < most → length v.pins < most
few_pins pool pins gates idle v most g few = let same = same_length v.pins pins g.pinned in omega (arith, same, few)

-- ---- a node is pinned
module _ (pool pins : List ℕ) (gates idle : List NodeRow) (v : View) (n : ℕ) (g : IsGiving pool pins gates idle v) where
  more_pins : (m : ℕ) → own_pins (pinned v n) m ≡ times m (pins ++ n ∷ [])
  more_pins m = let a = times_append m pins (n ∷ []) in let p = g.pinned m in omega (arith, a, p)

  -- one that isn't on the zero list
  pub used_pinned : has_node (nodes_of idle) n ≡ false → IsGiving pool (pins ++ n ∷ []) gates idle (pinned v n)
  used_pinned none = record {
    spare = pool_again v (pinned v n) pool (λ m h. refl) (λ m h. refl) g.spare;
    held = g.held;
    known = known_again v (pinned v n) gates (λ m. refl) g.known;
    idle_known = known_again v (pinned v n) idle (λ m. refl) g.idle_known;
    derived = g.derived;
    idle_derived = g.idle_derived;
    once = g.once;
    idle_there = λ m h. g.idle_there m (has_only (differs n) m v.idle h).0;
    idle_all = λ m l. only_has (differs n) m v.idle (g.idle_all m l) (other_test n m (apart m l));
    pinned = more_pins;
    room = g.room;
  }
    where
      apart : (m : ℕ) → 1 ≤ times m (nodes_of idle) → m ≢ n
      apart m l same = let yes : has_node (nodes_of idle) n ≡ true = subst (λ k. has_node (nodes_of idle) k ≡ true) same (has_times m (nodes_of idle) l) in absurd (cc)

  -- the gate at this place of the zero list leaves it
  pub idle_pinned : (i : ℕ) (e : NodeRow) (rest : List NodeRow) → i < length idle → e ≡ get_or idle i e → e.node ≡ n → rest ≡ take i idle ++ drop (suc i) idle → length rest + 1 ≡ length idle
      → IsGiving pool (pins ++ n ∷ []) (gates ++ e ∷ []) rest (pinned v n)
  idle_pinned i e rest within is named gone size = record {
    spare = pool_again v (pinned v n) pool (λ m h. refl) (λ m h. refl) g.spare;
    held = λ m h. elim (g.held m h) [ inl spare ↦ inl spare | inr some ↦ inr (let s = same m in omega (arith, some, s)) ];
    known = all_more (λ r. known_row (pinned v n) r.node ≡ Some r.row) gates e (known_again v (pinned v n) gates (λ m. refl) g.known) own_known;
    idle_known = subst (AreKnown (pinned v n)) (sym gone) (all_removed (λ r. known_row (pinned v n) r.node ≡ Some r.row) idle i (known_again v (pinned v n) idle (λ m. refl) g.idle_known));
    derived = all_more (λ r. is_derived r.row ≡ true) gates e g.derived own_derived;
    idle_derived = subst AreGates (sym gone) (all_removed (λ r. is_derived r.row ≡ true) idle i g.idle_derived);
    once = λ m. let s = same m in let o = g.once m in omega (arith, s, o);
    idle_there = λ m h.
        let both = has_only (differs n) m v.idle h in
        let l = g.idle_there m both.0 in
        let less = removed m in
        let none : hits m e.node ≡ 0 = ap (hits m) named ∙ hits_other m n (other_is n m both.1) in
        omega (arith, l, less, none);
    idle_all = λ m l.
        let less = removed m in
        only_has (differs n) m v.idle (g.idle_all m (omega (arith, l, less))) (other_test n m (apart m l));
    pinned = more_pins;
    room = let more : length (gates ++ e ∷ []) ≡ length gates + 1 = length-append gates (e ∷ []) in let r = g.room in omega (arith, more, size, r);
  }
    where
      own_known : known_row (pinned v n) e.node ≡ Some e.row
      own_known = subst (λ (x : NodeRow). known_row v x.node ≡ Some x.row) (sym is) (all_at (λ r. known_row v r.node ≡ Some r.row) idle i e within g.idle_known)

      own_derived : is_derived e.row ≡ true
      own_derived = subst (λ (x : NodeRow). is_derived x.row ≡ true) (sym is) (all_at (λ r. is_derived r.row ≡ true) idle i e within g.idle_derived)

      removed : (m : ℕ) → times m (nodes_of rest) + hits m e.node ≡ times m (nodes_of idle)
      removed m =
          let a = times_removed m idle i e within in
          let b = ap (λ rows. times m (nodes_of rows)) gone in
          let c = ap (λ (x : NodeRow). hits m x.node) is in
          omega (arith, a, b, c)

      same : (m : ℕ) → times m (nodes_of (gates ++ e ∷ [])) + times m (nodes_of rest) ≡ times m (nodes_of gates) + times m (nodes_of idle)
      same m = let a = removed m in let b = times_more m gates e in omega (arith, a, b)

      apart : (m : ℕ) → 1 ≤ times m (nodes_of rest) → m ≢ n
      apart m l same_node =
          let less = removed m in
          let one : hits m e.node ≡ 1 = ap (hits m) (named ∙ sym same_node) ∙ hits_same m in
          let o = g.once m in
          omega (arith, l, less, one, o)

-- ---- pins for the places of a row
pub pin_lasts : (v : View) (n m : ℕ) → MayPin v m → MayPin (pinned v n) m
pin_lasts v n m (inl h) = inl h
pin_lasts v n m (inr p) = inr (has_there n m v.pins p)

pub all_pins_may : (v : View) (key : ℕ) (row : Row) → AllRefs (MayReferTo v key) row → AllRefs (MayPin v) row
all_pins_may v key Free a = tt
all_pins_may v key Source a = tt
all_pins_may v key (And x y) a = (a.0.pin, a.1.pin)
all_pins_may v key (Alias x) a = a.pin

-- once all are pinned, the row may rest on them
pub may_rest : (pool pins : List ℕ) (gates idle : List NodeRow) (v : View) (key : ℕ) (row : Row) → AllRefs (MayReferTo v key) row → IsGiving pool (pins ++ refs_of row) gates idle (with_pins (refs_of row) v) → MayRest (with_pins (refs_of row) v) key row
may_rest pool pins gates idle v key row a g = (λ m. let p = g.pinned m in let e = times_append m pins (refs_of row) in omega (arith, p, e), below row a)
  where
    below : (r : Row) → AllRefs (MayReferTo v key) r → AllRefs (KeyBelow (with_pins (refs_of r) v) key) r
    below Free b = tt
    below Source b = tt
    below (And x y) b = (b.0.below, b.1.below)
    below (Alias x) b = b.below

-- ---- a row is made
module _ (pool pins : List ℕ) (gates idle : List NodeRow) (u : View) (n key : ℕ) (row : Row) (g : IsGiving (pool ++ n ∷ []) (pins ++ refs_of row) gates idle u) where
  abbrev stored : View
  stored = made (key_set u n key) n row

  abbrev entry : NodeRow
  entry = record { node = n; row = row }

  pub made_free : known_row u n ≡ Some Free
  made_free = g.spare.free n (has_right pool (n ∷ []) n (has_here n []))

  -- a gate is in another node
  gates_apart : (rows : List NodeRow) → AreKnown u rows → AreGates rows → times n (nodes_of rows) ≡ 0
  gates_apart rows k d = go (times n (nodes_of rows)) refl
    where
      go : (i : ℕ) → times n (nodes_of rows) ≡ i → i ≡ 0
      go zero e = refl
      go (suc i) e =
          let gate : is_derived_known (known_row u n) ≡ true = listed u rows n k d (omega (arith, e)) in
          let free : is_derived_known (known_row u n) ≡ false = ap is_derived_known made_free in
          absurd (cc)

  apart : (rows : List NodeRow) → times n (nodes_of rows) ≡ 0 → (m : ℕ) → has_node (nodes_of rows) m ≡ true → m ≢ n
  apart rows none m there same = let some : 1 ≤ times n (nodes_of rows) = times_has n (nodes_of rows) (subst (λ k. has_node (nodes_of rows) k ≡ true) same there) in omega (arith, some, none)

  others : (m : ℕ) → m ≢ n → known_row stored m ≡ known_row u m
  others m ne = look_there m n row u.rows ne

  left_pool : are_distinct pool ≡ true × ((m : ℕ) → has_node pool m ≡ true → m ≢ n)
  left_pool = distinct_less pool n g.spare.distinct

  pub made_pinned : (m : ℕ) → own_pins stored m ≡ times m pins
  made_pinned m =
      let less = times_less_each m (refs_of row) u.pins there in
      let p = g.pinned m in
      let e = times_append m pins (refs_of row) in
      omega (arith, less, p, e)
    where
      there : (k : ℕ) → times k (refs_of row) ≤ times k u.pins
      there k = let p = g.pinned k in let e = times_append k pins (refs_of row) in omega (arith, p, e)

  pub made_gives : is_derived row ≡ true → length gates + length idle < MAX_HELD → IsGiving pool pins gates (idle ++ entry ∷ []) stored
  made_gives derived room = record {
    spare = record {
      distinct = left_pool.0;
      held = λ m h. g.spare.held m (has_left pool (n ∷ []) m h);
      free = λ m h. others m (left_pool.1 m h) ∙ g.spare.free m (has_left pool (n ∷ []) m h);
    };
    held = λ m h. elim (g.held m h) [
      | inl spare ↦ elim (has_cases pool (n ∷ []) m spare) [
        | inl still ↦ inl still
        | inr one ↦ inr (let more = times_more m idle entry in let this : hits m n ≡ 1 = ap (hits m) (has_one n m one) ∙ hits_same m in omega (arith, more, this))
      ]
      | inr some ↦ inr (let more = times_more m idle entry in omega (arith, some, more))
    ];
    known = known_stays u stored n gates others (apart gates (gates_apart gates g.known g.derived)) g.known;
    idle_known = all_more (λ r. known_row stored r.node ≡ Some r.row) idle entry (known_stays u stored n idle others (apart idle (gates_apart idle g.idle_known g.idle_derived)) g.idle_known) (look_here n row u.rows);
    derived = g.derived;
    idle_derived = all_more (λ r. is_derived r.row ≡ true) idle entry g.idle_derived derived;
    once = λ m. once m (cases_eq m n);
    idle_there = λ m h. elim (here_or_there n m u.idle h) [
      | inl this ↦ (let more = times_more m idle entry in let one : hits m n ≡ 1 = ap (hits m) (sym this) ∙ hits_same m in omega (arith, more, one))
      | inr there ↦ (let more = times_more m idle entry in let l = g.idle_there m there in omega (arith, more, l))
    ];
    idle_all = λ m l. elim (cases_eq m n) [
      | inl this ↦ subst (λ k. has_node (n ∷ u.idle) k ≡ true) (sym this) (has_here n u.idle)
      | inr other ↦ (
          let more = times_more m idle entry in
          let none : hits m n ≡ 0 = hits_other m n other in
          has_there n m u.idle (g.idle_all m (omega (arith, l, more, none)))
          )
    ];
    pinned = made_pinned;
    room = let more : length (idle ++ entry ∷ []) ≡ length idle + 1 = length-append idle (entry ∷ []) in omega (arith, more, room);
  }
    where
      once : (m : ℕ) → (m ≡ n) ⊎ (m ≢ n) → times m (nodes_of gates) + times m (nodes_of (idle ++ entry ∷ [])) ≤ 1
      once m (inl this) =
          let more = times_more m idle entry in
          let one : hits m n ≡ 1 = ap (hits m) (sym this) ∙ hits_same m in
          let a : times m (nodes_of gates) ≡ 0 = ap (λ k. times k (nodes_of gates)) this ∙ gates_apart gates g.known g.derived in
          let b : times m (nodes_of idle) ≡ 0 = ap (λ k. times k (nodes_of idle)) this ∙ gates_apart idle g.idle_known g.idle_derived in
          omega (arith, more, one, a, b)
      once m (inr other) =
          let more = times_more m idle entry in
          let none : hits m n ≡ 0 = hits_other m n other in
          let o = g.once m in
          omega (arith, more, none, o)
