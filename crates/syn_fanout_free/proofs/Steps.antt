-- The steps of the search for freed rows.
use Rattle.std.proofs.Common.{◌≡◌, ◌≢◌, ℕ, ◌+◌, ◌<◌, ◌≤◌, ◌||◌, ◌&&◌, ◌==◌, leb, Bool, true, false, not, List, [], ◌∷◌, ◌++◌, length, if◌then◌else◌, refl, sym, ap, ◌∙◌, arith, inl, inr}
use Rattle.std.proofs.lemmas.Bool.{cases_Bool, cases_eq, cases_lt, eq-eqb, eqb-true, ne_eqb, and_parts, and_right, or_left, leb-true}
use Rattle.syn_rows.specs.declared.Row.{Row}
use Rattle.syn_rows.specs.Rows.{row_at, InOrder, is_derived}
use Rattle.syn_rows.specs.Reach.{is_and}
use Rattle.syn_rows.specs.References.{refs, sum_below}
use Rattle.syn_fanout_free.specs.Freed.{refers, refs_from, IsFreedByCount}
use Rattle.syn_rows.specs.Nodes.{has_node}
use Rattle.syn_fanout_free.specs.Freeing.{refs_from_dead, ands_among, AllReferred, IsFreeing, IsTaken}
use Rattle.syn_fanout_free.proofs.Pointwise.{at_ref, refers_none}
use Rattle.syn_fanout_free.proofs.Numbers.{one_if, sum_same, sum_none, sum_both, sum_le, sum_one}
use Rattle.syn_rows.proofs.Nodes.{has_node-append, has_left, has_right, has_cases, has_one}

-- rows refer to smaller nodes alone
no_times : (rows : List Row) (p m : ℕ) → InOrder rows → p ≤ m → refs m (row_at rows p) ≡ 0
no_times rows p m order le = elim (cases_Bool (refers (row_at rows p) m)) [
  | inr f ↦ refers_none (row_at rows p) m f
  | inl t ↦ absurd (omega (arith, at_ref (λ k. k < p) (row_at rows p) (order p) m t))
]

none_dead : (rows : List Row) (n m : ℕ) → refs_from_dead rows n [] m ≡ refs m (row_at rows n)
none_dead rows n m = omega (arith, sum_none (length rows) (λ p. if has_node [] p && not (p == n) then refs m (row_at rows p) else 0) (λ p lt. refl))

-- one more dead row
terms_more : (d root here : Bool) (c e : ℕ) → (here ≡ true → (d ≡ false) × (root ≡ false)) → (here ≡ true → c ≡ e)
    → (if (d || (here || false)) && not root then c else 0) ≡ (if d && not root then c else 0) + (if here then e else 0)
terms_more d root false c e apart same = plain d root c
  where
    plain : (d root : Bool) (c : ℕ) → (if (d || false) && not root then c else 0) ≡ (if d && not root then c else 0) + 0
    plain true true c = refl
    plain true false c = omega arith
    plain false true c = refl
    plain false false c = refl
terms_more true root true c e apart same = absurd (let p = (apart refl).0 in cc)
terms_more false true true c e apart same = absurd (let p = (apart refl).1 in cc)
terms_more false false true c e apart same = let p = same refl in omega arith

turned : (a b : ℕ) → (a == b) ≡ (b == a)
turned a b = elim (cases_eq a b) [
  | inl e ↦ eq-eqb a b e ∙ sym (eq-eqb b a (sym e))
  | inr ne ↦ ne_eqb a b ne ∙ sym (ne_eqb b a (λ e. ne (sym e)))
]

dead_more : (rows : List Row) (n : ℕ) (dead : List ℕ) (node m : ℕ) → node < length rows → node ≢ n → has_node dead node ≡ false
    → refs_from_dead rows n (dead ++ node ∷ []) m ≡ refs_from_dead rows n dead m + refs m (row_at rows node)
dead_more rows n dead node m inside_list other fresh =
    let f : ℕ → ℕ = λ p. if has_node (dead ++ node ∷ []) p && not (p == n) then refs m (row_at rows p) else 0 in
    let g : ℕ → ℕ = λ p. if has_node dead p && not (p == n) then refs m (row_at rows p) else 0 in
    let h : ℕ → ℕ = λ p. if node == p then refs m (row_at rows p) else 0 in
    let split : sum_below (length rows) f ≡ sum_below (length rows) g + sum_below (length rows) h = sum_both (length rows) f g h
    (λ p. ap (λ t. if t && not (p == n) then refs m (row_at rows p) else 0) (has_node-append dead (node ∷ []) p)
    ∙ terms_more (has_node dead p) (p == n) (node == p) (refs m (row_at rows p)) (refs m (row_at rows p))
    (λ e. let same : node ≡ p = eqb-true node p e in (ap (λ k. has_node dead k) (sym same) ∙ fresh, ne_eqb p n (λ is. other (same ∙ is)))) (λ e. refl)) in
    let alone : sum_below (length rows) h ≡ refs m (row_at rows node) =
    sum_same (length rows) h (λ p. if p == node then refs m (row_at rows p) else 0) (λ p lt. ap (λ t. if t then refs m (row_at rows p) else 0) (turned node p))
    ∙ sum_one (length rows) (λ p. refs m (row_at rows p)) node inside_list in
    omega (arith, split, alone)

-- references from fewer rows are fewer
dead_le : (rows : List Row) (n : ℕ) (dead : List ℕ) (set : ℕ → Bool) (m : ℕ) → ((p : ℕ) → has_node dead p ≡ true → set p ≡ true)
    → refs_from_dead rows n dead m ≤ refs m (row_at rows n) + refs_from rows (λ p. set p && not (p == n)) m
dead_le rows n dead set m all =
    omega (
      arith,
      sum_le (length rows) (λ p. if has_node dead p && not (p == n) then refs m (row_at rows p) else 0) (λ p. if set p && not (p == n) then refs m (row_at rows p) else 0)
          (λ p. term (has_node dead p) (set p) (p == n) (refs m (row_at rows p)) (all p)),
    )
  where
    term : (d s root : Bool) (c : ℕ) → (d ≡ true → s ≡ true) → (if d && not root then c else 0) ≤ (if s && not root then c else 0)
    term false s root c h = omega arith
    term true true root c h = omega arith
    term true false root c h = absurd (let e = h refl in cc)

pub freeing_begins : (rows : List Row) (counts : ℕ → ℕ) (n : ℕ) (may : ℕ → Bool) (waits : ℕ → ℕ)
    → InOrder rows → AllReferred rows counts → ((m : ℕ) → may m ≡ true → is_derived (row_at rows m) ≡ true)
    → ((m : ℕ) → waits m ≡ refs m (row_at rows n)) → IsFreeing rows counts n may n [] waits
freeing_begins rows counts n may waits order referred gates start = record {
  waiting = λ m lt. start m ∙ sym (none_dead rows n m);
  gone = λ m le. start m ∙ no_times rows n m order le;
  settled = λ m le ok few. absurd (omega (arith, referred m (gates m ok), few, none_dead rows n m, no_times rows n m order le));
  sound = λ set frees m h. absurd (cc);
  high = λ m h. absurd (cc);
  top = omega arith;
}

pub below_bound : (rows : List Row) (counts : ℕ → ℕ) (n : ℕ) (may : ℕ → Bool) (bound : ℕ) (dead : List ℕ) (waits : ℕ → ℕ) (node : ℕ)
    → IsFreeing rows counts n may bound dead waits → 0 < waits node → node < bound
below_bound rows counts n may bound dead waits node f some = elim (cases_lt node bound) [
  | inl lt ↦ lt
  | inr ge ↦ absurd (omega (arith, f.gone node ge))
]

pub freeing_takes : (rows : List Row) (counts : ℕ → ℕ) (n : ℕ) (may : ℕ → Bool) (bound : ℕ) (dead : List ℕ) (waits rest : ℕ → ℕ) (node often : ℕ)
    → AllReferred rows counts → ((m : ℕ) → may m ≡ true → is_derived (row_at rows m) ≡ true)
    → IsFreeing rows counts n may bound dead waits → often ≡ waits node → 0 < often
    → ((m : ℕ) → rest m ≡ (if m == node then 0 else waits m)) → ((m : ℕ) → node < m → waits m ≡ 0)
    → IsTaken rows counts n may node often dead rest
freeing_takes rows counts n may bound dead waits rest node often referred gates f e some left above = record {
  below = omega (arith, f.top, under);
  counted = e ∙ f.waiting node under;
  waiting = λ m lt. left m ∙ ap (λ t. if t then 0 else waits m) (ne_eqb m node (λ same. omega arith)) ∙ f.waiting m (omega (arith, under));
  gone = λ m le. elim (cases_eq m node) [
    | inl same ↦ left m ∙ ap (λ t. if t then 0 else waits m) (eq-eqb m node same)
    | inr ne ↦ left m ∙ ap (λ t. if t then 0 else waits m) (ne_eqb m node ne) ∙ above m (omega arith)
  ];
  settled = λ m lt ok few. elim (cases_lt m bound) [
    | inl inner ↦ absurd (omega (arith, referred m (gates m ok), few, f.waiting m inner, above m lt))
    | inr outer ↦ f.settled m outer ok few
  ];
  sound = f.sound;
  high = λ m h. omega (arith, f.high m h, under);
}
  where
    under : node < bound
    under = below_bound rows counts n may bound dead waits node f (omega arith)

pub freeing_frees : (rows : List Row) (counts : ℕ → ℕ) (n : ℕ) (may : ℕ → Bool) (dead : List ℕ) (rest next : ℕ → ℕ) (node often : ℕ)
    → InOrder rows → node < length rows
    → IsTaken rows counts n may node often dead rest → (leb (counts node) often && may node) ≡ true
    → ((m : ℕ) → next m ≡ refs m (row_at rows node) + rest m)
    → IsFreeing rows counts n may node (dead ++ node ∷ []) next
freeing_frees rows counts n may dead rest next node often order inside_list t dies more = record {
  waiting = λ m lt. omega (arith, more m, t.waiting m lt, grown m);
  gone = λ m le. omega (arith, more m, t.gone m le, no_times rows node m order le);
  settled = λ m le ok few. elim (cases_eq m node) [
    | inl e ↦ has_right dead (node ∷ []) m (or_left (node == m) false (eq-eqb node m (sym e)))
    | inr ne ↦ has_left dead (node ∷ []) m (t.settled m (omega arith) ok (omega (arith, few, grown m, no_times rows node m order le)))
  ];
  sound = λ set frees m h. elim (has_cases dead (node ∷ []) m h) [
    | inl old ↦ t.sound set frees m old
    | inr e ↦ ap set (sym (has_one node m e)) ∙ frees node parts.1 (omega (arith, leb-true (counts node) often parts.0, t.counted, dead_le rows n dead set node (λ p d. t.sound set frees p d)))
  ];
  high = λ m h. elim (has_cases dead (node ∷ []) m h) [
    | inl old ↦ omega (arith, t.high m old)
    | inr e ↦ omega (arith, has_one node m e)
  ];
  top = omega (arith, t.below);
}
  where
    parts : (leb (counts node) often ≡ true) × (may node ≡ true)
    parts = and_parts (leb (counts node) often) (may node) dies

    fresh : has_node dead node ≡ false
    fresh = elim (cases_Bool (has_node dead node)) [
      | inr f ↦ f
      | inl h ↦ absurd (let lt : node < node = t.high node h in omega arith)
    ]

    grown : (m : ℕ) → refs_from_dead rows n (dead ++ node ∷ []) m ≡ refs_from_dead rows n dead m + refs m (row_at rows node)
    grown m = dead_more rows n dead node m inside_list (λ e. let lt : node < n = t.below in omega arith) fresh

pub freeing_ends : (rows : List Row) (counts : ℕ → ℕ) (n : ℕ) (may : ℕ → Bool) (bound : ℕ) (dead : List ℕ) (waits : ℕ → ℕ)
    → AllReferred rows counts → ((m : ℕ) → may m ≡ true → is_derived (row_at rows m) ≡ true)
    → IsFreeing rows counts n may bound dead waits → ((m : ℕ) → waits m ≡ 0) → IsFreedByCount rows counts n may (λ m. has_node dead m)
freeing_ends rows counts n may bound dead waits referred gates f none = record {
  frees = λ m ok few. elim (cases_lt m bound) [
    | inl inner ↦ absurd (omega (arith, referred m (gates m ok), few, f.waiting m inner, none m))
    | inr outer ↦ f.settled m outer ok few
  ];
  least = λ set frees m h. f.sound set frees m h;
}

pub open_gates : (rows : List Row) (b c : Bool) (m : ℕ) → (is_derived (row_at rows m) && (b && c)) ≡ true → is_derived (row_at rows m) ≡ true
open_gates rows b c m h = (and_parts (is_derived (row_at rows m)) (b && c) h).0

-- ANDs among the dead rows
tally_term : (a d h : Bool) → (h ≡ true → d ≡ false) → one_if (a && (d || (h || false))) ≡ one_if (a && d) + (if h then one_if a else 0)
tally_term true true true f = absurd (let e = f refl in cc)
tally_term true true false f = refl
tally_term true false true f = refl
tally_term true false false f = refl
tally_term false d true f = refl
tally_term false d false f = refl

pub tally_more : (rows : List Row) (dead : List ℕ) (node : ℕ) → node < length rows → has_node dead node ≡ false
    → ands_among rows (dead ++ node ∷ []) ≡ ands_among rows dead + one_if (is_and (row_at rows node))
tally_more rows dead node within fresh =
    let f : ℕ → Bool = λ p. is_and (row_at rows p) && has_node (dead ++ node ∷ []) p in
    let g : ℕ → Bool = λ p. is_and (row_at rows p) && has_node dead p in
    let h : ℕ → ℕ = λ p. if node == p then one_if (is_and (row_at rows p)) else 0 in
    let split : sum_below (length rows) (λ p. one_if (f p)) ≡ sum_below (length rows) (λ p. one_if (g p)) + sum_below (length rows) h =
    sum_both (length rows) (λ p. one_if (f p)) (λ p. one_if (g p)) h
    (λ p. ap (λ t. one_if (is_and (row_at rows p) && t)) (has_node-append dead (node ∷ []) p)
    ∙ tally_term (is_and (row_at rows p)) (has_node dead p) (node == p) (λ e. ap (λ k. has_node dead k) (sym (eqb-true node p e)) ∙ fresh)) in
    let alone : sum_below (length rows) h ≡ one_if (is_and (row_at rows node)) =
    sum_same (length rows) h (λ p. if p == node then one_if (is_and (row_at rows p)) else 0) (λ p lt. ap (λ t. if t then one_if (is_and (row_at rows p)) else 0) (turned node p))
    ∙ sum_one (length rows) (λ p. one_if (is_and (row_at rows p))) node within in
    split ∙ ap (λ t. ands_among rows dead + t) alone

pub tally_none : (rows : List Row) → ands_among rows [] ≡ 0
tally_none rows = sum_none (length rows) (λ p. one_if (is_and (row_at rows p) && has_node [] p)) (λ p lt. ap one_if (and_right (is_and (row_at rows p)) false refl))

pub taken_fresh : (rows : List Row) (counts : ℕ → ℕ) (n : ℕ) (may : ℕ → Bool) (node often : ℕ) (dead : List ℕ) (rest : ℕ → ℕ)
    → IsTaken rows counts n may node often dead rest → has_node dead node ≡ false
taken_fresh rows counts n may node often dead rest t = elim (cases_Bool (has_node dead node)) [
  | inr f ↦ f
  | inl h ↦ absurd (let lt : node < node = t.high node h in omega arith)
]
