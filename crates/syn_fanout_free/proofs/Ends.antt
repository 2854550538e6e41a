-- What the sweep gives: the kept rows and what they use, and the saving.
use Rattle.std.proofs.Common.{◌≡◌, ℕ, ◌+◌, ◌-◌, ◌<◌, ◌≤◌, ◌||◌, ◌&&◌, ◌==◌, leb, Bool, true, false, not, List, length, if◌then◌else◌, refl, sym, ap, ap₂, ◌∙◌, arith, inl, inr, ◌⊎◌, pos, ◌-ℤ◌, ◌+ℤ◌}
use Rattle.std.proofs.lemmas.Bool.{cases_Bool, cases_eq, cases_lt, eq-eqb, eqb-true, ne_eqb, both_ways, and_parts, and_from, and_left, and_right, or_left, or_right, or_cases, or_from, le-leb, not-true}
use Rattle.std.proofs.lemmas.List.{get_or_past}
use Rattle.std.proofs.lemmas.Int.{ints}
use Rattle.syn_rows.specs.declared.Lit.{Lit}
use Rattle.syn_rows.specs.declared.Row.{Row}
use Rattle.syn_rows.specs.declared.Row.TheVariants.{Free}
use Rattle.syn_rows.specs.Rows.{row_at, is_derived}
use Rattle.syn_rows.specs.Values.{value_in}
use Rattle.syn_rows.specs.Reach.{is_and, ands_in, Reached, IsReachedSet}
use Rattle.syn_rows.specs.References.{refs, refs_by_rows, refs_by_literals, and_count, all_ands}
use Rattle.syn_fanout_free.specs.Freed.{is_free, refers, is_new, IsKept, uses, unused, count_below, added, lost, IsReplacement, IsFreed, IsFreedByCount}
use Rattle.syn_fanout_free.specs.Saved.{replaced, IsSaved, IsOwned, IsExtra}
use Rattle.syn_rows.specs.Nodes.{has_node}
use Rattle.syn_fanout_free.specs.Freeing.{AllReferred, open_to, ands_among}
use Rattle.syn_fanout_free.specs.Keeping.{noted, IsUsed, IsKeeping}
use Rattle.syn_fanout_free.proofs.Pointwise.{each_ref, at_ref, inside, refers_not_free, refers_some, gate_there, observes, none_observes, Observes, Closes, reached_in}
use Rattle.syn_fanout_free.proofs.Numbers.{one_if, sum_same, sum_both, sum_one, sum_apart, count_same, term_le_sum}
use Rattle.syn_fanout_free.proofs.Counts.{is_and_gate, freed_from_counts}
use Rattle.syn_fanout_free.proofs.Kept.{any_below_at, any_below_some, saved_in_set}
use Rattle.syn_rows.proofs.Ends.{reached_set}
use Rattle.syn_fanout_free.proofs.Existing.{all_ands_reached}
use Rattle.syn_fanout_free.proofs.Replaced.{at_root, at_extra, replaced_length, order_within, lits_from, replaced_within, replaced_keeps, owned_inside}
use Rattle.syn_fanout_free.proofs.Sweeps.{noted_at_old, noted_at_new}

-- the kept rows: n, and the new ones that are marked
pub kept_rows : ℕ → ℕ → List Bool → ℕ → Bool
kept_rows first n marks m = (m == n) || (leb first m && value_in marks (m - first))

new_root : (was : List Row) (n : ℕ) → is_new was n n ≡ true
new_root was n = or_left (n == n) (is_free (row_at was n)) (eq-eqb n n refl)

new_far : (was : List Row) (n p : ℕ) → length was ≤ p → is_new was n p ≡ true
new_far was n p le = or_right (p == n) (is_free (row_at was p)) (ap is_free (get_or_past was p Free le))

pub new_cases : (was : List Row) (n p : ℕ) → ((q : ℕ) → q < length was → is_free (row_at was q) ≡ false) → is_new was n p ≡ true → (p ≡ n) ⊎ (length was ≤ p)
new_cases was n p full h = elim (or_cases (p == n) (is_free (row_at was p)) h) [
  | inl e ↦ inl (eqb-true p n e)
  | inr f ↦ elim (cases_lt p (length was)) [
    | inl lt ↦ absurd (both_ways (is_free (row_at was p)) (full p lt) f)
    | inr ge ↦ inr ge
  ]
]

kept_root : (first n : ℕ) (marks : List Bool) → kept_rows first n marks n ≡ true
unfolding kept_rows
kept_root first n marks = or_left (n == n) (leb first n && value_in marks (n - first)) (eq-eqb n n refl)

marked_kept : (first n : ℕ) (marks : List Bool) (m : ℕ) → first ≤ m → value_in marks (m - first) ≡ true → kept_rows first n marks m ≡ true
unfolding kept_rows
marked_kept first n marks m le h = or_right (m == n) (leb first m && value_in marks (m - first)) (and_from (leb first m) (value_in marks (m - first)) (le-leb first m le) h)

kept_marked : (first n : ℕ) (marks : List Bool) (m : ℕ) → n < first → first ≤ m → kept_rows first n marks m ≡ true → value_in marks (m - first) ≡ true
unfolding kept_rows
kept_marked first n marks m lt le h = elim (or_cases (m == n) (leb first m && value_in marks (m - first)) h) [
  | inl e ↦ absurd (omega (arith, eqb-true m n e))
  | inr b ↦ (and_parts (leb first m) (value_in marks (m - first)) b).1
]

pub far_refers : (was : List Row) (n : ℕ) (row : Row) (extra : List Row) (p m : ℕ) → length was ≤ p
    → refers (row_at (replaced was n row extra) p) m ≡ refers (row_at extra (p - length was)) m
far_refers was n row extra p m le =
    let back : length was + (p - length was) ≡ p = omega arith in
    ap (λ q. refers (row_at (replaced was n row extra) q) m) (sym back) ∙ ap (λ (r : Row). refers r m) (at_extra was n row extra (p - length was))

-- what a kept new row refers to is noted
covered : (was : List Row) (n : ℕ) (row : Row) (extra : List Row) (marks : List Bool) (used : List ℕ)
    → n < length was → ((q : ℕ) → q < length was → is_free (row_at was q) ≡ false) → IsKeeping (length was) row extra 0 marks used
    → (p m : ℕ) → is_new was n p ≡ true → kept_rows (length was) n marks p ≡ true → refers (row_at (replaced was n row extra) p) m ≡ true
    → noted (length was) marks used m ≡ true
covered was n row extra marks used there full k p m new kp r = elim (new_cases was n p full new) [
  | inl e ↦ k.root m (ap (λ (x : Row). refers x m) (sym (ap (row_at (replaced was n row extra)) e ∙ at_root was n row extra there)) ∙ r)
  | inr far ↦ k.done (p - length was) m (omega arith) (kept_marked (length was) n marks p there far kp) (sym (far_refers was n row extra p m far) ∙ r)
]

pub keeping_kept : (was : List Row) (n : ℕ) (row : Row) (extra : List Row) (marks : List Bool) (used : List ℕ)
    → n < length was → ((q : ℕ) → q < length was → is_free (row_at was q) ≡ false) → IsKeeping (length was) row extra 0 marks used
    → IsKept was (replaced was n row extra) n (kept_rows (length was) n marks)
keeping_kept was n row extra marks used there full k = record {
  root = kept_root (length was) n marks;
  closed = λ p new kp. each_ref (λ m. is_new was n m ≡ true → kept_rows (length was) n marks m ≡ true) (row_at (replaced was n row extra) p) (λ m r fresh. elim (new_cases was n m full fresh) [
    | inl e ↦ ap (kept_rows (length was) n marks) e ∙ kept_root (length was) n marks
    | inr far ↦ marked_kept (length was) n marks m far (sym (noted_at_new (length was) marks used m far) ∙ covered was n row extra marks used there full k p m new kp r)
  ]);
  least = λ set rooted closed p new kp. elim (new_cases was n p full new) [
    | inl e ↦ ap set e ∙ rooted
    | inr far ↦
        let back : length was + (p - length was) ≡ p = omega arith in
        ap set (sym back) ∙ k.sound set
        (λ m r le. at_ref (λ j. is_new was n j ≡ true → set j ≡ true) (row_at (replaced was n row extra) n) (closed n (new_root was n) rooted) m (ap (λ (x : Row). refers x m) (at_root was n row extra there) ∙ r) (new_far was n m le))
        (λ i m h r le. at_ref (λ j. is_new was n j ≡ true → set j ≡ true) (row_at (replaced was n row extra) (length was + i)) (closed (length was + i) (new_far was n (length was + i) (omega arith)) h) m (ap (λ (x : Row). refers x m) (at_extra was n row extra i) ∙ r) (new_far was n m le))
        (p - length was) (kept_marked (length was) n marks p there far kp)
  ];
}

-- the used old nodes are those listed
pub uses_same : (was : List Row) (n : ℕ) (row : Row) (extra : List Row) (marks : List Bool) (used : List ℕ)
    → n < length was → ((q : ℕ) → q < length was → is_free (row_at was q) ≡ false) → IsKeeping (length was) row extra 0 marks used
    → (m : ℕ) → m < length was → uses was (replaced was n row extra) n (kept_rows (length was) n marks) m ≡ has_node used m
uses_same was n row extra marks used there full k m old = elim (cases_Bool (has_node used m)) [
  | inl h ↦ by_list (k.using m h).1 ∙ sym h
  | inr f ↦ elim (cases_Bool (uses was now n kept m)) [
    | inr g ↦ g ∙ sym f
    | inl g ↦ absurd (both_ways (has_node used m) f (by_row (any_below_some (length now) (λ p. (is_new was n p && kept p) && refers (row_at now p) m) g)))
  ]
]
  where
    now : List Row
    now = replaced was n row extra

    kept : ℕ → Bool
    kept = kept_rows (length was) n marks

    by_row : (p : ℕ) × (((is_new was n p && kept p) && refers (row_at now p) m) ≡ true) → has_node used m ≡ true
    by_row (p, h) =
        let parts = and_parts (is_new was n p && kept p) (refers (row_at now p) m) h in
        let first = and_parts (is_new was n p) (kept p) parts.0 in
        sym (noted_at_old (length was) marks used m old) ∙ covered was n row extra marks used there full k p m first.0 first.1 parts.1

    found : (p : ℕ) → is_new was n p ≡ true → kept p ≡ true → refers (row_at now p) m ≡ true → uses was now n kept m ≡ true
    found p new kp r = any_below_at (length now) (λ q. (is_new was n q && kept q) && refers (row_at now q) m) p
        (inside now p (refers_not_free (row_at now p) m r))
        (and_from (is_new was n p && kept p) (refers (row_at now p) m) (and_from (is_new was n p) (kept p) new kp) r)

    by_list : IsUsed row extra marks m → uses was now n kept m ≡ true
    by_list (inl r) = found n (new_root was n) (kept_root (length was) n marks) (ap (λ (x : Row). refers x m) (at_root was n row extra there) ∙ r)
    by_list (inr (i, h, r)) = found (length was + i) (new_far was n (length was + i) (omega arith))
        (marked_kept (length was) n marks (length was + i) (omega arith) (let e : length was + i - length was ≡ i = omega arith in ap (value_in marks) e ∙ h))
        (ap (λ (x : Row). refers x m) (at_extra was n row extra i) ∙ r)

pub unused_same : (was : List Row) (n : ℕ) (row : Row) (extra : List Row) (marks : List Bool) (used : List ℕ)
    → n < length was → ((q : ℕ) → q < length was → is_free (row_at was q) ≡ false) → IsKeeping (length was) row extra 0 marks used
    → (m : ℕ) → unused was (replaced was n row extra) n (kept_rows (length was) n marks) m ≡ open_to was n used m
unused_same was n row extra marks used there full k m = elim (cases_Bool (is_derived (row_at was m))) [
  | inr f ↦ and_left (is_derived (row_at was m)) (not (m == n) && not (uses was (replaced was n row extra) n (kept_rows (length was) n marks) m)) f
      ∙ sym (and_left (is_derived (row_at was m)) (not (m == n) && not (has_node used m)) f)
  | inl g ↦ ap (λ t. is_derived (row_at was m) && (not (m == n) && not t)) (uses_same was n row extra marks used there full k m (inside was m (gate_there (row_at was m) g)))
]

-- the numbers of lost and of added ANDs
lost_term : (a r d : Bool) → (r ≡ true → d ≡ false) → one_if (a && (r || d)) ≡ (if r then one_if a else 0) + one_if (a && d)
lost_term true true true f = absurd (let e = f refl in cc)
lost_term true true false f = refl
lost_term true false d f = sym (zero_add_one (one_if d))
  where
    zero_add_one : (c : ℕ) → 0 + c ≡ c
    zero_add_one c = omega arith
lost_term false true d f = refl
lost_term false false d f = refl

pub lost_is : (was : List Row) (n : ℕ) (dead : List ℕ) → n < length was → has_node dead n ≡ false
    → lost was n (λ m. has_node dead m) ≡ one_if (is_and (row_at was n)) + ands_among was dead
lost_is was n dead there alive =
    sum_both (length was) (λ p. one_if (is_and (row_at was p) && ((p == n) || has_node dead p))) (λ p. if p == n then one_if (is_and (row_at was p)) else 0) (λ p. one_if (is_and (row_at was p) && has_node dead p))
    (λ p. lost_term (is_and (row_at was p)) (p == n) (has_node dead p) (λ e. ap (λ k. has_node dead k) (eqb-true p n e) ∙ alive))
    ∙ ap₂ (λ a b. a + b) (sum_one (length was) (λ p. one_if (is_and (row_at was p))) n there) refl

pub added_is : (was : List Row) (n : ℕ) (row : Row) (extra : List Row) (marks : List Bool) → n < length was → ((q : ℕ) → q < length was → is_free (row_at was q) ≡ false)
    → added was (replaced was n row extra) n (kept_rows (length was) n marks) ≡ one_if (is_and row) + count_below (length extra) (λ m. is_and (row_at extra m) && value_in marks m)
added_is was n row extra marks there full =
    ap (λ t. count_below t g) (replaced_length was n row extra) ∙ sum_apart (length extra) (length was) (λ p. one_if (g p)) ∙ ap₂ (λ a b. a + b) front back
  where
    now : List Row
    now = replaced was n row extra

    kept : ℕ → Bool
    kept = kept_rows (length was) n marks

    g : ℕ → Bool
    g p = is_and (row_at now p) && (is_new was n p && kept p)

    at_n : g n ≡ is_and row
    at_n = ap₂ (λ a b. a && b) (ap is_and (at_root was n row extra there)) (and_from (is_new was n n) (kept n) (new_root was n) (kept_root (length was) n marks)) ∙ right (is_and row)
      where
        right : (b : Bool) → (b && true) ≡ b
        right true = refl
        right false = refl

    term : (p : ℕ) → p < length was → one_if (g p) ≡ (if p == n then one_if (g p) else 0)
    term p lt = elim (cases_eq p n) [
      | inl e ↦ sym (ap (λ t. if t then one_if (g p) else 0) (eq-eqb p n e))
      | inr ne ↦
          ap one_if (and_right (is_and (row_at now p)) (is_new was n p && kept p) (and_left (is_new was n p) (kept p) (or_false (p == n) (is_free (row_at was p)) (ne_eqb p n ne) (full p lt))))
          ∙ sym (ap (λ t. if t then one_if (g p) else 0) (ne_eqb p n ne))
    ]
      where
        or_false : (x y : Bool) → x ≡ false → y ≡ false → (x || y) ≡ false
        or_false x y e f = or_from x y e f

    front : count_below (length was) g ≡ one_if (is_and row)
    front = sum_same (length was) (λ p. one_if (g p)) (λ p. if p == n then one_if (g p) else 0) term
        ∙ sum_one (length was) (λ p. one_if (g p)) n there ∙ ap one_if at_n

    far_kept : (i : ℕ) → kept (length was + i) ≡ value_in marks i
    far_kept i = elim (cases_Bool (value_in marks i)) [
      | inl h ↦ marked_kept (length was) n marks (length was + i) (omega arith) (ap (value_in marks) (less i) ∙ h) ∙ sym h
      | inr f ↦ elim (cases_Bool (kept (length was + i))) [
        | inr h ↦ h ∙ sym f
        | inl h ↦ absurd (both_ways (value_in marks i) f (ap (value_in marks) (sym (less i)) ∙ kept_marked (length was) n marks (length was + i) there (omega arith) h))
      ]
    ]
      where
        less : (i : ℕ) → length was + i - length was ≡ i
        less i = omega arith

    back : count_below (length extra) (λ i. g (length was + i)) ≡ count_below (length extra) (λ m. is_and (row_at extra m) && value_in marks m)
    back = count_same (length extra) (λ i. g (length was + i)) (λ i. is_and (row_at extra i) && value_in marks i)
        (λ i. ap₂ (λ a b. a && b) (ap is_and (at_extra was n row extra i)) (ap₂ (λ a b. a && b) (new_far was n (length was + i) (omega arith)) (far_kept i)))

-- what nothing refers to is not reached
unreferred : (was : List Row) (observed : List Lit) (m : ℕ) → refs_by_rows m was ≡ 0 → refs_by_literals m observed ≡ 0 → Reached was observed m → ⊥
unreferred was observed m no_row no_literal reached = both_ways (less m) (ap not (eq-eqb m m refl)) (reached_in was observed m reached less closes seen)
  where
    less : ℕ → Bool
    less k = not (k == m)

    none_refers : (p : ℕ) → refers (row_at was p) m ≡ true → ⊥
    none_refers p r =
        let term = term_le_sum (length was) (λ q. refs m (row_at was q)) p (inside was p (refers_not_free (row_at was p) m r)) in
        omega (arith, no_row, refers_some (row_at was p) m r, term)

    closes : Closes was less
    closes p k h r = ap not (ne_eqb k m (λ e. none_refers p (ap (refers (row_at was p)) (sym e) ∙ r)))

    seen : Observes observed less
    seen k h = ap not (ne_eqb k m (λ e. both_ways (observes observed m) (none_observes observed m no_literal) (ap (observes observed) (sym e) ∙ h)))

pub reached_referred : (was : List Row) (observed : List Lit) (counts : ℕ → ℕ) (n : ℕ) → IsOwned was observed counts n → AllReferred was counts
reached_referred was observed counts n owned m gate = elim (cases_eq (counts m) 0) [
  | inr ne ↦ omega (arith, ne)
  | inl none ↦ absurd (unreferred was observed m (omega (arith, none, owned.counted m)) (omega (arith, none, owned.counted m)) (owned.gates m gate))
]

-- THE SAVING
pub saved_by_cone : (was : List Row) (observed : List Lit) (counts : ℕ → ℕ) (n : ℕ) (row : Row) (extra : List Row) (marks : List Bool) (used dead : List ℕ) (away come : ℕ)
    → n < length was → IsOwned was observed counts n → IsExtra (length was) row extra → IsKeeping (length was) row extra 0 marks used
    → IsFreedByCount was counts n (open_to was n used) (λ m. has_node dead m)
    → away ≡ and_count (row_at was n) + ands_among was dead
    → come ≡ and_count row + count_below (length extra) (λ m. is_and (row_at extra m) && value_in marks m)
    → IsSaved was (replaced was n row extra) observed (pos away -ℤ pos come)
saved_by_cone was observed counts n row extra marks used dead away come there owned fits k by e f = (
  all_ands was,
  ands_in found.0 now,
  all_ands_reached was observed (order_within was owned.order) (lits_from (length was) observed owned.within) (λ m h. owned.gates m (is_and_gate (row_at was m) h)),
  (found.0, found.1, refl),
  difference_is (all_ands was) (ands_in found.0 now) away come (omega (arith, balance, e, f, lost_is was n dead there alive, added_is was n row extra marks there owned.full)),
)
  where
    now : List Row
    now = replaced was n row extra

    kept : ℕ → Bool
    kept = kept_rows (length was) n marks

    found : (s : ℕ → Bool) × IsReachedSet now observed s
    found = reached_set now observed (replaced_within was n row extra there owned.order fits)
        (lits_from (length now) observed (λ i d lt. omega (arith, owned.within i d lt, replaced_length was n row extra)))

    replacement : IsReplacement was now observed n (λ j. j)
    replacement = record {
      keeps = replaced_keeps was n row extra;
      longer = omega (arith, replaced_length was n row extra);
      reached = owned.reached;
      inside = owned_inside was observed counts n owned;
      rises = owned.order;
    }

    same : (m : ℕ) → unused was now n kept m ≡ open_to was n used m
    same = unused_same was n row extra marks used there owned.full k

    by_count : IsFreedByCount was counts n (unused was now n kept) (λ m. has_node dead m)
    by_count = record {
      frees = λ m ok few. by.frees m (sym (same m) ∙ ok) few;
      least = λ set frees m h. by.least set (λ q ok few. frees q (same q ∙ ok) few) m h;
    }

    freeing : IsFreed was observed n (unused was now n kept) (λ m. has_node dead m)
    freeing = freed_from_counts was observed counts n (unused was now n kept) (λ m. has_node dead m) (λ m ok. owned.counted m) by_count

    alive : has_node dead n ≡ false
    alive = elim (cases_Bool (has_node dead n)) [
      | inr g ↦ g
      | inl h ↦ absurd (both_ways (n == n)
          (not-true (n == n) (and_parts (not (n == n)) (not (has_node used n)) (and_parts (is_derived (row_at was n)) (not (n == n) && not (has_node used n)) (by.least (open_to was n used) (λ m ok few. ok) n h)).1).0)
          (eq-eqb n n refl))
    ]

    balance : all_ands was + added was now n kept ≡ ands_in found.0 now + lost was n (λ m. has_node dead m)
    balance = saved_in_set was now observed n (λ j. j) kept (λ m. has_node dead m) found.0 replacement (keeping_kept was n row extra marks used there owned.full k) freeing found.1

    difference_is : (j k a c : ℕ) → j + c ≡ k + a → pos j ≡ (pos k +ℤ (pos a -ℤ pos c))
    difference_is j k a c h = omega (arith, ints, h)
