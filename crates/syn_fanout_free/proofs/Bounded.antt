-- The bound of what a replacement saves: what is no longer reached would be freed too if its hits were not used.
use Rattle.std.proofs.Common.{◌≡◌, ◌≢◌, ◌⊎◌, ℕ, zero, suc, ◌+◌, ◌<◌, ◌≤◌, ◌||◌, ◌&&◌, ◌==◌, Bool, true, false, not, List, length, refl, sym, ap, ◌∙◌, subst, arith, inl, inr, get_or, [], ◌∷◌, ℤ, pos, ◌+ℤ◌, ◌-ℤ◌, ◌≤ℤ◌}
use Rattle.std.proofs.lemmas.Bool.{cases_Bool, eqb-false, both_ways, and_parts, and_from, or_left, or_right, not_from_false, not-true, eq-eqb, ne_eqb}
use Rattle.std.proofs.lemmas.List.{get_or_past}
use Rattle.std.proofs.lemmas.Int.{ints}
use Rattle.syn_rows.specs.declared.Lit.{Lit}
use Rattle.syn_rows.specs.declared.Row.{Row}
use Rattle.syn_rows.specs.declared.Row.TheVariants.{Free}
use Rattle.syn_rows.specs.Rows.{row_at, is_derived}
use Rattle.syn_rows.specs.Reach.{is_and, ands_in, IsReachedSet, Ands}
use Rattle.syn_rows.specs.References.{all_ands, and_count, sum_below}
use Rattle.syn_rows.specs.Values.{value_in}
use Rattle.syn_rows.specs.Nodes.{has_node}
use Rattle.syn_rows.proofs.Ends.{reached_set}
use Rattle.syn_rows.proofs.Nodes.{here_or_there}
use Rattle.syn_rows.proofs.Reaches.{one_ands_is}
use Rattle.syn_fanout_free.specs.Bounding.{IsHeld, IsMffcSize, IsMostLost, SavedIsBounded}
use Rattle.syn_fanout_free.specs.Freed.{is_free, is_new, refers, uses, IsKept, Frees, FreesByCount, IsFreedByCount, added, lost, count_below}
use Rattle.syn_fanout_free.specs.Freeing.{ands_among, open_to}
use Rattle.syn_fanout_free.specs.Keeping.{IsKeeping}
use Rattle.syn_fanout_free.specs.Saved.{replaced, IsExtra, IsOwned, IsSaved}
use Rattle.syn_fanout_free.proofs.Pointwise.{inside, refers_not_free, closes_of}
use Rattle.syn_fanout_free.proofs.Numbers.{one_if, ands_count, count_beyond, count-le, highest}
use Rattle.syn_fanout_free.proofs.Sets.{old_refers, SparesOnlyUsed, reached_or_freed}
use Rattle.syn_fanout_free.proofs.Counts.{is_and_gate, is_and_not_free, frees_one_by_one}
use Rattle.syn_fanout_free.proofs.Ends.{added_is, keeping_kept, kept_rows, lost_is, uses_same}
use Rattle.syn_fanout_free.proofs.Existing.{all_ands_reached}
use Rattle.syn_fanout_free.proofs.Kept.{kept_reached, any_below_some}
use Rattle.syn_fanout_free.proofs.Replaced.{replaced_keeps, replaced_length, replaced_within, order_within, lits_from}

-- at most as many at each number makes at most as many of the whole
pub count_le : (k : ℕ) (f g h j : ℕ → Bool) → ((p : ℕ) → one_if (f p) + one_if (g p) ≤ one_if (h p) + one_if (j p)) → count_below k f + count_below k g ≤ count_below k h + count_below k j
count_le zero f g h j each = omega arith
count_le (suc k) f g h j each = omega (arith, count_le k f g h j each, each k)

one_le : (b k a : Bool) → (k ≡ true → a ≡ true) → one_if (b && k) ≤ one_if (b && a)
one_le false k a h = omega arith
one_le true true a h = omega (arith, ap one_if (h refl))
one_le true false a h = omega arith

root_term : (a e f : Bool) → e ≡ true → one_if a ≤ one_if (a && (e || f))
root_term true e f h = omega (arith, ap one_if (or_left e f h))
root_term false e f h = omega arith

-- an old AND is reached afterwards, or freed
old_term : (a new kept after e freed : Bool) → new ≡ false → (a ≡ true → (after ≡ true) ⊎ (freed ≡ true))
    → one_if a + one_if (a && (new && kept)) ≤ one_if (a && after) + one_if (a && (e || freed))
old_term false new kept after e freed old either = omega arith
old_term true true kept after e freed old either = absurd (both_ways true old refl)
old_term true false kept after e freed old either = elim (either refl) [
  | inl there ↦ omega (arith, ap one_if there)
  | inr gone ↦ omega (arith, ap one_if (or_right e freed gone))
]

-- what the kept new rows hold is reached afterwards
held_reached : (was now : List Row) (observed : List Lit) (n : ℕ) (kept after : ℕ → Bool) (m : ℕ)
    → ((p : ℕ) → is_new was n p ≡ true → kept p ≡ true → after p ≡ true) → IsReachedSet now observed after
    → ((p m : ℕ) → p ≢ n → refers (row_at was p) m ≡ true → refers (row_at now p) m ≡ true)
    → IsHeld was n (uses was now n kept) m → after m ≡ true
held_reached was now observed n kept after m stays reach still held = by_hold held
  where
    used : (p : ℕ) → uses was now n kept p ≡ true → after p ≡ true
    used p h = by_row (any_below_some (length now) (λ q. (is_new was n q && kept q) && refers (row_at now q) p) h)
      where
        by_row : (q : ℕ) × (((is_new was n q && kept q) && refers (row_at now q) p) ≡ true) → after p ≡ true
        by_row (q, h) =
            let parts = and_parts (is_new was n q && kept q) (refers (row_at now q) p) h in
            let first = and_parts (is_new was n q) (kept q) parts.0 in
            closes_of now after reach.closed q p (stays q first.0 first.1) parts.1

    by_hold : IsHeld was n (uses was now n kept) m → after m ≡ true
    by_hold (inl h) = used m h
    by_hold (inr (p, h, ne, r)) = closes_of now after reach.closed p m (used p h) (still p m ne r)

-- the numbers of ANDs
bounded_in_set : (was : List Row) (observed : List Lit) (counts : ℕ → ℕ) (n : ℕ) (row : Row) (extra : List Row) (kept : ℕ → Bool) (spared : List ℕ) (freed after : ℕ → Bool)
    → IsOwned was observed counts n → IsKept was (replaced was n row extra) n kept
    → ((m : ℕ) → has_node spared m ≡ true → IsHeld was n (uses was (replaced was n row extra) n kept) m)
    → FreesByCount was counts n (open_to was n spared) freed → IsReachedSet (replaced was n row extra) observed after
    → all_ands was + added was (replaced was n row extra) n kept ≤ ands_in after (replaced was n row extra) + lost was n freed
bounded_in_set was observed counts n row extra kept spared freed after owned keeping holds by reach =
    let far : (p : ℕ) → length was ≤ p → is_and (row_at was p) ≡ false = λ p ge. ap is_and (get_or_past was p Free ge) in
    let longer : length was ≤ length now = omega (arith, replaced_length was n row extra) in
    let first : count_below (length now) (λ p. is_and (row_at was p)) ≡ count_below (length was) (λ p. is_and (row_at was p)) =
    count_beyond (length was) (length now) (λ p. is_and (row_at was p)) longer far in
    let last : count_below (length now) (λ p. is_and (row_at was p) && ((p == n) || freed p)) ≡ count_below (length was) (λ p. is_and (row_at was p) && ((p == n) || freed p)) =
    count_beyond (length was) (length now) (λ p. is_and (row_at was p) && ((p == n) || freed p)) longer (λ p ge. ap (λ t. t && ((p == n) || freed p)) (far p ge)) in
    let all = count_le (length now) (λ p. is_and (row_at was p)) (λ p. is_and (row_at now p) && (is_new was n p && kept p))
    (λ p. is_and (row_at now p) && after p) (λ p. is_and (row_at was p) && ((p == n) || freed p)) at in
    omega (arith, first, last, all, ands_count now after)
  where
    now : List Row
    now = replaced was n row extra

    stays : (p : ℕ) → is_new was n p ≡ true → kept p ≡ true → after p ≡ true
    stays = kept_reached was now observed n kept after (replaced_keeps was n row extra) owned.reached keeping reach

    only : SparesOnlyUsed was n after (open_to was n spared)
    only m ne gate shut = elim (cases_Bool (has_node spared m)) [
      | inl h ↦ held_reached was now observed n kept after m stays reach (λ p k other r. old_refers was now n p k (replaced_keeps was n row extra) other r) (holds m h)
      | inr none ↦ absurd (both_ways (open_to was n spared m) shut (and_from (is_derived (row_at was m)) (not (m == n) && not (has_node spared m)) gate
          (and_from (not (m == n)) (not (has_node spared m)) (not_from_false (m == n) (ne_eqb m n ne)) (not_from_false (has_node spared m) none))))
    ]

    freeing : Frees was observed n (open_to was n spared) freed
    freeing = frees_one_by_one was observed counts n (open_to was n spared) freed (λ m ok. owned.counted m) by

    either : (p : ℕ) → is_and (row_at was p) ≡ true → (after p ≡ true) ⊎ (freed p ≡ true)
    either p gate =
        reached_or_freed was now observed n (open_to was n spared) after freed (λ j. j) (suc (sum_below (length was) (λ j. j))) (replaced_keeps was n row extra) reach owned.reached only freeing owned.order
        (λ q k r. highest (λ j. j) (length was) q (inside was q (refers_not_free (row_at was q) k r)))
        (suc (sum_below (length was) (λ j. j))) p (omega arith) (is_and_gate (row_at was p) gate)

    new_term : (p : ℕ) → one_if (is_and (row_at now p) && (is_new was n p && kept p)) ≤ one_if (is_and (row_at now p) && after p)
    new_term p = one_le (is_and (row_at now p)) (is_new was n p && kept p) (after p) (λ h. let parts = and_parts (is_new was n p) (kept p) h in stays p parts.0 parts.1)

    at : (p : ℕ) → one_if (is_and (row_at was p)) + one_if (is_and (row_at now p) && (is_new was n p && kept p))
        ≤ one_if (is_and (row_at now p) && after p) + one_if (is_and (row_at was p) && ((p == n) || freed p))
    at p = elim (cases_Bool (p == n)) [
      | inl root ↦ omega (arith, new_term p, root_term (is_and (row_at was p)) (p == n) (freed p) root)
      | inr other ↦ elim (cases_Bool (is_free (row_at was p))) [
        | inl free ↦ omega (arith, new_term p, ap one_if (is_and_not_free (row_at was p) free))
        | inr there ↦
            subst (λ t. one_if (is_and (row_at was p)) + one_if (t && (is_new was n p && kept p)) ≤ one_if (t && after p) + one_if (is_and (row_at was p) && ((p == n) || freed p)))
            (sym (ap is_and (replaced_keeps was n row extra p (eqb-false p n other) there)))
            (old_term (is_and (row_at was p)) (is_new was n p) (kept p) (after p) (p == n) (freed p) (ap (λ t. t || is_free (row_at was p)) other ∙ there) (either p))
      ]
    ]

-- all ANDs of owned rows are reached
pub owned_ands : (was : List Row) (observed : List Lit) (counts : ℕ → ℕ) (n : ℕ) → IsOwned was observed counts n → Ands was observed (all_ands was)
owned_ands was observed counts n owned =
    all_ands_reached was observed (order_within was owned.order) (lits_from (length was) observed owned.within) (λ m h. owned.gates m (is_and_gate (row_at was m) h))

pub saved_is_bounded : SavedIsBounded
saved_is_bounded was observed counts n row extra kept spared k s there owned fits keeping holds but (j, l, before, (after, reach, e), is) =
    within (all_ands was) (ands_in after (replaced was n row extra)) (added was (replaced was n row extra) n kept) k s
    (ap pos (one_ands_is was observed (all_ands was) j (owned_ands was observed counts n owned) before) ∙ is ∙ ap (λ t. pos t +ℤ s) (sym e))
    (omega (arith, but.most, bounded_in_set was observed counts n row extra kept spared but.freed after owned keeping holds but.frees reach))
  where
    within : (a b c k : ℕ) (s : ℤ) → pos a ≡ (pos b +ℤ s) → a + c ≤ b + k → (s +ℤ pos c) ≤ℤ pos k
    within a b c k s e le = omega (arith, ints, e, le)

-- there is a number that is saved
pub some_saved : (was : List Row) (observed : List Lit) (counts : ℕ → ℕ) (n : ℕ) (row : Row) (extra : List Row) → n < length was → IsOwned was observed counts n → IsExtra (length was) row extra
    → (s : ℤ) × IsSaved was (replaced was n row extra) observed s
some_saved was observed counts n row extra there owned fits =
    let now = replaced was n row extra in
    let found = reached_set now observed (replaced_within was n row extra there owned.order fits)
    (lits_from (length now) observed (λ i d lt. omega (arith, owned.within i d lt, replaced_length was n row extra))) in
    (pos (all_ands was) -ℤ pos (ands_in found.0 now), (all_ands was, ands_in found.0 now, owned_ands was observed counts n owned, (found.0, found.1, refl), whole (all_ands was) (ands_in found.0 now)))
  where
    whole : (a b : ℕ) → pos a ≡ (pos b +ℤ (pos a -ℤ pos b))
    whole a b = omega (arith, ints)

-- where as many are added as go, nothing is saved
pub nothing_saved : (was : List Row) (observed : List Lit) (counts : ℕ → ℕ) (n : ℕ) (row : Row) (extra : List Row) (kept : ℕ → Bool) (spared : List ℕ) (k come : ℕ)
    → n < length was → IsOwned was observed counts n → IsExtra (length was) row extra → IsKept was (replaced was n row extra) n kept
    → ((m : ℕ) → has_node spared m ≡ true → IsHeld was n (uses was (replaced was n row extra) n kept) m)
    → IsMostLost was counts n spared k → come ≡ added was (replaced was n row extra) n kept → k ≤ come
    → (s : ℤ) × IsSaved was (replaced was n row extra) observed s × (s ≤ℤ pos 0)
nothing_saved was observed counts n row extra kept spared k come there owned fits keeping holds but is le =
    let some = some_saved was observed counts n row extra there owned fits in (
      some.0,
      some.1,
      none (added was (replaced was n row extra) n kept) some.0
          (saved_is_bounded was observed counts n row extra kept spared k some.0 there owned fits keeping holds but some.1) (omega (arith, is, le)),
    )
  where
    none : (c : ℕ) (s : ℤ) → (s +ℤ pos c) ≤ℤ pos k → k ≤ c → s ≤ℤ pos 0
    none c s bound le = omega (arith, ints, bound, le)

-- the root isn't among the freed rows
pub root_stays : (was : List Row) (counts : ℕ → ℕ) (n : ℕ) (used dead : List ℕ) → IsFreedByCount was counts n (open_to was n used) (λ m. has_node dead m) → has_node dead n ≡ false
root_stays was counts n used dead by = elim (cases_Bool (has_node dead n)) [
  | inr g ↦ g
  | inl h ↦ absurd (both_ways (n == n)
      (not-true (n == n) (and_parts (not (n == n)) (not (has_node used n)) (and_parts (is_derived (row_at was n)) (not (n == n) && not (has_node used n)) (by.least (open_to was n used) (λ m ok few. ok) n h)).1).0)
      (eq-eqb n n refl))
]

-- the number of a list of freed rows
pub lost_is_but : (was : List Row) (counts : ℕ → ℕ) (n : ℕ) (spared dead : List ℕ) (k : ℕ) → n < length was → IsFreedByCount was counts n (open_to was n spared) (λ m. has_node dead m)
    → k ≡ and_count (row_at was n) + ands_among was dead → IsMffcSize was counts n spared k
lost_is_but was counts n spared dead k there by is = record {
  freed = λ m. has_node dead m;
  freeing = by;
  lost = is ∙ sym (lost_is was n dead there (root_stays was counts n spared dead by));
}

pub most_of_but : (was : List Row) (counts : ℕ → ℕ) (n : ℕ) (spared : List ℕ) (k : ℕ) → IsMffcSize was counts n spared k → IsMostLost was counts n spared k
most_of_but was counts n spared k but = record { freed = but.freed; frees = but.freeing.frees; most = omega (arith, but.lost) }

-- all nodes obey the rule of freeing, and are no more than there are rows
pub most_of_all : (was : List Row) (counts : ℕ → ℕ) (n : ℕ) (spared : List ℕ) (k : ℕ) → length was ≤ k → IsMostLost was counts n spared k
most_of_all was counts n spared k le = record {
  freed = λ m. true;
  frees = λ m ok few. refl;
  most = omega (arith, le, count-le (length was) (λ m. is_and (row_at was m) && ((m == n) || true)));
}

-- a node of a list stands at some place
pub has_place : (xs : List ℕ) (n : ℕ) → has_node xs n ≡ true → (i : ℕ) × (i < length xs) × (get_or xs i 0 ≡ n)
has_place [] n h = absurd (cc)
has_place (x ∷ xs) n h = elim (here_or_there x n xs h) [
  | inl e ↦ (zero, omega arith, sym e)
  | inr there ↦ let rest = has_place xs n there in (suc rest.0, omega (arith, rest.1), rest.2)
]

-- what the listed used nodes hold, the kept rows hold
pub held_by_list : (was : List Row) (n : ℕ) (row : Row) (extra : List Row) (marks : List Bool) (used : List ℕ) (m : ℕ) → n < length was
    → ((q : ℕ) → q < length was → is_free (row_at was q) ≡ false) → IsKeeping (length was) row extra 0 marks used
    → IsHeld was n (has_node used) m → IsHeld was n (uses was (replaced was n row extra) n (kept_rows (length was) n marks)) m
held_by_list was n row extra marks used m there full k held = by_hold held
  where
    in_rows : (p : ℕ) → has_node used p ≡ true → uses was (replaced was n row extra) n (kept_rows (length was) n marks) p ≡ true
    in_rows p h = uses_same was n row extra marks used there full k p (k.using p h).0 ∙ h

    by_hold : IsHeld was n (has_node used) m → IsHeld was n (uses was (replaced was n row extra) n (kept_rows (length was) n marks)) m
    by_hold (inl h) = inl (in_rows m h)
    by_hold (inr (p, h, ne, r)) = inr (p, in_rows p h, ne, r)

-- where the sweep found that as many are added as go, nothing is saved
pub nothing_near : (was : List Row) (observed : List Lit) (counts : ℕ → ℕ) (n : ℕ) (row : Row) (extra : List Row) (marks : List Bool) (used spared : List ℕ) (k come : ℕ)
    → n < length was → IsOwned was observed counts n → IsExtra (length was) row extra → IsKeeping (length was) row extra 0 marks used
    → ((m : ℕ) → has_node spared m ≡ true → IsHeld was n (has_node used) m) → IsMostLost was counts n spared k
    → come ≡ and_count row + count_below (length extra) (λ m. is_and (row_at extra m) && value_in marks m) → k ≤ come
    → (s : ℤ) × IsSaved was (replaced was n row extra) observed s × (s ≤ℤ pos 0)
nothing_near was observed counts n row extra marks used spared k come there owned fits keeping holds but is le =
    nothing_saved was observed counts n row extra (kept_rows (length was) n marks) spared k come there owned fits
    (keeping_kept was n row extra marks used there owned.full keeping)
    (λ m h. held_by_list was n row extra marks used m there owned.full keeping (holds m h)) but
    (is ∙ sym (added_is was n row extra marks there owned.full)) le
