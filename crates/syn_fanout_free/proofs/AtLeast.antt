-- What is saved at least, where only some of the freed rows are known.
use Rattle.std.proofs.Common.{◌≡◌, ℕ, ◌+◌, ◌<◌, ◌≤◌, ◌||◌, ◌&&◌, ◌==◌, Bool, true, false, not, List, length, refl, ap, ◌∙◌, arith, inl, inr, ℤ, pos, ◌+ℤ◌, ◌-ℤ◌, ◌≤ℤ◌}
use Rattle.std.proofs.lemmas.Bool.{cases_Bool, eq-eqb, eqb-true, eqb-false, both_ways, and_parts, and_from, or_left, or_right, not-true}
use Rattle.std.proofs.lemmas.List.{get_or_past}
use Rattle.std.proofs.lemmas.Int.{ints}
use Rattle.syn_rows.specs.declared.Lit.{Lit}
use Rattle.syn_rows.specs.declared.Row.{Row}
use Rattle.syn_rows.specs.declared.Row.TheVariants.{Free}
use Rattle.syn_rows.specs.Rows.{row_at, is_derived}
use Rattle.syn_rows.specs.Values.{value_in}
use Rattle.syn_rows.specs.Reach.{is_and, ands_in, IsReachedSet}
use Rattle.syn_rows.specs.References.{and_count, all_ands}
use Rattle.syn_rows.specs.Nodes.{has_node}
use Rattle.syn_rows.proofs.Ends.{reached_set}
use Rattle.syn_fanout_free.specs.Freed.{is_free, is_new, unused, count_below, added, lost, FreesByCount, IsKept, IsReplacement}
use Rattle.syn_fanout_free.specs.Freeing.{AreFreed, open_to, ands_among}
use Rattle.syn_fanout_free.specs.Keeping.{IsKeeping}
use Rattle.syn_fanout_free.specs.Saved.{replaced, IsSaved, IsOwned, IsExtra}
use Rattle.syn_fanout_free.proofs.Bounded.{count_le, owned_ands}
use Rattle.syn_fanout_free.proofs.Counts.{frees_by_count}
use Rattle.syn_fanout_free.proofs.Ends.{added_is, keeping_kept, kept_rows, lost_is, unused_same}
use Rattle.syn_fanout_free.proofs.Kept.{reached_kept, spares_used}
use Rattle.syn_fanout_free.proofs.Numbers.{one_if, ands_count, count_beyond}
use Rattle.syn_fanout_free.proofs.Replaced.{replaced_keeps, replaced_length, replaced_within, lits_from, owned_inside}
use Rattle.syn_fanout_free.proofs.Sets.{unreached_frees}

-- The numbers at one node: was (a) and is (b) an AND, is n, is new, is reached, is freed, is kept.
and_le : (a x : Bool) → one_if (a && x) ≤ one_if a
and_le true true = omega arith
and_le true false = omega arith
and_le false x = omega arith

and_whole : (b x : Bool) → x ≡ true → one_if (b && x) ≡ one_if b
and_whole true x h = ap one_if h
and_whole false x h = refl

and_more : (b x y : Bool) → (x ≡ true → y ≡ true) → one_if (b && x) ≤ one_if (b && y)
and_more false x y h = omega arith
and_more true true y h = omega (arith, ap one_if (h refl))
and_more true false y h = omega arith

at_old : (a root after dead : Bool) → root ≡ false → (dead ≡ true → after ≡ false) → one_if (a && after) + one_if (a && (root || dead)) ≤ one_if a
at_old false root after dead e h = omega arith
at_old true true after dead e h = absurd (both_ways true e refl)
at_old true false true true e h = absurd (both_ways true (h refl) refl)
at_old true false true false e h = omega arith
at_old true false false true e h = omega arith
at_old true false false false e h = omega arith

-- the nodes that are known to be freed aren't reached, so that many go
at_least_in_set : (was now : List Row) (observed : List Lit) (n : ℕ) (kept dead after : ℕ → Bool)
    → IsReplacement was now observed n (λ j. j) → IsKept was now n kept → IsReachedSet now observed after → ((m : ℕ) → dead m ≡ true → after m ≡ false)
    → ands_in after now + lost was n dead ≤ all_ands was + added was now n kept
at_least_in_set was now observed n kept dead after r keeping reach gone =
    let far : (p : ℕ) → length was ≤ p → is_and (row_at was p) ≡ false = λ p ge. ap is_and (get_or_past was p Free ge) in
    let first : count_below (length now) (λ p. is_and (row_at was p)) ≡ count_below (length was) (λ p. is_and (row_at was p)) =
    count_beyond (length was) (length now) (λ p. is_and (row_at was p)) r.longer far in
    let last : count_below (length now) (λ p. is_and (row_at was p) && ((p == n) || dead p)) ≡ count_below (length was) (λ p. is_and (row_at was p) && ((p == n) || dead p)) =
    count_beyond (length was) (length now) (λ p. is_and (row_at was p) && ((p == n) || dead p)) r.longer (λ p ge. ap (λ t. t && ((p == n) || dead p)) (far p ge)) in
    let all = count_le (length now) (λ p. is_and (row_at now p) && after p) (λ p. is_and (row_at was p) && ((p == n) || dead p))
    (λ p. is_and (row_at was p)) (λ p. is_and (row_at now p) && (is_new was n p && kept p)) at in
    omega (arith, first, last, all, ands_count now after)
  where
    at : (p : ℕ) → one_if (is_and (row_at now p) && after p) + one_if (is_and (row_at was p) && ((p == n) || dead p))
        ≤ one_if (is_and (row_at was p)) + one_if (is_and (row_at now p) && (is_new was n p && kept p))
    at p = elim (cases_Bool (p == n)) [
      | inl root ↦
          let stays : (is_new was n p && kept p) ≡ true = and_from (is_new was n p) (kept p) (or_left (p == n) (is_free (row_at was p)) root) (ap kept (eqb-true p n root) ∙ keeping.root) in
          omega (arith, and_le (is_and (row_at now p)) (after p), and_le (is_and (row_at was p)) ((p == n) || dead p), and_whole (is_and (row_at now p)) (is_new was n p && kept p) stays)
      | inr other ↦ elim (cases_Bool (is_free (row_at was p))) [
        | inl free ↦
            let new : is_new was n p ≡ true = or_right (p == n) (is_free (row_at was p)) free in
            let more = and_more (is_and (row_at now p)) (after p) (is_new was n p && kept p) (λ a. and_from (is_new was n p) (kept p) new (reached_kept was now observed n kept after r.keeps r.inside keeping reach p new a)) in
            omega (arith, more, and_le (is_and (row_at was p)) ((p == n) || dead p))
        | inr there ↦
            let old = at_old (is_and (row_at was p)) (p == n) (after p) (dead p) other (gone p) in
            let same : one_if (is_and (row_at now p) && after p) ≡ one_if (is_and (row_at was p) && after p) = ap (λ (row : Row). one_if (is_and row && after p)) (r.keeps p (eqb-false p n other) there) in
            omega (arith, old, same)
      ]
    ]

-- where more of the freed rows are known than are added, something is saved
pub saved_at_least : (was : List Row) (observed : List Lit) (counts : ℕ → ℕ) (n : ℕ) (row : Row) (extra : List Row) (marks : List Bool) (used dead : List ℕ) (away come : ℕ)
    → n < length was → IsOwned was observed counts n → IsExtra (length was) row extra → IsKeeping (length was) row extra 0 marks used
    → AreFreed was counts n (open_to was n used) dead
    → away ≡ and_count (row_at was n) + ands_among was dead
    → come ≡ and_count row + count_below (length extra) (λ m. is_and (row_at extra m) && value_in marks m)
    → come < away
    → (s : ℤ) × IsSaved was (replaced was n row extra) observed s × (pos 1 ≤ℤ s)
saved_at_least was observed counts n row extra marks used dead away come there owned fits k freed e f less = (
  pos (all_ands was) -ℤ pos (ands_in found.0 now),
  (all_ands was, ands_in found.0 now, owned_ands was observed counts n owned, (found.0, found.1, refl), whole (all_ands was) (ands_in found.0 now)),
  some (all_ands was) (ands_in found.0 now) (omega (arith, many, e, f, less, lost_is was n dead there alive, added_is was n row extra marks there owned.full)),
)
  where
    now : List Row
    now = replaced was n row extra

    kept : ℕ → Bool
    kept = kept_rows (length was) n marks

    found : (s : ℕ → Bool) × IsReachedSet now observed s
    found = reached_set now observed (replaced_within was n row extra there owned.order fits)
        (lits_from (length now) observed (λ i d lt. omega (arith, owned.within i d lt, replaced_length was n row extra)))

    replacement : IsReplacement was now observed n (λ j. j)
    replacement = record {
      keeps = replaced_keeps was n row extra;
      longer = omega (arith, replaced_length was n row extra);
      reached = owned.reached;
      inside = owned_inside was observed counts n owned;
      rises = owned.order;
    }

    keeping : IsKept was now n kept
    keeping = keeping_kept was n row extra marks used there owned.full k

    same : (m : ℕ) → unused was now n kept m ≡ open_to was n used m
    same = unused_same was n row extra marks used there owned.full k

    -- what isn't reached obeys the rule of freeing by counts
    frees : FreesByCount was counts n (unused was now n kept) (λ m. not (found.0 m))
    frees = frees_by_count was observed counts n (unused was now n kept) (λ m. not (found.0 m)) (λ m ok. owned.counted m)
        (unreached_frees was now observed n (unused was now n kept) found.0 replacement.keeps found.1 (spares_used was now observed n (λ j. j) kept found.0 replacement keeping found.1))

    gone : (m : ℕ) → has_node dead m ≡ true → found.0 m ≡ false
    gone m h = not-true (found.0 m) (freed (λ q. not (found.0 q)) (λ q ok few. frees q (same q ∙ ok) few) m h)

    alive : has_node dead n ≡ false
    alive = elim (cases_Bool (has_node dead n)) [
      | inr g ↦ g
      | inl h ↦ absurd (both_ways (n == n)
          (not-true (n == n) (and_parts (not (n == n)) (not (has_node used n)) (and_parts (is_derived (row_at was n)) (not (n == n) && not (has_node used n)) (freed (open_to was n used) (λ m ok few. ok) n h)).1).0)
          (eq-eqb n n refl))
    ]

    many : ands_in found.0 now + lost was n (λ m. has_node dead m) ≤ all_ands was + added was now n kept
    many = at_least_in_set was now observed n kept (λ m. has_node dead m) found.0 replacement keeping found.1 gone

    whole : (a b : ℕ) → pos a ≡ (pos b +ℤ (pos a -ℤ pos b))
    whole a b = omega (arith, ints)

    some : (a b : ℕ) → b < a → pos 1 ≤ℤ (pos a -ℤ pos b)
    some a b lt = omega (arith, ints, lt)
