-- The new rows that are kept are found from n alone; and the laws.
use Rattle.std.proofs.Common.{◌≡◌, ℕ, zero, suc, ◌+◌, ◌<◌, ◌||◌, ◌&&◌, ◌==◌, Bool, true, false, not, List, length, sym, ap, ◌∙◌, arith, inl, inr}
use Rattle.std.proofs.lemmas.Bool.{cases_Bool, cases_eq, eqb-false, ne_eqb, both_ways, and_parts, and_from, or_cases, or_from, or_left, or_right, not_from_false, not-true}
use Rattle.syn_rows.specs.declared.Lit.{Lit}
use Rattle.syn_rows.specs.declared.Row.{Row}
use Rattle.syn_rows.specs.Rows.{row_at, is_derived}
use Rattle.syn_rows.specs.Reach.{is_and, Reached, IsReachedSet, ands_in}
use Rattle.syn_rows.specs.References.{all_ands}
use Rattle.syn_fanout_free.specs.Freed.{is_free, refers, Keeps, is_new, IsFreed, SparesUsed, IsKept, any_below, uses, unused, RefersInside, IsReplacement, added, lost}
use Rattle.syn_fanout_free.specs.Laws.{FreedAreUnreached, SavedIsLocal, FewerAreUnreached, CountsTell}
use Rattle.syn_fanout_free.proofs.Pointwise.{at_ref, each_ref, at_literal, refers_not_free, inside, Observes, Closes, observes_of, closes_of, reached_in}
use Rattle.syn_fanout_free.proofs.Numbers.{count_same}
use Rattle.syn_fanout_free.proofs.Sets.{old_parts, stays, freed_unreached, SparesOnlyUsed, unreached_is_freed}
use Rattle.syn_fanout_free.proofs.Counts.{saved_balance, freed_from_counts, counts_from_freed}

-- a kept new row is reached
pub kept_reached : (was now : List Row) (observed : List Lit) (n : ℕ) (kept after : ℕ → Bool)
    → Keeps was now n → Reached was observed n → IsKept was now n kept → IsReachedSet now observed after
    → (p : ℕ) → is_new was n p ≡ true → kept p ≡ true → after p ≡ true
kept_reached was now observed n kept after keeps before k reach =
    k.least after (stays was now observed n after keeps before (observes_of observed after reach.observes) (closes_of now after reach.closed))
    (λ p new a. each_ref (λ m. is_new was n m ≡ true → after m ≡ true) (row_at now p) (λ m r fresh. closes_of now after reach.closed p m a r))

-- a new row that is reached is kept
pub reached_kept : (was now : List Row) (observed : List Lit) (n : ℕ) (kept after : ℕ → Bool)
    → Keeps was now n → RefersInside was observed → IsKept was now n kept → IsReachedSet now observed after
    → (p : ℕ) → is_new was n p ≡ true → after p ≡ true → kept p ≡ true
reached_kept was now observed n kept after keeps within k reach p new a =
    elim (or_cases (not (is_new was n p)) (kept p) (reached_in now observed p (reach.least p a) wide wide_closed wide_roots)) [
      | inl old ↦ absurd (both_ways (is_new was n p) (not-true (is_new was n p) old) new)
      | inr h ↦ h
    ]
  where
    -- all old rows, and of the new ones those that are kept
    wide : ℕ → Bool
    wide q = not (is_new was n q) || kept q

    old_wide : (q : ℕ) → is_free (row_at was q) ≡ false → wide q ≡ true
    old_wide q there = elim (cases_eq q n) [
      | inl e ↦ or_right (not (is_new was n q)) (kept q) (ap kept e ∙ k.root)
      | inr ne ↦ or_left (not (is_new was n q)) (kept q) (not_from_false (is_new was n q) (or_from (q == n) (is_free (row_at was q)) (ne_eqb q n ne) there))
    ]

    wide_roots : Observes observed wide
    wide_roots q seen = old_wide q (at_literal (λ m. is_free (row_at was m) ≡ false) observed within.observed_in q seen)

    wide_closed : Closes now wide
    wide_closed q m w r = elim (cases_Bool (is_new was n q)) [
      | inr old ↦
          let parts = old_parts was n q old in
          old_wide m (at_ref (λ j. is_free (row_at was j) ≡ false) (row_at was q) (within.rows_in q) m (ap (λ (x : Row). refers x m) (sym (keeps q parts.0 parts.1)) ∙ r))
      | inl fresh ↦ elim (cases_Bool (is_new was n m)) [
        | inr old ↦ or_left (not (is_new was n m)) (kept m) (not_from_false (is_new was n m) old)
        | inl also ↦ elim (or_cases (not (is_new was n q)) (kept q) w) [
          | inl old ↦ absurd (both_ways (is_new was n q) (not-true (is_new was n q) old) fresh)
          | inr h ↦ or_right (not (is_new was n m)) (kept m) (at_ref (λ j. is_new was n j ≡ true → kept j ≡ true) (row_at now q) (k.closed q fresh h) m r also)
        ]
      ]
    ]

pub any_below_at : (k : ℕ) (f : ℕ → Bool) (p : ℕ) → p < k → f p ≡ true → any_below k f ≡ true
any_below_at zero f p lt h = absurd (omega arith)
any_below_at (suc k) f p lt h = elim (cases_eq p k) [
  | inl e ↦ or_left (f k) (any_below k f) (ap f (sym e) ∙ h)
  | inr ne ↦ or_right (f k) (any_below k f) (any_below_at k f p (omega arith) h)
]

pub any_below_some : (k : ℕ) (f : ℕ → Bool) → any_below k f ≡ true → (p : ℕ) × (f p ≡ true)
any_below_some zero f h = absurd (cc)
any_below_some (suc k) f h = elim (or_cases (f k) (any_below k f) h) [
  | inl a ↦ (k, a)
  | inr b ↦ any_below_some k f b
]

-- what may be freed is not used by a reached new row
pub spares_used : (was now : List Row) (observed : List Lit) (n : ℕ) (rank : ℕ → ℕ) (kept after : ℕ → Bool)
    → IsReplacement was now observed n rank → IsKept was now n kept → IsReachedSet now observed after → SparesUsed was now n after (unused was now n kept)
spares_used was now observed n rank kept after r k reach m ok =
    let parts = and_parts (not (m == n)) (not (uses was now n kept m)) (and_parts (is_derived (row_at was m)) (not (m == n) && not (uses was now n kept m)) ok).1 in
    (eqb-false m n (not-true (m == n) parts.0), (λ p new a. free p new a (not-true (uses was now n kept m) parts.1)))
  where
    free : (p : ℕ) → is_new was n p ≡ true → after p ≡ true → uses was now n kept m ≡ false → refers (row_at now p) m ≡ false
    free p new a none = elim (cases_Bool (refers (row_at now p) m)) [
      | inr f ↦ f
      | inl t ↦ absurd (both_ways (uses was now n kept m) none (any_below_at (length now) (λ q. (is_new was n q && kept q) && refers (row_at now q) m) p
          (inside now p (refers_not_free (row_at now p) m t))
          (and_from (is_new was n p && kept p) (refers (row_at now p) m)
          (and_from (is_new was n p) (kept p) new (reached_kept was now observed n kept after r.keeps r.inside k reach p new a)) t)))
    ]

spares_only : (was now : List Row) (observed : List Lit) (n : ℕ) (rank : ℕ → ℕ) (kept after : ℕ → Bool)
    → IsReplacement was now observed n rank → IsKept was now n kept → IsReachedSet now observed after → SparesOnlyUsed was n after (unused was now n kept)
spares_only was now observed n rank kept after r k reach m ne there no_more =
    elim (cases_Bool (uses was now n kept m)) [
      | inr none ↦ absurd (both_ways (unused was now n kept m) no_more (and_from (is_derived (row_at was m)) (not (m == n) && not (uses was now n kept m)) there
          (and_from (not (m == n)) (not (uses was now n kept m)) (not_from_false (m == n) (ne_eqb m n ne)) (not_from_false (uses was now n kept m) none))))
      | inl some ↦ by_row (any_below_some (length now) (λ q. (is_new was n q && kept q) && refers (row_at now q) m) some)
    ]
  where
    by_row : (p : ℕ) × (((is_new was n p && kept p) && refers (row_at now p) m) ≡ true) → after m ≡ true
    by_row (p, h) =
        let parts = and_parts (is_new was n p && kept p) (refers (row_at now p) m) h in
        let first = and_parts (is_new was n p) (kept p) parts.0 in
        closes_of now after reach.closed p m (kept_reached was now observed n kept after r.keeps r.reached k reach p first.0 first.1) parts.1

pub freed_are_unreached : FreedAreUnreached
freed_are_unreached was now observed n rank kept freed after r local reach =
    unreached_is_freed was now observed n (unused was now n kept) after freed rank r.keeps reach r.reached
    (spares_used was now observed n rank kept after r local.keeping reach) (spares_only was now observed n rank kept after r local.keeping reach) local.freeing r.rises

pub saved_in_set : (was now : List Row) (observed : List Lit) (n : ℕ) (rank : ℕ → ℕ) (kept freed after : ℕ → Bool)
    → IsReplacement was now observed n rank → IsKept was now n kept → IsFreed was observed n (unused was now n kept) freed → IsReachedSet now observed after
    → all_ands was + added was now n kept ≡ ands_in after now + lost was n freed
saved_in_set was now observed n rank kept freed after r keeping freeing reach =
    ap (λ t. all_ands was + t)
    (count_same (length now) (λ p. is_and (row_at now p) && (is_new was n p && kept p)) (λ p. is_and (row_at now p) && (is_new was n p && after p)) (λ p. ap (λ t. is_and (row_at now p) && t) (same p)))
    ∙ saved_balance was now observed n (unused was now n kept) after freed rank r.keeps reach r.reached
    (spares_used was now observed n rank kept after r keeping reach) (spares_only was now observed n rank kept after r keeping reach) freeing r.rises r.longer
  where
    same : (p : ℕ) → (is_new was n p && kept p) ≡ (is_new was n p && after p)
    same p = elim (cases_Bool (is_new was n p)) [
      | inr old ↦ ap (λ t. t && kept p) old ∙ sym (ap (λ t. t && after p) old)
      | inl new ↦ ap (λ t. is_new was n p && t) (elim (cases_Bool (kept p)) [
        | inl h ↦ h ∙ sym (kept_reached was now observed n kept after r.keeps r.reached keeping reach p new h)
        | inr h ↦ elim (cases_Bool (after p)) [
          | inr a ↦ h ∙ sym a
          | inl a ↦ absurd (both_ways (kept p) h (reached_kept was now observed n kept after r.keeps r.inside keeping reach p new a))
        ]
      ])
    ]

pub saved_is_local : SavedIsLocal
saved_is_local was now observed n rank kept freed r local k (after, reach, e) =
    saved_in_set was now observed n rank kept freed after r local.keeping local.freeing reach ∙ ap (λ t. t + lost was n freed) e

pub fewer_are_unreached : FewerAreUnreached
fewer_are_unreached was now observed n may freed after keeps reach spares least = freed_unreached was now observed n may after freed keeps reach spares least

pub counts_tell : CountsTell
counts_tell was observed counts n may freed exact = (freed_from_counts was observed counts n may freed exact, counts_from_freed was observed counts n may freed exact)
