-- Which nodes are no longer reached after a replacement.
use Rattle.std.proofs.Common.{◌≡◌, ◌≢◌, ℕ, zero, suc, ◌+◌, ◌<◌, ◌≤◌, ◌&&◌, ◌==◌, Bool, true, false, not, List, length, refl, sym, ap, ◌∙◌, arith, inl, inr, ◌⊎◌}
use Rattle.std.proofs.lemmas.Bool.{cases_Bool, cases_eq, eq-eqb, eqb-false, ne_eqb, both_ways, and_parts, and_from, or_parts, not_from_false, not-true}
use Rattle.syn_rows.specs.declared.Lit.{Lit}
use Rattle.syn_rows.specs.declared.Row.{Row}
use Rattle.syn_rows.specs.Rows.{row_at, Rises, is_derived}
use Rattle.syn_rows.specs.Reach.{Reached, IsReachedSet}
use Rattle.syn_rows.specs.References.{sum_below}
use Rattle.syn_fanout_free.specs.Freed.{is_free, refers, Keeps, is_new, Frees, IsFreed, SparesUsed}
use Rattle.syn_fanout_free.proofs.Pointwise.{at_ref, refers_not_free, refers_gate, inside, observes, observes_none, none_observes, Observes, Closes, observes_of, closes_of, reached_in}
use Rattle.syn_fanout_free.proofs.Numbers.{highest}

-- an old row other than n's refers afterwards to what it referred to
pub old_refers : (was now : List Row) (n p m : ℕ) → Keeps was now n → p ≢ n → refers (row_at was p) m ≡ true → refers (row_at now p) m ≡ true
old_refers was now n p m keeps ne h = ap (λ r. refers r m) (keeps p ne (refers_not_free (row_at was p) m h)) ∙ h

-- a row that is not new is another than n's, and was not free
pub old_parts : (was : List Row) (n p : ℕ) → is_new was n p ≡ false → (p ≢ n) × (is_free (row_at was p) ≡ false)
old_parts was n p h = let parts = or_parts (p == n) (is_free (row_at was p)) h in (eqb-false p n parts.0, parts.1)

-- n itself stays reached: what was reached through n alone is n's
pub stays : (was now : List Row) (observed : List Lit) (n : ℕ) (s : ℕ → Bool)
    → Keeps was now n → Reached was observed n → Observes observed s → Closes now s → s n ≡ true
stays was now observed n s keeps reach roots closed = elim (cases_Bool (s n)) [
  | inl ya ↦ ya
  | inr na ↦ reached_in was observed n reach s (λ p m h r. closed p m h (old_refers was now n p m keeps (λ e. both_ways (s p) (ap s e ∙ na) h) r)) roots
]

-- what is no longer reached obeys the rule of freeing, so all that is freed is no longer reached
pub unreached_frees : (was now : List Row) (observed : List Lit) (n : ℕ) (may after : ℕ → Bool)
    → Keeps was now n → IsReachedSet now observed after → SparesUsed was now n after may → Frees was observed n may (λ m. not (after m))
unreached_frees was now observed n may after keeps reach spares m ok unseen refs = elim (cases_Bool (after m)) [
  | inl ya ↦ absurd (both_ways (less m) gone (reached_in now observed m (reach.least m ya) less less_closed less_roots))
  | inr na ↦ not_from_false (after m) na
]
  where
    less : ℕ → Bool
    less k = after k && not (k == m)

    gone : less m ≡ false
    gone = elim (cases_Bool (after m)) [
      | inl a ↦ ap (λ t. t && not (m == m)) a ∙ ap (λ t. not t) (eq-eqb m m refl)
      | inr a ↦ ap (λ t. t && not (m == m)) a
    ]

    other : (k : ℕ) → k ≢ m → not (k == m) ≡ true
    other k ne = not_from_false (k == m) (ne_eqb k m ne)

    less_roots : Observes observed less
    less_roots k h = and_from (after k) (not (k == m)) (observes_of observed after reach.observes k h)
        (other k (λ e. both_ways (observes observed k) (ap (observes observed) e ∙ none_observes observed m unseen) h))

    -- no node of the smaller set refers to m
    none : (p : ℕ) → after p ≡ true → refers (row_at now p) m ≡ true → ⊥
    none p a r = elim (cases_Bool (is_new was n p)) [
      | inl new ↦ both_ways (refers (row_at now p) m) ((spares m ok).1 p new a) r
      | inr old ↦
          let parts = old_parts was n p old in
          both_ways (after p) (not-true (after p) (refs p parts.0 (ap (λ (r : Row). refers r m) (sym (keeps p parts.0 parts.1)) ∙ r))) a
    ]

    less_closed : Closes now less
    less_closed p k h r =
        let a = (and_parts (after p) (not (p == m)) h).0 in
        and_from (after k) (not (k == m)) (closes_of now after reach.closed p k a r) (other k (λ e. none p a (ap (refers (row_at now p)) (sym e) ∙ r)))

pub freed_unreached : (was now : List Row) (observed : List Lit) (n : ℕ) (may after freed : ℕ → Bool)
    → Keeps was now n → IsReachedSet now observed after → SparesUsed was now n after may → IsFreed was observed n may freed
    → (m : ℕ) → freed m ≡ true → after m ≡ false
freed_unreached was now observed n may after freed keeps reach spares least m h =
    not-true (after m) (least.least (λ k. not (after k)) (unreached_frees was now observed n may after keeps reach spares) m h)

-- only n and reached nodes are spared of the ANDs and aliases
abbrev pub SparesOnlyUsed : List Row → ℕ → (ℕ → Bool) → (ℕ → Bool) → Type 0
SparesOnlyUsed was n after may = (m : ℕ) → m ≢ n → is_derived (row_at was m) ≡ true → may m ≡ false → after m ≡ true

-- one step of the induction below
reached_or_freed_step : (was now : List Row) (observed : List Lit) (n : ℕ) (may after freed : ℕ → Bool)
    → Keeps was now n → IsReachedSet now observed after → Reached was observed n → SparesOnlyUsed was n after may → Frees was observed n may freed
    → (m : ℕ) → ((p : ℕ) → refers (row_at was p) m ≡ true → (after p ≡ true) ⊎ (freed p ≡ true))
    → is_derived (row_at was m) ≡ true → (after m ≡ true) ⊎ (freed m ≡ true)
reached_or_freed_step was now observed n may after freed keeps reach before spares frees m above there =
    elim (cases_eq m n) [
      | inl e ↦ inl (ap after e ∙ stays was now observed n after keeps before (observes_of observed after reach.observes) (closes_of now after reach.closed))
      | inr ne ↦ elim (cases_Bool (observes observed m)) [
        | inl seen ↦ inl (observes_of observed after reach.observes m seen)
        | inr unseen ↦ elim (cases_Bool (may m)) [
          | inr used ↦ inl (spares m ne there used)
          | inl open_to ↦ elim (cases_Bool (after m)) [
            | inl kept ↦ inl kept
            | inr gone ↦ inr (frees m open_to (observes_none observed m unseen) (λ p other r. in_freed gone p other r (above p r)))
          ]
        ]
      ]
    ]
  where
    in_freed : after m ≡ false → (p : ℕ) → p ≢ n → refers (row_at was p) m ≡ true → (after p ≡ true) ⊎ (freed p ≡ true) → freed p ≡ true
    in_freed gone p other r (inr f) = f
    in_freed gone p other r (inl a) = absurd (both_ways (after m) gone (closes_of now after reach.closed p m a (old_refers was now n p m keeps other r)))

-- Each AND or alias is reached afterwards, or is in each set that obeys the rule of freeing: by induction along the ranks, from above.
pub reached_or_freed : (was now : List Row) (observed : List Lit) (n : ℕ) (may after freed : ℕ → Bool) (rank : ℕ → ℕ) (top : ℕ)
    → Keeps was now n → IsReachedSet now observed after → Reached was observed n → SparesOnlyUsed was n after may → Frees was observed n may freed
    → Rises was rank → ((p m : ℕ) → refers (row_at was p) m ≡ true → rank p < top)
    → (fuel m : ℕ) → top ≤ rank m + fuel → is_derived (row_at was m) ≡ true → (after m ≡ true) ⊎ (freed m ≡ true)
reached_or_freed was now observed n may after freed rank top keeps reach before spares frees rises below zero m enough there =
    reached_or_freed_step was now observed n may after freed keeps reach before spares frees m
    (λ p r. absurd (omega (arith, enough, at_ref (λ k. rank k < rank p) (row_at was p) (rises p) m r, below p m r))) there
reached_or_freed was now observed n may after freed rank top keeps reach before spares frees rises below (suc fuel) m enough there =
    reached_or_freed_step was now observed n may after freed keeps reach before spares frees m
    (λ p r. reached_or_freed was now observed n may after freed rank top keeps reach before spares frees rises below fuel p (omega (arith, enough, at_ref (λ k. rank k < rank p) (row_at was p) (rises p) m r)) (refers_gate (row_at was p) m r)) there

-- THE LAW ON SETS: of the ANDs and aliases, those no longer reached are the freed ones.
pub unreached_is_freed : (was now : List Row) (observed : List Lit) (n : ℕ) (may after freed : ℕ → Bool) (rank : ℕ → ℕ)
    → Keeps was now n → IsReachedSet now observed after → Reached was observed n
    → SparesUsed was now n after may → SparesOnlyUsed was n after may → IsFreed was observed n may freed → Rises was rank
    → (m : ℕ) → is_derived (row_at was m) ≡ true → after m ≡ not (freed m)
unreached_is_freed was now observed n may after freed rank keeps reach before spares only least rises m there =
    elim (cases_Bool (freed m)) [
      | inl f ↦ freed_unreached was now observed n may after freed keeps reach spares least m f ∙ sym (ap not f)
      | inr f ↦ elim (reached_or_freed was now observed n may after freed rank (suc (sum_below (length was) rank)) keeps reach before only least.frees rises
          (λ p k r. highest rank (length was) p (inside was p (refers_not_free (row_at was p) k r)))
          (suc (sum_below (length was) rank)) m (omega arith) there) [
            | inl a ↦ a ∙ sym (ap not f)
            | inr g ↦ absurd (both_ways (freed m) f g)
          ]
    ]
