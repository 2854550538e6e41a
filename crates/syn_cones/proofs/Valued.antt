-- The truth of a node over leaves has its computed values.
use Rattle.std.proofs.Common.{◌≡◌, ℕ, zero, suc, ◌<◌, ◌≤◌, if◌then◌else◌, Bool, true, false, nat_eq, nat_lt, List, [], ◌∷◌, length, map, refl, sym, ap, ap₂, ◌∙◌, subst, arith, inl, inr}
use Rattle.std.proofs.lemmas.Bool.{and_parts, cases_lt, eq-eqb, eqb-true, false≢true, ne_eqb, ltb-true, or_cases, or_left, or_right}
use Rattle.std.proofs.lemmas.List.{get_or_past}
use Rattle.syn_rows.specs.declared.Row.{Row}
use Rattle.syn_rows.specs.declared.Row.TheVariants.{Free, Source, And, Alias}
use Rattle.syn_rows.specs.Rows.{row_at, InOrder, AllRefs}
use Rattle.syn_rows.specs.Values.{RowFits, row_value, value_in}
use Rattle.syn_rows.proofs.Folds.{IsLocal, fold_step, row_value-local}
use Rattle.syn_rows.specs.Nodes.{has_node}
use Rattle.syn_cones.specs.Cones.{FitsAt, FitsBetween}
use Rattle.syn_cones.specs.Leaves.{are_below, rise_above}
use Rattle.syn_cones.specs.Values.{TruthIsValueOver, leaf_value, row_value_over, values_over}

-- leaves have their values

other_leaves : (m : ℕ) (ms : List ℕ) (x : Bool) (xs : List Bool) (low : ℕ) (ns : List ℕ) → m ≤ low → rise_above low ns ≡ true → map (leaf_value (m ∷ ms) (x ∷ xs)) ns ≡ map (leaf_value ms xs) ns
other_leaves m ms x xs low [] le rise = refl
other_leaves m ms x xs low (n ∷ ns) le rise =
    let parts = and_parts (nat_lt low n) (rise_above n ns) rise in
    let above : low < n = ltb-true low n parts.0 in
    ap₂ (λ b bs. b ∷ bs) (ap (λ c. if c then x else leaf_value ms xs n) (ne_eqb m n (λ e. omega arith))) (other_leaves m ms x xs n ns (omega arith) parts.1)

leaves_have : (low : ℕ) (leaves : List ℕ) (xs : List Bool) → rise_above low leaves ≡ true → length xs ≡ length leaves → map (leaf_value leaves xs) leaves ≡ xs
leaves_have low [] [] rise long = refl
leaves_have low [] (x ∷ xs) rise long = absurd (omega arith)
leaves_have low (m ∷ ms) [] rise long = absurd (omega arith)
leaves_have low (m ∷ ms) (x ∷ xs) rise long =
    let parts = and_parts (nat_lt low m) (rise_above m ms) rise in
    ap₂ (λ b bs. b ∷ bs) (ap (λ c. if c then x else leaf_value ms xs m) (eq-eqb m m refl)) (other_leaves m ms x xs m ms (omega arith) parts.1 ∙ leaves_have m ms xs parts.1 (omega arith))

-- the computed values

over-local : (leaves : List ℕ) (xs : List Bool) → IsLocal (row_value_over leaves xs)
over-local leaves xs f g n row h = ap (λ (b : Bool). if has_node leaves n then leaf_value leaves xs n else b) (row_value-local (λ _. false) f g n row h)

over_step : (rows : List Row) (leaves : List ℕ) (xs : List Bool) → InOrder rows → (n : ℕ) → n < length rows
    → value_in (values_over rows leaves xs) n ≡ row_value_over leaves xs (value_in (values_over rows leaves xs)) n (row_at rows n)
over_step rows leaves xs order n lt = fold_step (row_value_over leaves xs) false (over-local leaves xs) [] rows n n (omega arith) lt (order n)

fits_from_value : (given v : ℕ → Bool) (n : ℕ) (row : Row) → v n ≡ row_value given v n row → RowFits v n row
fits_from_value given v n Free e = tt
fits_from_value given v n Source e = tt
fits_from_value given v n (And a b) e = e
fits_from_value given v n (Alias a) e = e

over_fits : (rows : List Row) (leaves : List ℕ) (xs : List Bool) → InOrder rows → (n : ℕ) → has_node leaves n ≡ false → RowFits (value_in (values_over rows leaves xs)) n (row_at rows n)
over_fits rows leaves xs order n inner = elim (cases_lt n (length rows)) [
  | inl lt ↦
      fits_from_value (λ _. false) (value_in (values_over rows leaves xs)) n (row_at rows n)
      (over_step rows leaves xs order n lt ∙ ap (λ c. if c then leaf_value leaves xs n else row_value (λ _. false) (value_in (values_over rows leaves xs)) n (row_at rows n)) inner)
  | inr ge ↦ subst (RowFits (value_in (values_over rows leaves xs)) n) (sym (get_or_past rows n Free ge)) tt
]

-- nothing but an open row stands first
first_false : (v : ℕ → Bool) (row : Row) → AllRefs (λ m. m < 0) row → row_value (λ _. false) v 0 row ≡ false
first_false v Free h = refl
first_false v Source h = refl
first_false v (And a b) h = absurd (omega (arith, h.0))
first_false v (Alias a) h = absurd (omega (arith, h))

over_fits_at : (rows : List Row) (leaves : List ℕ) (xs : List Bool) → InOrder rows → 0 < length rows → (n : ℕ) → has_node leaves n ≡ false → FitsAt rows (value_in (values_over rows leaves xs)) n
over_fits_at rows leaves xs order some zero inner =
    over_step rows leaves xs order 0 some
    ∙ ap (λ c. if c then leaf_value leaves xs 0 else row_value (λ _. false) (value_in (values_over rows leaves xs)) 0 (row_at rows 0)) inner
    ∙ first_false (value_in (values_over rows leaves xs)) (row_at rows 0) (order 0)
over_fits_at rows leaves xs order some (suc n) inner = over_fits rows leaves xs order (suc n) inner

mapped_alike : (f g : ℕ → Bool) (ns : List ℕ) → ((n : ℕ) → has_node ns n ≡ true → f n ≡ g n) → map f ns ≡ map g ns
mapped_alike f g [] same = refl
mapped_alike f g (n ∷ ns) same =
    ap₂ (λ b bs. b ∷ bs) (same n (or_left (nat_eq n n) (has_node ns n) (eq-eqb n n refl)))
    (mapped_alike f g ns (λ m has. same m (or_right (nat_eq n m) (has_node ns m) has)))

below_at : (high : ℕ) (ns : List ℕ) → are_below high ns ≡ true → (n : ℕ) → has_node ns n ≡ true → n < high
below_at high [] below n has = absurd (false≢true has)
below_at high (m ∷ ms) below n has =
    let parts = and_parts (nat_lt m high) (are_below high ms) below in
    elim (or_cases (nat_eq m n) (has_node ms n) has) [
      | inl e ↦ subst (λ k. k < high) (eqb-true m n e) (ltb-true m high parts.0)
      | inr more ↦ below_at high ms parts.1 n more
    ]

-- the node's computed value is its table's
pub truth_is_value_over : TruthIsValueOver
truth_is_value_over rows leaves node t order inside rise below truth xs long = truth.values xs long v fits has
  where
    v : ℕ → Bool
    v = value_in (values_over rows leaves xs)

    fits : FitsBetween rows leaves node v
    fits = λ n path led inner. over_fits_at rows leaves xs order (omega arith) n inner

    at_leaf : (n : ℕ) → has_node leaves n ≡ true → v n ≡ leaf_value leaves xs n
    at_leaf n leaf =
        let low = below_at node leaves below n leaf in
        over_step rows leaves xs order n (omega arith) ∙ ap (λ c. if c then leaf_value leaves xs n else row_value (λ _. false) v n (row_at rows n)) leaf

    has : map v leaves ≡ xs
    has = mapped_alike v (leaf_value leaves xs) leaves at_leaf ∙ leaves_have 0 leaves xs rise long
