-- No row refers to a node behind the last one, and no new row to one behind itself; and leaves that rise don't fall.
use Rattle.std.proofs.Common.{◌≡◌, ◌⊎◌, ℕ, zero, suc, ◌+◌, ◌<◌, ◌≤◌, ◌&&◌, ◌==◌, nat_lt, true, false, List, [], ◌∷◌, ◌++◌, length, get_or, None, Some, refl, sym, ap, ◌∙◌, subst, arith, inl, inr}
use Rattle.std.proofs.lemmas.Bool.{cases_Bool, cond-false, cond_both, and_parts, eqb-true, ltb-true, or_cases}
use Rattle.std.specs.List.Sorted.{IsNonDecreasing}
use Rattle.syn_rows.specs.declared.Lit.{Lit}
use Rattle.syn_rows.specs.declared.Row.{Row}
use Rattle.syn_rows.specs.declared.Row.TheVariants.{Free, Source, And, Alias}
use Rattle.syn_rows.specs.Rows.{node_of, row_at, AllRefs, InOrder}
use Rattle.syn_rows.specs.Joining.{is_and_of, lit_of, ordered_and, same_pair}
use Rattle.syn_rows.proofs.JoinLaws.{ordered_refs, same_lit}
use Rattle.syn_fanout_free.specs.Freed.{is_free, refers}
use Rattle.syn_fanout_free.proofs.Pointwise.{at_ref, inside, refers_first, refers_second}
use Rattle.syn_hashed.specs.Joined.{PairsOnce}
use Rattle.syn_hashed.proofs.Looking.{found_nowhere}
use Rattle.syn_gain.specs.Placing.{literal_below}
use Rattle.syn_gain.specs.Lookups.{AreNewRows, Gives}
use Rattle.syn_gain.specs.Leaves.{rise_above}
use Rattle.syn_gain.specs.Searching.{literal_new}
use Rattle.syn_gain.proofs.Bounds.{each_push}

pair_refs : (P : ℕ → Type 0) (x y : Lit) → AllRefs P (ordered_and x y) → P (node_of x) × P (node_of y)
pair_refs P x y = cond_both (nat_lt x.0 y.0) (And x y) (And y x) (λ row. AllRefs P row → P (node_of x) × P (node_of y)) (λ _ h. h) (λ _ h. (h.1, h.0))

pair_there : (x y : Lit) → is_free (ordered_and x y) ≡ false
pair_there x y = cond_both (nat_lt x.0 y.0) (And x y) (And y x) (λ row. is_free row ≡ false) (λ _. refl) (λ _. refl)

-- a pair with a new literal is that of no row
pub new_nowhere : (rows : List Row) → InOrder rows → (x y : Lit) → (length rows ≤ node_of x) ⊎ (length rows ≤ node_of y) → (n : ℕ) → row_at rows n ≡ ordered_and x y → ⊥
new_nowhere rows order x y new n e =
    let refs = pair_refs (λ m. m < n) x y (subst (AllRefs (λ m. m < n)) e (order n)) in
    let there = inside rows n (ap is_free e ∙ pair_there x y) in
    by_side refs.0 refs.1 there new
  where
    by_side : node_of x < n → node_of y < n → n < length rows → (length rows ≤ node_of x) ⊎ (length rows ≤ node_of y) → ⊥
    by_side first second there (inl far) = omega arith
    by_side first second there (inr far) = omega arith

risen : (low : ℕ) (ns : List ℕ) → rise_above low ns ≡ true → (j d : ℕ) → j < length ns → low < get_or ns j d
risen low [] h j d lt = absurd (omega arith)
risen low (n ∷ ns) h zero d lt = ltb-true low n (and_parts (nat_lt low n) (rise_above n ns) h).0
risen low (n ∷ ns) h (suc j) d lt =
    let parts = and_parts (nat_lt low n) (rise_above n ns) h in
    omega (arith, ltb-true low n parts.0, risen n ns parts.1 j d (omega (arith, lt)))

not_falling : (low : ℕ) (ns : List ℕ) → rise_above low ns ≡ true → (i j d : ℕ) → i ≤ j → j < length ns → get_or ns i d ≤ get_or ns j d
not_falling low [] h i j d le lt = absurd (omega arith)
not_falling low (n ∷ ns) h zero zero d le lt = omega arith
not_falling low (n ∷ ns) h zero (suc j) d le lt = omega (arith, risen n ns (and_parts (nat_lt low n) (rise_above n ns) h).1 j d (omega (arith, lt)))
not_falling low (n ∷ ns) h (suc i) zero d le lt = absurd (omega arith)
not_falling low (n ∷ ns) h (suc i) (suc j) d le lt = not_falling n ns (and_parts (nat_lt low n) (rise_above n ns) h).1 i j d (omega (arith, le)) (omega (arith, lt))

pub rising_leaves : (leaves : List ℕ) → rise_above 0 leaves ≡ true → IsNonDecreasing leaves
rising_leaves leaves h i j d le lt = not_falling 0 leaves h i j d le lt

-- a row of a pair refers to both of its nodes
same_refers : (x y a b : Lit) → same_pair x y a b ≡ true → (refers (And a b) (node_of x) ≡ true) × (refers (And a b) (node_of y) ≡ true)
same_refers x y a b h = elim (or_cases (x.0 == a.0 && y.0 == b.0) (x.0 == b.0 && y.0 == a.0) h) [
  | inl e ↦
      let parts = and_parts (x.0 == a.0) (y.0 == b.0) e in
      let xa : x ≡ a = same_lit x a (eqb-true x.0 a.0 parts.0) in
      let yb : y ≡ b = same_lit y b (eqb-true y.0 b.0 parts.1) in
      (ap (λ (l : Lit). refers (And a b) (node_of l)) xa ∙ refers_first a b, ap (λ (l : Lit). refers (And a b) (node_of l)) yb ∙ refers_second a b)
  | inr e ↦
      let parts = and_parts (x.0 == b.0) (y.0 == a.0) e in
      let xb : x ≡ b = same_lit x b (eqb-true x.0 b.0 parts.0) in
      let ya : y ≡ a = same_lit y a (eqb-true y.0 a.0 parts.1) in
      (ap (λ (l : Lit). refers (And a b) (node_of l)) xb ∙ refers_second a b, ap (λ (l : Lit). refers (And a b) (node_of l)) ya ∙ refers_first a b)
]

pub pair_refers : (x y : Lit) (row : Row) → is_and_of x y row ≡ true → (refers row (node_of x) ≡ true) × (refers row (node_of y) ≡ true)
pair_refers x y Free h = absurd (cc)
pair_refers x y Source h = absurd (cc)
pair_refers x y (And a b) h = same_refers x y a b h
pair_refers x y (Alias a) h = absurd (cc)

-- no new row has a pair where none of the first ones has
pub none_new : (first : ℕ) (extra : List Row) (k : ℕ) (x y : Lit) → ((i : ℕ) → i < k → is_and_of x y (row_at extra i) ≡ false) → literal_new first extra k x y ≡ None
none_new first extra zero x y each = refl
none_new first extra (suc k) x y each =
    cond-false (is_and_of x y (row_at extra k)) (Some (lit_of (first + k))) (literal_new first extra k x y) (each k (omega arith)) ∙ none_new first extra k x y (λ i lt. each i (omega arith))

-- a new row refers to no node behind it
pub not_behind : (first : ℕ) (extra : List Row) (x y l : Lit) (i : ℕ) → AreNewRows first extra → (l ≡ x) ⊎ (l ≡ y) → first + i ≤ node_of l → is_and_of x y (row_at extra i) ≡ false
not_behind first extra x y l i new one far = elim (cases_Bool (is_and_of x y (row_at extra i))) [
  | inr f ↦ f
  | inl t ↦
      let refs = pair_refers x y (row_at extra i) t in
      let named : refers (row_at extra i) (node_of l) ≡ true = elim one [
        | inl e ↦ ap (λ (z : Lit). refers (row_at extra i) (node_of z)) e ∙ refs.0
        | inr e ↦ ap (λ (z : Lit). refers (row_at extra i) (node_of z)) e ∙ refs.1
      ] in
      let under = at_ref (λ m. m < first + i) (row_at extra i) (new i) (node_of l) named in
      absurd (omega (arith, under, far))
]

-- one more new row, of nodes before it
pub new_rows_push : (first : ℕ) (extra : List Row) (x y : Lit) → AreNewRows first extra → node_of x < first + length extra → node_of y < first + length extra → AreNewRows first (extra ++ ordered_and x y ∷ [])
new_rows_push first extra x y new x_in y_in = each_push (λ i row. AllRefs (λ m. m < first + i) row) extra (ordered_and x y) Free new (ordered_refs (λ m. m < first + length extra) x y x_in y_in)

-- rows below a root give what is looked up there
pub rows_give : (rows : List Row) (root : ℕ) → InOrder rows → PairsOnce rows → Gives (λ x y found. found ≡ literal_below rows root x y) (length rows) (literal_below rows root)
rows_give rows root order pairs = record {
  right = λ x y found e. e;
  first_old = λ x y new. sym (found_nowhere rows pairs root x y (new_nowhere rows order x y (inl new)));
  second_old = λ x y new. sym (found_nowhere rows pairs root x y (new_nowhere rows order x y (inr new)));
}
