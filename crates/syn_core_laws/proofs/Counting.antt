-- Sums over nodes, numbers of entries, and sums over seats.
use Rattle.std.proofs.Common.{◌≡◌, ◌≢◌, ℕ, zero, suc, ◌+◌, ◌<◌, ◌≤◌, ◌||◌, Bool, true, false, nat_eq, if◌then◌else◌, List, [], ◌∷◌, ◌++◌, length, set, refl, sym, ap, ap₂, subst, arith, inl, inr, ◌+ℤ◌}
use Rattle.std.proofs.lemmas.Bool.{eq-eqb, ne_eqb, eqb-true, eqb-false, cases_eq}
use Rattle.std.proofs.lemmas.Int.{ints}
use mathlib.Core.Option.{some, some-injective, some-ne-none}
use lib.ListN.{get_elem?}
use Rattle.syn_core_laws.specs.declared.View.{View}
use Rattle.syn_rows.specs.References.{hits, times, sum_below}
use Rattle.syn_rows.specs.Nodes.{has_node}
use Rattle.syn_core_laws.specs.Lists.{without_one, without_each}
use Rattle.syn_core_laws.specs.Cores.{all_pins, differences}
use Rattle.syn_rows.proofs.Nodes.{here_or_there}

-- ---- sums over nodes
pub sum_same : (n : ℕ) (f g : ℕ → ℕ) → ((i : ℕ) → i < n → f i ≡ g i) → sum_below n f ≡ sum_below n g
sum_same zero f g h = refl
sum_same (suc n) f g h = ap₂ (λ a b. a + b) (sum_same n f g (λ i lt. h i (omega arith))) (h n (omega arith))

-- all terms but one stay
pub sum_change : (n k : ℕ) (f g : ℕ → ℕ) → k < n → ((i : ℕ) → i ≢ k → f i ≡ g i) → sum_below n f + g k ≡ sum_below n g + f k
sum_change zero k f g lt h = absurd (omega arith)
sum_change (suc n) k f g lt h = elim (cases_eq k n) [
  | inl e ↦
      let front : sum_below n f ≡ sum_below n g = sum_same n f g (λ i l. h i (λ same. omega arith)) in
      let here : f n ≡ f k = ap f (sym e) in
      let there : g n ≡ g k = ap g (sym e) in
      omega arith
  | inr ne ↦
      let front : sum_below n f + g k ≡ sum_below n g + f k = sum_change n k f g (omega arith) h in
      let here : f n ≡ g n = h n (λ same. ne (sym same)) in
      omega arith
]

pub sum_two : (n : ℕ) (f g h : ℕ → ℕ) → ((i : ℕ) → i < n → f i + g i ≤ h i) → sum_below n f + sum_below n g ≤ sum_below n h
sum_two zero f g h each = omega arith
sum_two (suc n) f g h each =
    let front : sum_below n f + sum_below n g ≤ sum_below n h = sum_two n f g h (λ i l. each i (omega arith)) in
    let here : f n + g n ≤ h n = each n (omega arith) in
    omega arith

pub sum_at : (n k : ℕ) (f : ℕ → ℕ) → k < n → f k ≤ sum_below n f
sum_at zero k f lt = absurd (omega arith)
sum_at (suc n) k f lt = elim (cases_eq k n) [
  | inl e ↦ let here : f n ≡ f k = ap f (sym e) in omega arith
  | inr ne ↦ let front : f k ≤ sum_below n f = sum_at n k f (omega arith) in omega arith
]

-- ---- numbers of entries
pub hits_same : (n : ℕ) → hits n n ≡ 1
hits_same n = ap (λ b. if b then 1 else 0) (eq-eqb n n refl)

pub hits_other : (m n : ℕ) → m ≢ n → hits m n ≡ 0
hits_other m n ne = ap (λ b. if b then 1 else 0) (ne_eqb m n ne)

pub hits_few : (m n : ℕ) → hits m n ≤ 1
hits_few m n = go (nat_eq m n)
  where
    go : (b : Bool) → (if b then 1 else 0) ≤ 1
    go true = omega arith
    go false = omega arith

pub times_has : (m : ℕ) (xs : List ℕ) → has_node xs m ≡ true → 1 ≤ times m xs
times_has m [] h = absurd (cc)
times_has m (x ∷ xs) h = elim (here_or_there x m xs h) [
  | inl e ↦ let one : hits m x ≡ 1 = subst (λ k. hits m k ≡ 1) e (hits_same m) in omega arith
  | inr r ↦ let more : 1 ≤ times m xs = times_has m xs r in omega arith
]

pub has_times : (m : ℕ) (xs : List ℕ) → 1 ≤ times m xs → has_node xs m ≡ true
has_times m [] h = absurd (omega arith)
has_times m (x ∷ xs) h = go (nat_eq x m) refl (has_times m xs)
  where
    go : (b : Bool) → nat_eq x m ≡ b → (1 ≤ times m xs → has_node xs m ≡ true) → (b || has_node xs m) ≡ true
    go true e ih = refl
    go false e ih = let none : hits m x ≡ 0 = hits_other m x (λ same. eqb-false x m e (sym same)) in ih (omega arith)

pub times_append : (m : ℕ) (xs ys : List ℕ) → times m (xs ++ ys) ≡ times m xs + times m ys
times_append m [] ys = omega arith
times_append m (x ∷ xs) ys = let ih : times m (xs ++ ys) ≡ times m xs + times m ys = times_append m xs ys in omega arith

pub times_less : (m n : ℕ) (xs : List ℕ) → 1 ≤ times n xs → times m (without_one n xs) + hits m n ≡ times m xs
times_less m n [] h = absurd (omega arith)
times_less m n (x ∷ xs) h = go (nat_eq x n) refl (times_less m n xs)
  where
    go : (b : Bool) → nat_eq x n ≡ b → (1 ≤ times n xs → times m (without_one n xs) + hits m n ≡ times m xs) → times m (if b then xs else x ∷ without_one n xs) + hits m n ≡ times m (x ∷ xs)
    go true e ih = let same : hits m n ≡ hits m x = ap (hits m) (sym (eqb-true x n e)) in omega arith
    go false e ih =
        let none : hits n x ≡ 0 = hits_other n x (λ same. eqb-false x n e (sym same)) in
        let rest : times m (without_one n xs) + hits m n ≡ times m xs = ih (omega arith) in
        omega arith

pub times_less_each : (m : ℕ) (xs ys : List ℕ) → ((k : ℕ) → times k xs ≤ times k ys) → times m (without_each xs ys) + times m xs ≡ times m ys
times_less_each m [] ys h = omega arith
times_less_each m (x ∷ xs) ys h =
    let one : hits x x ≡ 1 = hits_same x in
    let enough : 1 ≤ times x ys = omega (arith, h x) in
    let rest : times m (without_each xs (without_one x ys)) + times m xs ≡ times m (without_one x ys) =
    times_less_each m xs (without_one x ys) (λ k. omega (arith, h k, times_less k x ys enough)) in
    let here : times m (without_one x ys) + hits m x ≡ times m ys = times_less m x ys enough in
    omega arith

pub length_less : (n : ℕ) (xs : List ℕ) → length (without_one n xs) ≤ length xs
length_less n [] = omega arith
length_less n (x ∷ xs) = go (nat_eq x n) (length_less n xs)
  where
    go : (b : Bool) → length (without_one n xs) ≤ length xs → length (if b then xs else x ∷ without_one n xs) ≤ suc (length xs)
    go true ih = omega arith
    go false ih = omega arith

pub length_less_each : (xs ys : List ℕ) → length (without_each xs ys) ≤ length ys
length_less_each [] ys = omega arith
length_less_each (x ∷ xs) ys =
    let front : length (without_one x ys) ≤ length ys = length_less x ys in
    let rest : length (without_each xs (without_one x ys)) ≤ length (without_one x ys) = length_less_each xs (without_one x ys) in
    omega arith

-- ---- sums over seats
pub pins_set : (m : ℕ) (l : List View) (id : ℕ) (v w : View) → get_elem? l id ≡ some v → all_pins m (set l id w) + times m v.pins ≡ all_pins m l + times m w.pins
pins_set m [] id v w e = absurd (some-ne-none v (sym e))
pins_set m (x ∷ xs) zero v w e =
    let same : times m x.pins ≡ times m v.pins = ap (λ (z : View). times m z.pins) (some-injective x v e) in omega arith
pins_set m (x ∷ xs) (suc id) v w e = let rest : all_pins m (set xs id w) + times m v.pins ≡ all_pins m xs + times m w.pins = pins_set m xs id v w e in omega arith

pub pins_at : (m : ℕ) (l : List View) (id : ℕ) (v : View) → get_elem? l id ≡ some v → times m v.pins ≤ all_pins m l
pins_at m [] id v e = absurd (some-ne-none v (sym e))
pins_at m (x ∷ xs) zero v e =
    let same : times m x.pins ≡ times m v.pins = ap (λ (z : View). times m z.pins) (some-injective x v e) in omega arith
pins_at m (x ∷ xs) (suc id) v e = let rest : times m v.pins ≤ all_pins m xs = pins_at m xs id v e in omega arith

pub pins_two : (m : ℕ) (l : List View) (i j : ℕ) (v w : View) → i ≢ j → get_elem? l i ≡ some v → get_elem? l j ≡ some w → times m v.pins + times m w.pins ≤ all_pins m l
pins_two m [] i j v w ne ei ej = absurd (some-ne-none v (sym ei))
pins_two m (x ∷ xs) zero zero v w ne ei ej = absurd (ne refl)
pins_two m (x ∷ xs) zero (suc j) v w ne ei ej =
    let same : times m x.pins ≡ times m v.pins = ap (λ (z : View). times m z.pins) (some-injective x v ei) in
    let rest : times m w.pins ≤ all_pins m xs = pins_at m xs j w ej in omega arith
pins_two m (x ∷ xs) (suc i) zero v w ne ei ej =
    let same : times m x.pins ≡ times m w.pins = ap (λ (z : View). times m z.pins) (some-injective x w ej) in
    let rest : times m v.pins ≤ all_pins m xs = pins_at m xs i v ei in omega arith
pins_two m (x ∷ xs) (suc i) (suc j) v w ne ei ej =
    let rest : times m v.pins + times m w.pins ≤ all_pins m xs = pins_two m xs i j v w (λ e. ne (ap suc e)) ei ej in omega arith

pub differences_set : (l : List View) (id : ℕ) (v w : View) → get_elem? l id ≡ some v → differences (set l id w) +ℤ v.difference ≡ differences l +ℤ w.difference
differences_set [] id v w e = absurd (some-ne-none v (sym e))
differences_set (x ∷ xs) zero v w e =
    let same : x.difference ≡ v.difference = ap (λ (z : View). z.difference) (some-injective x v e) in omega (arith, ints)
differences_set (x ∷ xs) (suc id) v w e =
    let rest : differences (set xs id w) +ℤ v.difference ≡ differences xs +ℤ w.difference = differences_set xs id v w e in omega (arith, ints)
