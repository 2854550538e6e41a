-- What a seat holds or pins is a node of the state, and every count fits.
use Rattle.std.proofs.Common.{◌≡◌, ◌≢◌, ◌⊎◌, inl, inr, nat_eq, if◌then◌else◌, ap, ◌∙◌, ℕ, zero, suc, ◌+◌, ◌*◌, ◌^◌, ◌<◌, ◌≤◌, List, [], ◌∷◌, length, refl, sym, arith}
use mathlib.Core.Option.{some}
use lib.ListN.{get_elem?}
use Rattle.syn_rows.specs.declared.Row.{Row}
use Rattle.syn_rows.specs.declared.Row.TheVariants.{Free, Source, And, Alias}
use Rattle.syn_rows.specs.declared.Lit.{Lit}
use Rattle.syn_rows.specs.Rows.{node_of, row_at}
use Rattle.syn_rows.specs.References.{times, refs, sum_below, refs_by_literals}
use Rattle.syn_core_laws.specs.declared.View.{View}
use Rattle.syn_core_laws.specs.Cores.{Core, all_pins}
use Rattle.syn_core_laws.specs.Sound.{RowRests, IsSound}
use Rattle.syn_core_laws.specs.Bounds.{IsSmall, NodesAreThere, RowsPack, CountsFit}
use Rattle.syn_rows.specs.Packing.{Packs}
use Rattle.syn_core_laws.proofs.Seating.{row_there}
use Rattle.syn_core_laws.proofs.Pinning.{pin_there}
use Rattle.std.proofs.lemmas.Bool.{cases_eq, eq-eqb, ne_eqb}
use Rattle.syn_rows.specs.declared.TheConstants.{NODE_LIMIT}
use Rattle.syn_core_laws.proofs.Storing.{held_there}
use Rattle.syn_core_laws.proofs.Counting.{hits_few, sum_at}

-- ---- counts fit
times_few : (m : ℕ) (xs : List ℕ) → times m xs ≤ length xs
times_few m [] = omega arith
times_few m (x ∷ xs) = let rest : times m xs ≤ length xs = times_few m xs in omega (arith, hits_few m x)

refs_few : (m : ℕ) (r : Row) → refs m r ≤ 2
refs_few m Free = omega arith
refs_few m Source = omega arith
refs_few m (And a b) = omega (arith, hits_few m (node_of a), hits_few m (node_of b))
refs_few m (Alias a) = omega (arith, hits_few m (node_of a))

sum_few : (n m : ℕ) (rows : List Row) → sum_below n (λ i. refs m (row_at rows i)) ≤ 2 * n
sum_few zero m rows = omega arith
sum_few (suc n) m rows = let rest : sum_below n (λ i. refs m (row_at rows i)) ≤ 2 * n = sum_few n m rows in omega (arith, refs_few m (row_at rows n))

literals_few : (m : ℕ) (ls : List Lit) → refs_by_literals m ls ≤ length ls
literals_few m [] = omega arith
literals_few m (l ∷ ls) = let rest : refs_by_literals m ls ≤ length ls = literals_few m ls in omega (arith, hits_few m (node_of l))

-- the pins of the seats with this number
numbered : ℕ → ℕ → List View → ℕ
numbered m k [] = 0
numbered m k (v ∷ vs) = (if nat_eq v.number k then times m v.pins else 0) + numbered m k vs

-- no seat has the number: none of its pins
none_numbered : (m k : ℕ) (l : List View) → ((i : ℕ) (v : View) → get_elem? l i ≡ some v → v.number ≢ k) → numbered m k l ≡ 0
unfolding numbered
none_numbered m k [] h = refl
none_numbered m k (v ∷ vs) h =
    let rest : numbered m k vs ≡ 0 = none_numbered m k vs (λ i u e. h (suc i) u e) in
    let here : (if nat_eq v.number k then times m v.pins else 0) ≡ 0 = ap (λ b. if b then times m v.pins else 0) (ne_eqb v.number k (h zero v refl)) in
    omega arith

-- at most one seat has it
one_numbered : (m k : ℕ) (l : List View) → ((i j : ℕ) (v w : View) → get_elem? l i ≡ some v → get_elem? l j ≡ some w → v.number ≡ k → w.number ≡ k → i ≡ j)
    → ((i : ℕ) (v : View) → get_elem? l i ≡ some v → length v.pins ≤ 512) → numbered m k l ≤ 512
unfolding numbered
one_numbered m k [] one few = omega arith
one_numbered m k (v ∷ vs) one few = elim (cases_eq v.number k) [
  | inl is ↦
      let rest : numbered m k vs ≡ 0 = none_numbered m k vs (λ i u e same. let no_seat : zero ≡ suc i = one zero (suc i) v u refl e is same in absurd (omega arith)) in
      let here : (if nat_eq v.number k then times m v.pins else 0) ≡ times m v.pins = ap (λ b. if b then times m v.pins else 0) (eq-eqb v.number k is) in
      let pins : length v.pins ≤ 512 = few zero v refl in
      omega (arith, times_few m v.pins)
  | inr ne ↦
      let rest : numbered m k vs ≤ 512 = one_numbered m k vs (λ i j u w ei ej. one_later i j u w ei ej) (λ i u e. few (suc i) u e) in
      let here : (if nat_eq v.number k then times m v.pins else 0) ≡ 0 = ap (λ b. if b then times m v.pins else 0) (ne_eqb v.number k ne) in
      omega arith
]
  where
    one_later : (i j : ℕ) (u w : View) → get_elem? vs i ≡ some u → get_elem? vs j ≡ some w → u.number ≡ k → w.number ≡ k → i ≡ j
    one_later i j u w ei ej p q = let same : suc i ≡ suc j = one (suc i) (suc j) u w ei ej p q in omega arith

sum_most : (n most : ℕ) (f : ℕ → ℕ) → ((k : ℕ) → k < n → f k ≤ most) → sum_below n f ≤ most * n
sum_most zero most f h = omega arith
sum_most (suc n) most f h =
    let front : sum_below n f ≤ most * n = sum_most n most f (λ k lt. h k (omega arith)) in
    let here : f n ≤ most = h n (omega arith) in
    omega arith

sum_add : (n : ℕ) (f g : ℕ → ℕ) → sum_below n (λ k. f k + g k) ≡ sum_below n f + sum_below n g
sum_add zero f g = refl
sum_add (suc n) f g = let front : sum_below n (λ k. f k + g k) ≡ sum_below n f + sum_below n g = sum_add n f g in omega arith

-- all pins are those of numbers, where spent seats have none
pins_by_number : (m : ℕ) (l : List View) → ((i : ℕ) (v : View) → get_elem? l i ≡ some v → 64 ≤ v.number → v.pins ≡ []) → all_pins m l ≤ sum_below 64 (λ k. numbered m k l)
unfolding numbered
pins_by_number m [] spent = omega arith
pins_by_number m (v ∷ vs) spent =
    let rest : all_pins m vs ≤ sum_below 64 (λ k. numbered m k vs) = pins_by_number m vs (λ i u e. spent (suc i) u e) in
    let split : sum_below 64 (λ k. (if nat_eq v.number k then times m v.pins else 0) + numbered m k vs) ≡ sum_below 64 (λ k. if nat_eq v.number k then times m v.pins else 0) + sum_below 64 (λ k. numbered m k vs) =
    sum_add 64 (λ k. if nat_eq v.number k then times m v.pins else 0) (λ k. numbered m k vs) in
    let here : times m v.pins ≤ sum_below 64 (λ k. if nat_eq v.number k then times m v.pins else 0) = elim (number_kind v.number) [
      | inl lt ↦
          let at : (if nat_eq v.number v.number then times m v.pins else 0) ≤ sum_below 64 (λ k. if nat_eq v.number k then times m v.pins else 0) = sum_at 64 v.number (λ k. if nat_eq v.number k then times m v.pins else 0) lt in
          let is : (if nat_eq v.number v.number then times m v.pins else 0) ≡ times m v.pins = ap (λ b. if b then times m v.pins else 0) (eq-eqb v.number v.number refl) in
          omega arith
      | inr big ↦ let none : times m v.pins ≡ 0 = ap (times m) (spent zero v refl big) in omega arith
    ] in
    omega arith
  where
    number_kind : (n : ℕ) → (n < 64) ⊎ (64 ≤ n)
    number_kind n = grind arith

pins_few : (c : Core) (m : ℕ) → IsSound c → IsSmall c → all_pins m c.seats ≤ 512 * 64
pins_few c m s small =
    let each : sum_below 64 (λ k. numbered m k c.seats) ≤ 512 * 64 = sum_most 64 512 (λ k. numbered m k c.seats) (λ k lt. one_numbered m k c.seats
    (λ i j v w ei ej p q. s.apart i j v w ei ej (p ∙ sym q) (let less : v.number < 64 = omega arith in less)) (λ i v e. (s.seats i v e).few)) in
    omega (arith, pins_by_number m c.seats small.spent)

pub counts_fit : CountsFit
counts_fit c n s small =
    omega (arith, s.counted n, sum_few (length c.rows) n c.rows, literals_few n c.observed, pins_few c n s small, small.nodes, small.literals)

-- ---- what a seat may reach
pub nodes_are_there : NodesAreThere
nodes_are_there c id v n s at (inl held) = held_there c id v s at n held
nodes_are_there c id v n s at (inr may) = row_there c.rows n (pin_there c id v s at n may)

-- ---- rows fit a word
literal_packs : (rows : List Row) (l : Lit) → length rows < NODE_LIMIT → row_at rows (node_of l) ≢ Free → l.0 < 2 ^ 30
literal_packs rows l small used = let lt : node_of l < length rows = row_there rows (node_of l) used in omega arith

pub rows_pack : RowsPack
rows_pack c n s small = go (row_at c.rows n) (s.rests n)
  where
    go : (r : Row) → RowRests c.rows c.keys n r → Packs r
    go Free rest = tt
    go Source rest = tt
    go (And a b) rest = (literal_packs c.rows a small rest.0.0, literal_packs c.rows b small rest.1.0)
    go (Alias a) rest = literal_packs c.rows a small rest.0
