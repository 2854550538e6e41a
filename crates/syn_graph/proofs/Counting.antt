-- Every AND of a graph counts, and references of rows and literals.
use Rattle.std.proofs.Common.{if◌then◌else◌, ◌≡◌, ℕ, zero, suc, ◌+◌, ◌-◌, ◌*◌, ◌<◌, ◌≤◌, ◌&&◌, Bool, true, false, List, [], ◌∷◌, length, nat_eq, refl, ap, ◌∙◌, arith, inl, inr}
use Rattle.std.proofs.lemmas.Bool.{cases_lt, cases_Bool, and_from}
use Rattle.syn_rows.specs.declared.Lit.{Lit}
use Rattle.syn_rows.specs.declared.Row.{Row}
use Rattle.syn_rows.specs.declared.Row.TheVariants.{Free, Source, And, Alias}
use Rattle.syn_rows.specs.Rows.{node_of, row_at, InOrder}
use Rattle.syn_rows.specs.Reach.{IsReachedSet, is_and, ands_from, Ands, HasAnds}
use Rattle.syn_rows.specs.References.{hits, refs, sum_below, refs_by_literals}
use Rattle.syn_hashed.specs.Hashed.{is_gate}
use Rattle.syn_graph.specs.Graphs.{IsGraph}
use Rattle.syn_hashed.proofs.Orders.{hashed_in_order}

-- rows of which those from `front` on are ANDs of the set, and those before are none
all_counted : (set : ℕ → Bool) (front n : ℕ) (rows : List Row) → front ≤ n + length rows → ((j : ℕ) → j < length rows → n + j < front → is_and (row_at rows j) ≡ false)
    → ((j : ℕ) → j < length rows → front ≤ n + j → (is_and (row_at rows j) && set (n + j)) ≡ true) → ands_from n set rows + (front - n) ≡ length rows
all_counted set front n [] long low high = omega arith
all_counted set front n (row ∷ rows) long low high =
    let rest : ands_from (n + 1) set rows + (front - (n + 1)) ≡ length rows = all_counted set front (n + 1) rows (omega arith)
    (λ j lt k. low (suc j) (omega arith) (omega arith))
    (λ j lt k. ap (λ i. is_and (row_at rows j) && set i) (let s : n + 1 + j ≡ n + suc j = omega arith in s) ∙ high (suc j) (omega arith) (omega arith)) in
    elim (cases_lt n front) [
      | inl under ↦
          let none : is_and row ≡ false = low 0 (omega arith) (omega arith) in
          let zero_more : ◌≡◌ {A = ℕ} (if is_and row && set n then 1 else 0) 0 = ap (λ b. if b && set n then 1 else 0) none in
          omega (arith, rest, zero_more, under)
      | inr over ↦
          let one : (is_and row && set n) ≡ true = ap (λ i. is_and row && set i) (let s : n ≡ n + 0 = omega arith in s) ∙ high 0 (omega arith) (omega arith) in
          let one_more : ◌≡◌ {A = ℕ} (if is_and row && set n then 1 else 0) 1 = ap (λ b. if b then 1 else 0) one in
          omega (arith, rest, one_more, over)
    ]

gate_and : (n : ℕ) (row : Row) → is_gate n row ≡ true → is_and row ≡ true
gate_and n Free h = h
gate_and n Source h = h
gate_and n (And a b) h = refl
gate_and n (Alias a) h = h

pub graph_ands : (count : ℕ) (rows : List Row) (lits : List Lit) (k : ℕ) → ((rows : List Row) (observed : List Lit) → InOrder rows → HasAnds rows observed) → IsGraph count rows lits → k + (count + 1) ≡ length rows → Ands rows lits k
graph_ands count rows lits k has_word g counted = (set, is_set, omega (arith, counted, total))
  where
    found : HasAnds rows lits
    found = has_word rows lits (hashed_in_order count rows g.hashed)

    set : ℕ → Bool
    set = found.1.0

    is_set : IsReachedSet rows lits set
    is_set = found.1.1

    total : ands_from 0 set rows + (count + 1 - 0) ≡ length rows
    total = all_counted set (count + 1) 0 rows (omega (arith, g.hashed.there)) (λ j lt low. ap is_and (g.hashed.front j (omega arith)))
        (λ j lt high. and_from (is_and (row_at rows j)) (set (0 + j)) (gate_and j (row_at rows j) (g.hashed.gates j (omega arith) lt))
        (ap set (let s : 0 + j ≡ j = omega arith in s) ∙ g.reached j (omega arith) lt set is_set.closed is_set.observes))

-- references

pub hits_few : (m n : ℕ) → hits m n ≤ 1
hits_few m n = elim (cases_Bool (nat_eq m n)) [
  | inl t ↦ (let e : hits m n ≡ 1 = ap (λ b. if b then 1 else 0) t in omega (arith, e))
  | inr f ↦ (let e : hits m n ≡ 0 = ap (λ b. if b then 1 else 0) f in omega (arith, e))
]

pub refs_few : (m : ℕ) (row : Row) → refs m row ≤ 2
refs_few m Free = omega arith
refs_few m Source = omega arith
refs_few m (And a b) = omega (arith, hits_few m (node_of a), hits_few m (node_of b))
refs_few m (Alias a) = omega (arith, hits_few m (node_of a))

pub rows_few : (m n : ℕ) (rows : List Row) → sum_below n (λ i. refs m (row_at rows i)) ≤ 2 * n
rows_few m zero rows = omega arith
rows_few m (suc n) rows = omega (arith, rows_few m n rows, refs_few m (row_at rows n))

pub literals_few : (m : ℕ) (lits : List Lit) → refs_by_literals m lits ≤ length lits
literals_few m [] = omega arith
literals_few m (l ∷ ls) = omega (arith, literals_few m ls, hits_few m (node_of l))
