-- In a netlist of graph shape each AND table is a reached AND, and nothing else is an AND.
use Rattle.std.proofs.Common.{if◌then◌else◌, ◌≡◌, ℕ, suc, ◌+◌, ◌<◌, ◌&&◌, Bool, true, false, List, [], ◌∷◌, ◌++◌, map, length, get_or, refl, ap, ◌∙◌, arith}
use Rattle.std.proofs.lemmas.Bool.{both_ways, and_from}
use Rattle.std.proofs.lemmas.List.{length-map, get_or-map}
use Rattle.syn_rows.specs.declared.Lit.{Lit}
use Rattle.syn_rows.specs.declared.Row.{Row}
use Rattle.syn_rows.specs.declared.Row.TheVariants.{Free, Source}
use Rattle.syn_rows.specs.Rows.{row_at, InOrder}
use Rattle.syn_rows.specs.Reach.{IsReachedSet, is_and, ands_from, ands_in, HasAnds}
use Rattle.syn_netlist.specs.Lists.{Table, sources}
use Rattle.syn_network.specs.GraphShape.{and_tables, node_names, row_shown, row_of, source_row, rows_of, observed_of, is_and_cover, GraphCountsAnds}
use Rattle.syn_network.proofs.Spelled.{spelled_in_order}

ands_from-append : (n : ℕ) (set : ℕ → Bool) (xs ys : List Row) → ands_from n set (xs ++ ys) ≡ ands_from n set xs + ands_from (n + length xs) set ys
ands_from-append n set [] ys =
    let same : ands_from n set ys ≡ ands_from (n + 0) set ys = ap (λ k. ands_from k set ys) (let s : n ≡ n + 0 = omega arith in s) in
    omega (arith, same)
ands_from-append n set (x ∷ xs) ys =
    let same : ands_from (n + 1 + length xs) set ys ≡ ands_from (n + suc (length xs)) set ys = ap (λ k. ands_from k set ys) (let s : n + 1 + length xs ≡ n + suc (length xs) = omega arith in s) in
    omega (arith, ands_from-append (n + 1) set xs ys, same)

no_sources : (n : ℕ) (set : ℕ → Bool) (ws : List (List ℕ)) → ands_from n set (map source_row ws) ≡ 0
no_sources n set [] = refl
no_sources n set (w ∷ ws) = omega (arith, no_sources (n + 1) set ws)

all_counted : (n : ℕ) (set : ℕ → Bool) (rows : List Row) → ((j : ℕ) → j < length rows → (is_and (row_at rows j) && set (n + j)) ≡ true) → ands_from n set rows ≡ length rows
all_counted n set [] h = refl
all_counted n set (row ∷ rows) h =
    let first : (is_and row && set n) ≡ true = ap (λ k. is_and row && set k) (let s : n ≡ n + 0 = omega arith in s) ∙ h 0 (omega arith) in
    let one : ◌≡◌ {A = ℕ} (if is_and row && set n then 1 else 0) 1 = ap (λ b. if b then 1 else 0) first in
    let rest = all_counted (n + 1) set rows (λ j lt. ap (λ k. is_and (row_at rows j) && set k) (let s : n + 1 + j ≡ n + suc j = omega arith in s) ∙ h (suc j) (omega arith)) in
    omega (arith, one, rest)

and_shown : (names inputs rows : List (List ℕ)) (on : Bool) → is_and_cover inputs rows on ≡ true → is_and (row_shown names inputs rows) ≡ true
and_shown names (a ∷ b ∷ []) ((c ∷ d ∷ []) ∷ []) on h = refl
and_shown names inputs rows on h = absurd (both_ways false refl h)

empty_table : Table
empty_table = record { inputs = []; output = []; rows = []; on = true }

pub graph_counts_ands_is : ((rows : List Row) (observed : List Lit) → InOrder rows → HasAnds rows observed) → GraphCountsAnds
graph_counts_ands_is has_word n shape order = (set, is_set, counted)
  where
    found : HasAnds (rows_of n) (observed_of n)
    found = has_word (rows_of n) (observed_of n) (spelled_in_order n shape order)

    set : ℕ → Bool
    set = found.1.0

    is_set : IsReachedSet (rows_of n) (observed_of n) set
    is_set = found.1.1

    front : List Row
    front = Source ∷ map source_row (sources n.frame)

    rows : List Row
    rows = map (row_of (node_names n)) (and_tables n)

    long : length front ≡ length (sources n.frame) + 1
    long = omega (arith, length-map (sources n.frame) source_row)

    each : (j : ℕ) → j < length rows → (is_and (row_at rows j) && set (0 + length front + j)) ≡ true
    each j lt =
        let inside : j < length (and_tables n) = omega (arith, length-map (and_tables n) (row_of (node_names n))) in
        let t = get_or (and_tables n) j empty_table in
        let marked : set (0 + length front + j) ≡ true = ap set (let s : 0 + length front + j ≡ length (sources n.frame) + 1 + j = omega (arith, long) in s) ∙ shape.reached j inside set is_set.closed is_set.observes in
        and_from (is_and (row_at rows j)) (set (0 + length front + j))
        (ap is_and (get_or-map (row_of (node_names n)) (and_tables n) j empty_table Free inside) ∙ and_shown (node_names n) t.inputs t.rows t.on (shape.ands j empty_table inside)) marked

    counted : ands_in set (rows_of n) ≡ length (and_tables n)
    counted = omega (arith, ands_from-append 0 set front rows, no_sources 1 set (sources n.frame), all_counted (0 + length front) set rows each, length-map (and_tables n) (row_of (node_names n)))
