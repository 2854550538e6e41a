-- The generated netlist is in order, and what it costs.
use Rattle.std.proofs.Common.{◌≡◌, ℕ, zero, suc, ◌+◌, ◌*◌, ◌%◌, ◌<◌, ◌≤◌, nat_le, if◌then◌else◌, not, Bool, true, false, List, [], ◌∷◌, ◌++◌, length, map, flat_map, filter, sum_by, append_assoc, None, find, refl, sym, ap, ◌∙◌, arith}
use Rattle.std.specs.List.{list_all}
use Rattle.std.proofs.lemmas.Bool.{agree_below_at, and_from, and_parts, cond-false, leb-true, not_from_true}
use Rattle.std.proofs.lemmas.List.{append-nil, length-map}
use Rattle.std.proofs.lemmas.List.Sums.{count_by-le-length, length-filter, sum_by-cons}
use Rattle.std.proofs.lemmas.List.Sorted.{IsPermutation-refl}
use Rattle.syn_netlist.specs.Costs.{row_cost, table_cost}
use Rattle.syn_netlist.specs.Faults.{first_undriven, inputs_of, reads}
use Rattle.syn_netlist.specs.Lists.{output_of, sources}
use Rattle.syn_netlist.specs.Order.{Ordered, defined, reads_known}
use Rattle.syn_netlist.specs.Words.{distinct, has_word}
use Rattle.syn_gen.specs.Draws.{after_draws, draw, drawn}
use Rattle.syn_gen.specs.Generated.{generated, generated_tables, signal, signals, table_of, tables_from, truth_rows, unread}
use Rattle.syn_gen.specs.Laws.{GeneratedCosts, GeneratedIsChecked, GeneratedOutputs}
use Rattle.syn_gen.proofs.Named.{has_signal, length-signals, signals_distinct}

-- inputs, then outputs, are the names in order
pub names_in_order : (count n state : ℕ) → signals n ++ map output_of (tables_from count n state) ≡ signals (n + count)
names_in_order zero n state = append-nil (signals n) ∙ (let same : n ≡ n + 0 = omega arith in ap signals same)
names_in_order (suc count) n state =
    sym (append_assoc (signals n) (signal n ∷ []) (map output_of (tables_from count (suc n) (after_draws 4 state))))
    ∙ names_in_order count (suc n) (after_draws 4 state)
    ∙ (let same : suc n + count ≡ n + suc count = omega arith in ap signals same)

known_inputs : (n state : ℕ) → 0 < n → list_all (has_word (signals n)) (table_of n (drawn n state)).inputs ≡ true
known_inputs n state lt =
    let at : (k : ℕ) → has_word (signals n) (signal (draw k % n)) ≡ true = λ k. has_signal n (draw k % n) (omega arith) in
    and_from _ _ (at state) (and_from _ _ (at (after_draws 1 state)) (and_from _ _ (at (after_draws 2 state)) refl))

in_order : (count n state : ℕ) → 0 < n → reads_known (signals n) (tables_from count n state) ≡ true
in_order zero n state lt = refl
in_order (suc count) n state lt = and_from _ _ (known_inputs n state lt) (in_order count (suc n) (after_draws 4 state) (omega arith))

all_known : (count n all state : ℕ) → 0 < n → n + count ≤ all → list_all (has_word (signals all)) (flat_map inputs_of (tables_from count n state)) ≡ true
all_known zero n all state lt le = refl
all_known (suc count) n all state lt le =
    let at : (k : ℕ) → has_word (signals all) (signal (draw k % n)) ≡ true = λ k. has_signal all (draw k % n) (let low : draw k % n < n = omega arith in omega arith) in
    and_from _ _ (at state) (and_from _ _ (at (after_draws 1 state)) (and_from _ _ (at (after_draws 2 state)) (all_known count (suc n) all (after_draws 4 state) (omega arith) (omega arith))))

outputs_known : (count n all state : ℕ) → n + count ≤ all → list_all (has_word (signals all)) (map output_of (tables_from count n state)) ≡ true
outputs_known zero n all state le = refl
outputs_known (suc count) n all state le = and_from _ _ (has_signal all n (omega arith)) (outputs_known count (suc n) all (after_draws 4 state) (omega arith))

all_filter : (p test : List ℕ → Bool) (ws : List (List ℕ)) → list_all test ws ≡ true → list_all test (filter p ws) ≡ true
all_filter p test [] h = refl
all_filter p test (w ∷ ws) h = let parts = and_parts (test w) (list_all test ws) h in by (p w) parts.0 (all_filter p test ws parts.1)
  where
    by : (b : Bool) → test w ≡ true → list_all test (filter p ws) ≡ true → list_all test (if b then w ∷ filter p ws else filter p ws) ≡ true
    by true here rest = and_from (test w) (list_all test (filter p ws)) here rest
    by false here rest = rest

all-append : (test : List ℕ → Bool) (xs ys : List (List ℕ)) → list_all test xs ≡ true → list_all test ys ≡ true → list_all test (xs ++ ys) ≡ true
all-append test [] ys h k = k
all-append test (x ∷ xs) ys h k = let parts = and_parts (test x) (list_all test xs) h in and_from (test x) (list_all test (xs ++ ys)) parts.0 (all-append test xs ys parts.1 k)

none_lacks : (test : List ℕ → Bool) (ws : List (List ℕ)) → list_all test ws ≡ true → find (λ w. not (test w)) ws ≡ None
none_lacks test [] h = refl
none_lacks test (w ∷ ws) h =
    let parts = and_parts (test w) (list_all test ws) h in
    cond-false (not (test w)) _ _ (not_from_true (test w) parts.0) ∙ none_lacks test ws parts.1

sources_are : (seed size : ℕ) → sources (generated seed size).frame ≡ signals 16
sources_are seed size = append-nil (signals 16)

defined_are : (seed size : ℕ) → defined (generated seed size) ≡ signals (16 + size)
defined_are seed size = ap (λ (l : List (List ℕ)). l ++ map output_of (generated_tables seed size)) (sources_are seed size) ∙ names_in_order size 16 seed

pub generated_is_checked : GeneratedIsChecked
generated_is_checked seed size small = (ordered, record { driven = driven; order = (generated seed size).tables; ordered = record { permuted = IsPermutation-refl (generated_tables seed size); ordered = ordered } })
  where
    ordered : Ordered (generated seed size)
    ordered = record {
      once = record { clocks = refl; all = ap distinct (defined_are seed size) ∙ signals_distinct (16 + size) (omega arith) };
      above = ap (λ (known : List (List ℕ)). reads_known known (generated_tables seed size)) (sources_are seed size) ∙ in_order size 16 seed (omega arith);
    }

    test : List ℕ → Bool
    test = has_word (signals (16 + size))

    driven : first_undriven (generated seed size) ≡ None
    driven =
        ap (λ (known : List (List ℕ)). find (λ w. not (has_word known w)) (reads (generated seed size))) (defined_are seed size)
        ∙ none_lacks test (reads (generated seed size))
        (all-append test (unread (generated_tables seed size)) (flat_map inputs_of (generated_tables seed size))
        (all_filter (λ w. not (has_word (flat_map inputs_of (generated_tables seed size)) w)) test (map output_of (generated_tables seed size)) (outputs_known size 16 (16 + size) seed (omega arith)))
        (all_known size 16 (16 + size) seed (omega arith) (omega arith)))

-- the rows of each truth
truth_cost : (truth : ℕ) → truth < 255 → nat_le (sum_by row_cost (truth_rows truth)) 28 ≡ true
truth_cost truth lt = agree_below_at (λ t. nat_le (sum_by row_cost (truth_rows t)) 28) (λ _. true) 255 truth refl lt

costs_from : (count n state : ℕ) → sum_by table_cost (tables_from count n state) ≤ 28 * count
costs_from zero n state = omega arith
costs_from (suc count) n state =
    let rest = costs_from count (suc n) (after_draws 4 state) in
    let one = leb-true (sum_by row_cost (truth_rows (drawn n state).truth)) 28 (truth_cost (drawn n state).truth (let small : draw (after_draws 3 state) % 254 < 254 = omega arith in omega arith)) in
    let parts = sum_by-cons table_cost (table_of n (drawn n state)) (tables_from count (suc n) (after_draws 4 state)) in
    omega (arith, rest, one, parts)

pub generated_costs : GeneratedCosts
generated_costs seed size = (ap length (sources_are seed size) ∙ length-signals 16, costs_from size 16 seed)

so_many : (count n state : ℕ) → length (tables_from count n state) ≡ count
so_many zero n state = refl
so_many (suc count) n state = let rest = so_many count (suc n) (after_draws 4 state) in omega (arith, rest)

pub generated_outputs : GeneratedOutputs
generated_outputs seed size =
    let read : List ℕ → Bool = has_word (flat_map inputs_of (generated_tables seed size)) in
    let unread = length-filter (λ w. not (read w)) (map output_of (generated_tables seed size)) in
    let few = count_by-le-length (λ w. not (read w)) (map output_of (generated_tables seed size)) in
    let long = length-map (generated_tables seed size) output_of in
    let many = so_many size 16 seed in
    omega (arith, unread, few, long, many)
